use Rattle.axp_trace.proofs.HeaderLemmas.{header_is_text}
use Rattle.axp_trace.proofs.headers.headers_are_their_texts.Goals as goal

pub returns : goal.returns
returns c = header_is_text
