use Rattle.axp_trace.proofs.TailLawLemmas.{tail_is_text}
use Rattle.axp_trace.proofs.tails.tails_are_their_texts.Goals as goal

pub returns : goal.returns
returns c = tail_is_text
