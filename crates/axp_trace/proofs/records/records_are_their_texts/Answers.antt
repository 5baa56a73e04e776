use Rattle.axp_trace.proofs.RecordLawLemmas.{record_is_text}
use Rattle.axp_trace.proofs.records.records_are_their_texts.Goals as goal

pub returns : goal.returns
returns c = record_is_text
