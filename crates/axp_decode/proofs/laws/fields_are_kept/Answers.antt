use Rattle.axp_decode.proofs.InstructionRoundTrip.{instr_of-word_of}
use Rattle.axp_decode.proofs.laws.fields_are_kept.Goals as goal

pub returns : goal.returns
returns c = instr_of-word_of
