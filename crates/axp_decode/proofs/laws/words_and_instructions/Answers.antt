use Rattle.std.proofs.Common.{ap}
use Rattle.axp_decode.specs.Format.{instr_of}
use Rattle.axp_decode.proofs.WordRoundTrip.{word_of-instr_of}
use Rattle.axp_decode.proofs.laws.words_and_instructions.Goals as goal

pub returns : goal.returns
returns c = record { word = word_of-instr_of; instruction = λ w small. ap instr_of (word_of-instr_of w small) }
