use Rattle.axp_decode.proofs.Words.{stands_for, instr_of-stands_for}
use Rattle.axp_decode.proofs.laws.words_stand_for_instructions.Goals as goal

pub returns : goal.returns
returns c = λ w i. (stands_for w i, instr_of-stands_for w i)
