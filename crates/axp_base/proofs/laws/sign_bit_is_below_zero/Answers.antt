use Rattle.axp_base.proofs.SignLemmas.{negative_is_below}
use Rattle.axp_base.proofs.laws.sign_bit_is_below_zero.Goals as goal

pub returns : goal.returns
returns c = negative_is_below
