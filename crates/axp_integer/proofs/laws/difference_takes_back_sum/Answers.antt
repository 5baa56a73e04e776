use Rattle.axp_integer.proofs.QuadwordLemmas.{subtracted_again}
use Rattle.axp_integer.proofs.laws.difference_takes_back_sum.Goals as goal

pub returns : goal.returns
returns c = subtracted_again
