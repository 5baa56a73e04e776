use Rattle.axp_inval.proofs.PairLemmas.{later_exactly}
use Rattle.axp_inval.proofs.laws.later_is_a_kept_pair.Goals as goal

pub returns : goal.returns
returns c = later_exactly
