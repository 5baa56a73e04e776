use Rattle.axp_seed.proofs.NextLemmas.{none_next}
use Rattle.axp_seed.proofs.WalkLemmas.{after_end}
use Rattle.axp_seed.proofs.laws.complete_runs_stay.Goals as goal

pub returns-clause-none : goal.returns-clause-none
returns-clause-none c = none_next

pub returns-clause-stays : goal.returns-clause-stays
returns-clause-stays c = after_end
