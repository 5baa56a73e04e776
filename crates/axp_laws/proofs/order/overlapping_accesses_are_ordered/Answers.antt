use Rattle.axp_laws.proofs.OrderPlaces.{run_located}
use Rattle.axp_laws.proofs.order.overlapping_accesses_are_ordered.Goals as goal

pub returns : goal.returns
returns c = λ h run. run_located run.image run.processors h run.inside run.legal
