use Rattle.axp_laws.proofs.OrderPlaces.{run_bounded}
use Rattle.axp_laws.proofs.order.places_are_bounded.Goals as goal

pub returns : goal.returns
returns c = λ h run. run_bounded run.image run.processors h run.inside run.legal
