use Rattle.axp_laws.proofs.RunSteps.{keeps_order}
use Rattle.axp_laws.proofs.order.order_is_kept.Goals as goal

pub returns : goal.returns
returns c = λ h run. keeps_order run.image run.processors h run.inside run.legal
