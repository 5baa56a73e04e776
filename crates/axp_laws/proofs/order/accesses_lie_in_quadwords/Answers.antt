use Rattle.axp_model.specs.Accesses.{accesses}
use Rattle.axp_model.specs.Processors.{IsInLine}
use Rattle.axp_laws.proofs.RunFacts.{KnownItem}
use Rattle.axp_laws.proofs.RunRecords.{run_fits}
use Rattle.axp_laws.proofs.RunSteps.{each_map, kept}
use Rattle.axp_laws.proofs.order.accesses_lie_in_quadwords.Goals as goal

pub returns : goal.returns
returns c = λ h run. each_map (KnownItem h) (λ u. IsInLine u.access.address u.access.size) (accesses h) (λ u known. known.inside) (kept h (run_fits run.image run.processors h run.inside run.legal)).items
