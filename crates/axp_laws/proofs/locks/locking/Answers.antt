use Rattle.axp_laws.proofs.RunRecords.{run_fits}
use Rattle.axp_laws.proofs.LockGuards.{keeps_locking}
use Rattle.axp_laws.proofs.locks.locking.Goals as goal

pub returns : goal.returns
returns c = λ h run. keeps_locking h (run_fits run.image run.processors h run.inside run.legal)
