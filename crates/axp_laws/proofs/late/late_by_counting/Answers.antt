use Rattle.axp_laws.proofs.LateCounts.{counted}
use Rattle.axp_laws.proofs.RunRecords.{run_fits}
use Rattle.axp_laws.proofs.late.late_by_counting.Goals as goal

pub returns : goal.returns
returns c = λ h run p b. counted p b h (run_fits run.image run.processors h run.inside run.legal)
