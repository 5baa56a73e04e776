use Rattle.axp_laws.proofs.SourceValues.{run_storage}
use Rattle.axp_laws.proofs.SourceRuns.{run_bytes}
use Rattle.axp_laws.proofs.storage.storage_is_kept.Goals as goal

pub returns : goal.returns
returns c = record { value = λ h run. run_storage run.image run.processors h run.inside run.legal; bytes = λ h run small. run_bytes run.image run.processors h small run.inside run.legal }
