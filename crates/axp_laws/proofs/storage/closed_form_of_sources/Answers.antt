use Rattle.axp_laws.proofs.SourceRuns.{run_read, run_locked, run_fetch}
use Rattle.axp_laws.proofs.storage.closed_form_of_sources.Goals as goal

pub returns : goal.returns
returns c = record { of_a_read = λ more r h a at run. run_read run.image run.processors more r h a at run.inside run.legal; of_a_load_locked = λ more r h a at run. run_locked run.image run.processors more r h a at run.inside run.legal; of_a_fetch = λ more r h a at run. run_fetch run.image run.processors more r h a at run.inside run.legal }
