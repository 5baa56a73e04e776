use Rattle.axp_laws.proofs.SourceRuns.{run_memory}
use Rattle.axp_laws.proofs.storage.memory_of_past_turns_stays.Goals as goal

pub returns : goal.returns
returns c = λ more h n at run. run_memory run.image run.processors more h n at run.inside run.legal
