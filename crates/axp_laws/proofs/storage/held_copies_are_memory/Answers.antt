use Rattle.axp_laws.proofs.SourceCopies.{run_held}
use Rattle.axp_laws.proofs.storage.held_copies_are_memory.Goals as goal

pub returns : goal.returns
returns c = λ h p at run. run_held run.image run.processors h p at run.inside run.legal
