use Rattle.axp_laws.proofs.CauseMoments.{source_is_earlier, write_is_later, no_loop}
use Rattle.axp_laws.proofs.causality.no_causal_loop.Goals as goal

pub returns-clause-source : goal.returns-clause-source
returns-clause-source c = λ h run. source_is_earlier run.image run.processors h run.inside run.legal

pub returns-clause-write : goal.returns-clause-write
returns-clause-write c = write_is_later

pub returns-clause-loops : goal.returns-clause-loops
returns-clause-loops c = λ h run. no_loop run.image run.processors h run.inside run.legal
