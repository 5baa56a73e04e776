use Rattle.axp_laws.proofs.EntryGroups.{waits_exactly, one_number, one_line_and_age}
use Rattle.axp_laws.proofs.entries.entries_that_wait.Goals as goal

pub returns-clause-waits : goal.returns-clause-waits
returns-clause-waits c = λ h run. waits_exactly run.image run.processors h run.inside run.legal

pub returns-clause-number : goal.returns-clause-number
returns-clause-number c = one_number

pub returns-clause-line_and_age : goal.returns-clause-line_and_age
returns-clause-line_and_age c = λ h run. one_line_and_age run.image run.processors h run.inside run.legal
