use Rattle.axp_laws.proofs.EntryNumbers.{numbers_down, accesses_shown, access_shown}
use Rattle.axp_laws.proofs.entries.numbers_of_accesses.Goals as goal

pub returns-clause-numbers : goal.returns-clause-numbers
returns-clause-numbers c = numbers_down

pub returns-clause-accesses : goal.returns-clause-accesses
returns-clause-accesses c = accesses_shown

pub returns-clause-shown : goal.returns-clause-shown
returns-clause-shown c = λ r h run. access_shown run.image run.processors r h run.legal
