use Rattle.axp_access.specs.Lists.{number_accesses}
use Rattle.axp_check.proofs.NoneLemmas.{numbers_descend}
use Rattle.axp_check.proofs.LockingLaws.{locking_fault-to, locking_fault-from}
use Rattle.axp_check.proofs.LockingFaults.{locking_fault_is, locking_fault_from}
use Rattle.axp_check.proofs.laws.locking_in_words.Goals as goal

pub returns-clause-none : goal.returns-clause-none
returns-clause-none c = λ t xs. (locking_fault-to t (number_accesses xs) (numbers_descend xs), locking_fault-from t (number_accesses xs) (numbers_descend xs))

pub returns-clause-some : goal.returns-clause-some
returns-clause-some c = λ t xs i j. (locking_fault_is t (number_accesses xs) (numbers_descend xs) i j, locking_fault_from t (number_accesses xs) (numbers_descend xs) i j)
