use Rattle.axp_access.specs.Lists.{number_accesses}
use Rattle.axp_check.proofs.NoneLemmas.{numbers_descend}
use Rattle.axp_check.proofs.PairFaults.{issue_fault_is, issue_fault_from, barrier_fault_is, barrier_fault_from}
use Rattle.axp_check.proofs.laws.order_faults_in_words.Goals as goal

pub returns-clause-issue : goal.returns-clause-issue
returns-clause-issue c = λ t xs i j. (issue_fault_is t (number_accesses xs) (numbers_descend xs) i j, issue_fault_from t (number_accesses xs) (numbers_descend xs) i j)

pub returns-clause-barrier : goal.returns-clause-barrier
returns-clause-barrier c = λ t xs i j. (barrier_fault_is t (number_accesses xs) (numbers_descend xs) i j, barrier_fault_from t (number_accesses xs) (numbers_descend xs) i j)
