use Rattle.axp_access.specs.Lists.{number_accesses}
use Rattle.axp_check.proofs.NoneLemmas.{numbers_descend}
use Rattle.axp_check.proofs.StorageLaws.{storage_fault-to, storage_fault-from}
use Rattle.axp_check.proofs.StorageFaults.{storage_fault_is, storage_fault_from}
use Rattle.axp_check.proofs.laws.storage_in_words.Goals as goal

pub returns-clause-none : goal.returns-clause-none
returns-clause-none c = λ image t us. (storage_fault-to image t us, storage_fault-from image t us)

pub returns-clause-some : goal.returns-clause-some
returns-clause-some c = λ image t xs i j. (storage_fault_is image t (number_accesses xs) (numbers_descend xs) i j, storage_fault_from image t (number_accesses xs) (numbers_descend xs) i j)
