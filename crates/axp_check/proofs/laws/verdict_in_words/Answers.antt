use Rattle.std.proofs.Common.{reverse}
use Rattle.axp_access.specs.Lists.{accesses_in, times_of}
use Rattle.axp_check.proofs.NoneLemmas.{numbers_descend}
use Rattle.axp_check.proofs.VerdictLaws.{consistent-to, consistent-from, violated-to, violated-from}
use Rattle.axp_check.proofs.laws.verdict_in_words.Goals as goal

pub returns-clause-consistent : goal.returns-clause-consistent
returns-clause-consistent c = λ image list. (consistent-to image (times_of list) (accesses_in list) (numbers_descend (reverse list.items)), consistent-from image (times_of list) (accesses_in list) (numbers_descend (reverse list.items)))

pub returns-clause-violated : goal.returns-clause-violated
returns-clause-violated c = λ image list rule i j. (violated-to image (times_of list) (accesses_in list) (numbers_descend (reverse list.items)) rule i j, violated-from image (times_of list) (accesses_in list) (numbers_descend (reverse list.items)) rule i j)
