-- What a person is told of a rule of shared memory that two accesses break.
use Rattle.std.specs.Prelude.{ℕ, List, codes}
use Rattle.axp_check.specs.declared.Rule.{Rule}
use Rattle.axp_check.specs.declared.Rule.TheVariants.{Issue, Barrier, Storage, Locking, Loop}

abbrev pub rule_words : Rule → List ℕ
rule_words Issue = codes "the issue constraint demands that the first access is before the second in memory, and it is not"
rule_words Barrier = codes "a WMB stands between the two writes, and the first is not before the second in memory"
rule_words Storage = codes "the second access has a byte that is not the one of its source, which is the first, or the image where that is 0"
rule_words Locking = codes "the store-conditional, the second, succeeds though the first writes its line behind its load-locked, or it has no load-locked where that is 0"
rule_words Loop = codes "the value of the access may have come from itself"
