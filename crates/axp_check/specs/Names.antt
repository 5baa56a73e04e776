-- The words by which rules are printed.
use Rattle.std.specs.Prelude.{ℕ, List, codes}
use Rattle.axp_check.specs.declared.Rule.{Rule}
use Rattle.axp_check.specs.declared.Rule.TheVariants.{Issue, Barrier, Storage, Locking, Loop}

abbrev pub rule_name : Rule → List ℕ
rule_name Issue = codes "issue"
rule_name Barrier = codes "barrier"
rule_name Storage = codes "storage"
rule_name Locking = codes "locking"
rule_name Loop = codes "loop"
