-- The verdict on a list: the least rule that is broken, then the least second, then the least first.
use Rattle.std.specs.Prelude.{ℕ, List, Option}
use Rattle.std.specs.Option.{option_or, option_map, unwrap_or}
use Rattle.axp_access.specs.Lists.{Accesses, accesses_in, times_of}
use Rattle.axp_access.specs.Numbering.{NumberedAccess}
use Rattle.axp_access.specs.Order.{Times}
use Rattle.axp_order.specs.Oldest.{least_pair}
use Rattle.axp_order.specs.Pairs.{breaks_issue, breaks_barrier}
use Rattle.axp_check.specs.declared.Rule.{Rule}
use Rattle.axp_check.specs.declared.Rule.TheVariants.{Issue, Barrier, Storage, Locking, Loop}
use Rattle.axp_check.specs.declared.Verdict.{Verdict}
use Rattle.axp_check.specs.declared.Verdict.TheVariants.{Consistent, Violated}
use Rattle.axp_check.specs.Locking.{locking_fault}
use Rattle.axp_check.specs.Loops.{loop_fault}
use Rattle.axp_check.specs.Storage.{storage_fault}

-- the pairs by which a list breaks the issue constraint, and a write barrier
abbrev pub issue_fault : Times → List NumberedAccess → Option (ℕ × ℕ)
issue_fault t us = least_pair (breaks_issue t) us

abbrev pub barrier_fault : Times → List NumberedAccess → Option (ℕ × ℕ)
barrier_fault t us = least_pair (breaks_barrier t) us

abbrev pub violation : Rule → Option (ℕ × ℕ) → Option Verdict
violation rule pair = option_map (λ p. Violated rule p.0 p.1) pair

-- the verdict by the image's bytes
abbrev pub verdict_on : (ℕ → ℕ) → Times → List NumberedAccess → Verdict
verdict_on image t us =
    unwrap_or
    (option_or (violation Issue (issue_fault t us))
    (option_or (violation Barrier (barrier_fault t us))
    (option_or (violation Storage (storage_fault image t us))
    (option_or (violation Locking (locking_fault t us))
    (violation Loop (loop_fault t us))))))
    Consistent

abbrev pub verdict : (ℕ → ℕ) → Accesses → Verdict
verdict image list = verdict_on image (times_of list) (accesses_in list)
