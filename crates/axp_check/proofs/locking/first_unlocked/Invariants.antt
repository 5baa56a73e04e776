use Rattle.std.proofs.Common.{◌≡◌, None}
use Rattle.axp_check.specs.LockingParts.{AreNewest}
use Rattle.axp_check.proofs.LockingScans.{unlocked_to}
use Rattle.axp_check.proofs.locking.first_unlocked.Given as goal

abbrev pub invariant-loop-n : goal.invariant-loop-n
invariant-loop-n l = AreNewest l.list l.n l.newest × (unlocked_to l.list l.n ≡ None)
