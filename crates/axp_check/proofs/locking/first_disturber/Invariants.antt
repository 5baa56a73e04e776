use Rattle.axp_access.specs.Lists.{access_at, times_of}
use Rattle.axp_check.specs.Locking.{disturbs}
use Rattle.axp_check.proofs.LockingScans.{IsNoneSoFar}
use Rattle.axp_check.proofs.locking.first_disturber.Given as goal

abbrev pub invariant-loop-n : goal.invariant-loop-n
invariant-loop-n l = IsNoneSoFar (disturbs (times_of l.list)) l.list l.n (access_at l.list l.i) (access_at l.list l.j)
