use Rattle.std.proofs.Common.{◌≡◌, None, ◌-◌, IfSome}
use Rattle.axp_access.specs.Lists.{access_at, accesses_to, times_of}
use Rattle.axp_order.specs.Oldest.{oldest_that}
use Rattle.axp_order.specs.Pairs.{breaks_barrier}
use Rattle.axp_check.proofs.barrier.first_against.Given as goal

abbrev pub invariant-loop-i : goal.invariant-loop-i
invariant-loop-i l = IfSome (access_at l.list l.j) (λ v. oldest_that (λ u. breaks_barrier (times_of l.list) u v) (accesses_to l.list (l.i - 1)) ≡ None)
