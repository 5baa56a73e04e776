use Rattle.std.proofs.Common.{◌≡◌, None}
use Rattle.axp_access.specs.Lists.{accesses_in, accesses_to, times_of}
use Rattle.axp_order.specs.Oldest.{oldest_that}
use Rattle.axp_check.specs.Loops.{is_on_cycle}
use Rattle.axp_check.proofs.loops.first_on_cycle.Given as goal

abbrev pub invariant-loop-n : goal.invariant-loop-n
invariant-loop-n l = oldest_that (is_on_cycle (times_of l.list) (accesses_in l.list)) (accesses_to l.list l.n) ≡ None
