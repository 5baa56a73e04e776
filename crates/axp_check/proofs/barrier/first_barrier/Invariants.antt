use Rattle.std.proofs.Common.{◌≡◌, None}
use Rattle.axp_access.specs.Lists.{accesses_to, times_of}
use Rattle.axp_order.specs.Oldest.{least_pair}
use Rattle.axp_order.specs.Pairs.{breaks_barrier}
use Rattle.axp_check.specs.Guards.{KeepsTops}
use Rattle.axp_check.proofs.barrier.first_barrier.Given as goal

abbrev pub invariant-loop-n : goal.invariant-loop-n
invariant-loop-n l = (least_pair (breaks_barrier (times_of l.list)) (accesses_to l.list l.n) ≡ None) × KeepsTops l.list l.n l.tops
