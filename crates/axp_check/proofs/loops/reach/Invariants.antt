use Rattle.std.proofs.Common.{◌≡◌, true, IfSome}
use Rattle.axp_access.specs.Lists.{access_at}
use Rattle.axp_model.specs.Sources.{takes_bytes}
use Rattle.axp_check.specs.Reached.{IsReaching, total_of}
use Rattle.axp_check.proofs.loops.reach.Given as goal

abbrev pub invariant-loop : goal.invariant-loop
invariant-loop l = IfSome (access_at l.list l.n) (λ r. takes_bytes r ≡ true → IsReaching l.list l.reached r)

abbrev pub decreases-loop : goal.decreases-loop
decreases-loop l = total_of l.reached
