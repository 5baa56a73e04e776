use Rattle.std.proofs.Common.{◌≡◌, None}
use Rattle.axp_access.specs.Lists.{accesses_to, times_of}
use Rattle.axp_order.specs.Oldest.{least_pair}
use Rattle.axp_order.specs.Pairs.{breaks_issue}
use Rattle.axp_check.specs.IssueGuards.{KeepsIssueTops}
use Rattle.axp_check.proofs.issue.first_issue.Given as goal

abbrev pub invariant-loop-n : goal.invariant-loop-n
invariant-loop-n l = (least_pair (breaks_issue (times_of l.list)) (accesses_to l.list l.n) ≡ None) × KeepsIssueTops l.list l.n l.tops l.slots
