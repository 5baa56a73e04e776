use Rattle.std.proofs.Common.{◌+◌, ◌<◌, true, false, length, arith}
use Rattle.axp_access.specs.Lists.{access_at, accesses_in, times_of}
use Rattle.axp_order.proofs.Scans.{oldest_more}
use Rattle.axp_check.specs.Loops.{is_on_cycle}
use Rattle.axp_check.proofs.Candidates.{oldest_is, test_known}
use Rattle.axp_check.proofs.loops.first_on_cycle.Goals as goal

pub returns-then-is_first_on_cycle : goal.returns-then-is_first_on_cycle
returns-then-is_first_on_cycle c =
    let inside : c.loop-n.n < length c.args.list.now.items = let test = c.loop-n-test.true in let len = c.len-n-end.ensures.value in omega (arith, test, len) in
    oldest_is (is_on_cycle (times_of c.args.list.now) (accesses_in c.args.list.now)) c.args.list.now c.loop-n.n inside c.loop-n.invariant (test_known (is_on_cycle (times_of c.args.list.now) (accesses_in c.args.list.now)) (access_at c.args.list.now (c.loop-n.n + 1)) c.is_first_on_cycle.result true c.is_first_on_cycle.ensures c.if-is_first_on_cycle.true)

pub loop-n-preserved : goal.loop-n-preserved
loop-n-preserved c =
    let inside : c.loop-n.n < length c.args.list.now.items = let test = c.loop-n-test.true in let len = c.len-n-end.ensures.value in omega (arith, test, len) in
    oldest_more (is_on_cycle (times_of c.args.list.now) (accesses_in c.args.list.now)) c.args.list.now c.loop-n.n inside c.loop-n.invariant (test_known (is_on_cycle (times_of c.args.list.now) (accesses_in c.args.list.now)) (access_at c.args.list.now (c.loop-n.n + 1)) c.is_first_on_cycle.result false c.is_first_on_cycle.ensures c.if-is_first_on_cycle.false)
