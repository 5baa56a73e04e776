use Rattle.std.proofs.Common.{◌<◌, length, arith}
use Rattle.axp_access.specs.Lists.{access_at, times_of}
use Rattle.axp_check.specs.Locking.{disturbs}
use Rattle.axp_check.proofs.LockingScans.{none_more, one_found}
use Rattle.axp_check.proofs.locking.first_disturber.Goals as goal

pub returns-then-is_disturbed : goal.returns-then-is_disturbed
returns-then-is_disturbed c =
    let less : c.loop-n.n < length c.args.list.now.items = let test = c.loop-n-test.true in let len = c.len-n-end.ensures.value in omega (arith, test, len) in
    one_found (disturbs (times_of c.args.list.now)) c.args.list.now c.loop-n.n (access_at c.args.list.now c.args.i) (access_at c.args.list.now c.args.j) c.is_disturbed.result less c.loop-n.invariant c.is_disturbed.ensures c.if-is_disturbed.true

pub loop-n-preserved : goal.loop-n-preserved
loop-n-preserved c =
    let less : c.loop-n.n < length c.args.list.now.items = let test = c.loop-n-test.true in let len = c.len-n-end.ensures.value in omega (arith, test, len) in
    none_more (disturbs (times_of c.args.list.now)) c.args.list.now c.loop-n.n (access_at c.args.list.now c.args.i) (access_at c.args.list.now c.args.j) c.is_disturbed.result less c.loop-n.invariant c.is_disturbed.ensures c.if-is_disturbed.false
