use Rattle.std.proofs.Common.{arith}
use Rattle.axp_wbuf.proofs.Fronts.{front_more, front_stop}
use Rattle.axp_wbuf.proofs.lists.front_count.Goals as goal

pub returns-then-entries-n-clause-count : goal.returns-then-entries-n-clause-count
returns-then-entries-n-clause-count c =
    let stop = front_stop c.args.group c.args.entries.now c.loop-n.n c.index-entries-n.result c.loop-n-test.true c.if-entries-n.true in
    omega (arith, stop, c.loop-n.invariant)

pub loop-n-preserved : goal.loop-n-preserved
loop-n-preserved c =
    let more = front_more c.args.group c.args.entries.now c.loop-n.n c.index-entries-n.result c.loop-n-test.true c.if-entries-n.false in
    omega (arith, more, c.loop-n.invariant)
