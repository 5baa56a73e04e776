use Rattle.std.proofs.Common.{◌≤◌, arith}
use Rattle.axp_base.specs.Cpus.{cpu_number}
use Rattle.axp_order.proofs.WriteBarriers.{parted, not_parted, never_parted}
use Rattle.axp_order.proofs.pairs.is_parted.Goals as goal

pub returns-then-is_write_barrier_of : goal.returns-then-is_write_barrier_of
returns-then-is_write_barrier_of c =
    let least : 1 ≤ c.loop-n.n = let first = c.requires.least in let past = c.loop-n.auto.n in omega (arith, first, past) in
    parted c.args.list.now (cpu_number c.args.cpu) c.args.i c.loop-n.n c.args.j c.get-access.result c.is_write_barrier_of.result least c.loop-n-test.true c.get-access.ensures.value c.loop-n.invariant c.is_write_barrier_of.ensures c.if-is_write_barrier_of.true

pub loop-n-preserved : goal.loop-n-preserved
loop-n-preserved c =
    let least : 1 ≤ c.loop-n.n = let first = c.requires.least in let past = c.loop-n.auto.n in omega (arith, first, past) in
    not_parted c.args.list.now (cpu_number c.args.cpu) c.args.i c.loop-n.n c.get-access.result c.is_write_barrier_of.result least c.get-access.ensures.value c.loop-n.invariant c.is_write_barrier_of.ensures c.if-is_write_barrier_of.false

pub returns : goal.returns
returns c =
    let past : c.args.j ≤ c.loop-n.n = let end = c.loop-n-test.false in omega (arith, end) in
    never_parted c.args.list.now (cpu_number c.args.cpu) c.args.i c.loop-n.n c.args.j past c.loop-n.invariant
