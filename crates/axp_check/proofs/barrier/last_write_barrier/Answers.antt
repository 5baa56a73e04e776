use Rattle.std.proofs.Common.{◌≡◌, arith}
use Rattle.axp_base.specs.Cpus.{cpu_number}
use Rattle.axp_check.proofs.LastBarriers.{last_none, last_more, last_all}
use Rattle.axp_check.proofs.barrier.last_write_barrier.Goals as goal

pub loop-n-init : goal.loop-n-init
loop-n-init c = last_none c.args.list.now (cpu_number c.get.result.cpu)

pub loop-n-preserved : goal.loop-n-preserved
loop-n-preserved c = last_more c.args.list.now (cpu_number c.get.result.cpu) c.loop-n.n c.get-access.result c.loop-n.last c.if_found-last.result c.is_write_barrier_of.result c.loop-n.auto.n c.get-access.ensures.value c.is_write_barrier_of.ensures c.if_found-last.ensures c.loop-n.invariant

pub returns : goal.returns
returns c =
    let end : c.loop-n.n ≡ c.args.j = let past = c.loop-n-test.false in let most = c.loop-n.auto.n-end c.requires.least in omega (arith, past, most) in
    last_all c.args.list.now c.loop-n.n c.args.j c.get.result c.loop-n.last end c.get.ensures.value c.loop-n.invariant
