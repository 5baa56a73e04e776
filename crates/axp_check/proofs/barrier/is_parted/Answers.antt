use Rattle.axp_check.proofs.LastBarriers.{parted_is}
use Rattle.axp_check.proofs.barrier.is_parted.Goals as goal

pub returns : goal.returns
returns c = parted_is c.args.list.now c.args.i c.args.j c.get-first.result c.get-second.result c.args.last _ c.requires.least c.requires.less c.get-first.ensures.value c.get-second.ensures.value c.requires.last (rw (c.number.ensures.value, c.number-2.ensures.value, c.is_write.ensures, c.is_write-2.ensures) at (rw (c.is_own_up_to-own.ensures, c.both-writes.ensures) at c.both.ensures))
