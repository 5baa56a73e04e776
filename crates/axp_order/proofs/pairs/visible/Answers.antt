use Rattle.axp_order.proofs.Demands.{seen_is}
use Rattle.axp_order.proofs.pairs.visible.Goals as goal

pub returns : goal.returns
returns c = seen_is c.args.list.now c.args.u c.args.v c.get-write.result c.get-read.result _ _ c.requires.least_first c.requires.least_second c.get-write.ensures.value c.get-read.ensures.value c.before-before.ensures (rw (c.number.ensures.value, c.number-2.ensures.value, c.is_fetch.ensures, c.is_memory_write.ensures, c.takes_bytes.ensures) at (rw (c.both-moves.ensures, c.either.ensures, c.both-forwarded.ensures, c.is_ahead-ahead.ensures) at c.both.ensures))
