use Rattle.axp_order.proofs.Demands.{barrier_is, behind_true, behind_false}
use Rattle.axp_order.proofs.pairs.write_barrier.Goals as goal

pub returns-then-concerned : goal.returns-then-concerned
returns-then-concerned c = barrier_is c.args.list.now c.args.i c.args.j c.get-first.result c.get-second.result _ c.requires.least_first c.requires.least_second c.get-first.ensures.value c.get-second.ensures.value (behind_true _ _ _ _ (rw (c.number.ensures.value, c.number-2.ensures.value, c.is_write.ensures, c.is_write-2.ensures) at (rw (c.is_ahead-ahead.ensures, c.both-writes.ensures) at c.both-concerned.ensures)) c.if-concerned.true c.is_parted.ensures)

pub returns-else-concerned : goal.returns-else-concerned
returns-else-concerned c = barrier_is c.args.list.now c.args.i c.args.j c.get-first.result c.get-second.result _ c.requires.least_first c.requires.least_second c.get-first.ensures.value c.get-second.ensures.value (behind_false _ _ _ (rw (c.number.ensures.value, c.number-2.ensures.value, c.is_write.ensures, c.is_write-2.ensures) at (rw (c.is_ahead-ahead.ensures, c.both-writes.ensures) at c.both-concerned.ensures)) c.if-concerned.false)
