use Rattle.axp_check.proofs.SourceNumbers.{gives_is}
use Rattle.axp_check.proofs.sources.can_give.Goals as goal

pub returns : goal.returns
returns c = gives_is c.args.list.now c.args.at c.args.i c.args.n c.get-giver.result c.get-taker.result c.before-is_before.result _ c.requires.least_giver c.requires.least_taker c.get-giver.ensures.value c.get-taker.ensures.value c.before-is_before.ensures (rw (c.precedes-is_ahead.ensures, c.is_fetch.ensures) at (rw (c.writes_byte-writes.ensures, c.is_visible-is_visible.ensures) at c.both.ensures))
