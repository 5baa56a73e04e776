use Rattle.axp_order.proofs.Demands.{demands_is}
use Rattle.axp_order.proofs.pairs.issue_pair.Goals as goal

pub returns : goal.returns
returns c = demands_is c.args.list.now c.args.i c.args.j c.get-first.result c.get-second.result _ c.requires.least_first c.requires.least_second c.get-first.ensures.value c.get-second.ensures.value (rw (c.number.ensures.value, c.number-2.ensures.value) at (rw (c.is_ahead-ahead.ensures, c.is_demanded-demand.ensures) at c.both.ensures))
