use Rattle.axp_check.proofs.Rounds.{closed_below, take_in_keeps}
use Rattle.axp_check.proofs.loops.reach_access.Goals as goal

pub returns-then-least-n-clause-closed : goal.returns-then-least-n-clause-closed
returns-then-least-n-clause-closed c = λ e. closed_below c.args.list.now c.args.reached.now c.args.n c.least.result c.get.result c.requires.least c.get.ensures.value c.least.ensures c.if-least-n.true

pub returns-clause-keeps : goal.returns-clause-keeps
returns-clause-keeps c = take_in_keeps c.args.list.now c.args.reached.now c.lower.new.self c.args.n c.least.result c.get.result c.has_reached_source.result c.requires.least c.get.ensures.value c.least.ensures c.if-least-n.false c.has_reached_source.ensures c.if-not-has_reached_source.false c.lower.ensures.value
