use Rattle.std.proofs.Common.{arith}
use Rattle.axp_check.proofs.SourceNumbers.{later_none, later_first, later_second}
use Rattle.axp_check.proofs.sources.later_of.Goals as goal

pub returns-then-other-eq0-clause-value : goal.returns-then-other-eq0-clause-value
returns-then-other-eq0-clause-value c = later_none c.args.list.now c.args.i c.args.other c.requires.least c.if-other-eq0.true

pub returns-then-before-clause-value : goal.returns-then-before-clause-value
returns-then-before-clause-value c = later_first c.args.list.now c.args.i c.args.other c.before-2.result c.requires.least (omega arith) c.requires.most_other c.before-2.ensures c.if-before.true

pub returns-else-before-clause-value : goal.returns-else-before-clause-value
returns-else-before-clause-value c = later_second c.args.list.now c.args.i c.args.other c.before-2.result c.requires.least (omega arith) c.requires.most_other c.before-2.ensures c.if-before.false
