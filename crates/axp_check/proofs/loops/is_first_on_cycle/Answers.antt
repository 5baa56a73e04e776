use Rattle.axp_check.proofs.Candidates.{no_cycle}
use Rattle.axp_check.proofs.loops.is_first_on_cycle.Goals as goal

pub returns-then-not-has_later_source : goal.returns-then-not-has_later_source
returns-then-not-has_later_source c = no_cycle c.args.list.now c.args.n c.has_later_source.result c.requires.least c.requires.most c.requires.older c.has_later_source.ensures c.if-not-has_later_source.true
