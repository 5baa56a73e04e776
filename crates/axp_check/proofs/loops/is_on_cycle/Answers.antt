use Rattle.axp_check.proofs.Rounds.{search_tells}
use Rattle.axp_check.proofs.loops.is_on_cycle.Goals as goal

pub returns : goal.returns
returns c = search_tells c.args.list.now c.reach-reached.result c.args.n c.has_reached_source.result c.requires.least c.requires.most c.reach-reached.ensures.reached c.reach-reached.ensures.closed c.has_reached_source.ensures
