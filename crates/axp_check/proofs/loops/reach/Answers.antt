use Rattle.axp_access.specs.Lists.{access_at}
use Rattle.axp_check.proofs.Rounds.{search_begins, round_keeps}
use Rattle.axp_check.proofs.loops.reach.Goals as goal

pub loop-init : goal.loop-init
loop-init c = search_begins c.args.list.now c.from_access-reached.result c.args.n c.len.result c.get.result c.requires.least c.get.ensures.value c.len.ensures.value c.from_access-reached.ensures

pub loop-preserved : goal.loop-preserved
loop-preserved c = round_keeps c.args.list.now c.loop.reached c.spread.new.reached (access_at c.args.list.now c.args.n) c.spread.ensures.keeps c.loop.invariant

pub returns-clause-reached : goal.returns-clause-reached
returns-clause-reached c = round_keeps c.args.list.now c.loop.reached c.spread.new.reached (access_at c.args.list.now c.args.n) c.spread.ensures.keeps c.loop.invariant
