use Rattle.axp_check.proofs.Guards.{clear_is}
use Rattle.axp_check.proofs.barrier.first_unless_clear.Goals as goal

pub returns-then-is_clear : goal.returns-then-is_clear
returns-then-is_clear c = clear_is c.args.list.now c.args.j c.get.result c.args.tops c.rank.result c.is_write.result c.is_clear.result c.get.ensures.value c.requires.tops c.rank.ensures.value c.rank.ensures.fits c.is_write.ensures c.is_clear.ensures c.if-is_clear.true
