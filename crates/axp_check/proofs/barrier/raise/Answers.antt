use Rattle.axp_check.proofs.Guards.{raised_is}
use Rattle.axp_check.proofs.barrier.raise.Goals as goal

pub returns : goal.returns
returns c = raised_is c.args.list.now c.args.j c.get-access.result c.args.tops c.rank-rank.result c.raise_all.result c.raise_closed.result c.requires.least c.get-access.ensures.value c.get-access.ensures.sound c.requires.tops c.rank-rank.ensures.value c.rank-rank.ensures.fits c.raise_all.ensures c.raise_closed.ensures
