use Rattle.axp_access.specs.Lists.{access_at, times_of}
use Rattle.axp_access.proofs.RankLemmas.{before_is}
use Rattle.axp_access.proofs.access_lists.AccessList.before.Goals as goal

pub returns : goal.returns
returns c = before_is (times_of c.args.self.now) (access_at c.args.self.now c.args.i) (access_at c.args.self.now c.args.j) _ _ _ c.rank-first.ensures.value c.rank-first.ensures.fits c.rank-second.ensures.value c.rank-second.ensures.fits c.is_rank_before.ensures
