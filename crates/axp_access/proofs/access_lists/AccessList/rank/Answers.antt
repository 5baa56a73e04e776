use Rattle.axp_access.proofs.RankLemmas.{Told, rank_is, key_fits}
use Rattle.axp_access.proofs.access_lists.AccessList.rank.Goals as goal

told : (c : goal.After-rank_at) → Told c.args.self.now c.args.n c.get-access.result c.settled-place.result c.rank_at.result
told c = record {
  least = c.requires.least;
  most = c.ranges.n.fits;
  found = c.get-access.ensures.value;
  settled = c.settled-place.ensures;
  rank = rw (c.is_write.ensures, c.number.ensures.value) at c.rank_at.ensures.value;
  small = c.rank_at.ensures.small;
  cpu = rw c.number.ensures.value at c.number.ensures.below;
}

pub returns-clause-value : goal.returns-clause-value
returns-clause-value c = rank_is _ _ _ _ _ (told c)

pub returns-clause-fits : goal.returns-clause-fits
returns-clause-fits c = key_fits _ _ _ _ _ (told c)
