use Rattle.axp_check.proofs.IssueGuards.{issue_tops_own}
use Rattle.axp_check.proofs.issue.raise.Goals as goal

pub returns : goal.returns
returns c = issue_tops_own c.args.list.now c.args.j c.get.result c.args.tops c.rank-rank.result c.raise_where.result c.raise_where-2.result c.is_memory_write-writes.result c.requires.least c.get.ensures.value c.get.ensures.sound c.requires.tops c.rank-rank.ensures.value c.rank-rank.ensures.fits c.is_memory_write-writes.ensures c.raise_where.ensures c.raise_where-2.ensures
