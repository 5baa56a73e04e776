use Rattle.axp_check.proofs.IssueGuards.{slot_own}
use Rattle.axp_check.proofs.issue.raise_slot.Goals as goal

pub returns : goal.returns
returns c = slot_own c.args.list.now c.args.j c.get.result c.args.top c.rank-rank.result _ c.is_memory_write-writes.result c.requires.least c.get.ensures.value c.get.ensures.sound c.requires.slot c.rank-rank.ensures.value c.rank-rank.ensures.fits c.is_memory_write-writes.ensures c.raise_where.ensures
