use Rattle.axp_wbuf.proofs.Pairs.{first_leaves_first, older_group}
use Rattle.axp_wbuf.proofs.RunLemmas.{gone_in_order}
use Rattle.axp_wbuf.proofs.laws.own_writes_leave_in_order.Goals as goal

pub returns-clause-older_group : goal.returns-clause-older_group
returns-clause-older_group c = older_group

pub returns-clause-first_leaves_first : goal.returns-clause-first_leaves_first
returns-clause-first_leaves_first c = first_leaves_first

pub returns-clause-in_every_run : goal.returns-clause-in_every_run
returns-clause-in_every_run c = gone_in_order
