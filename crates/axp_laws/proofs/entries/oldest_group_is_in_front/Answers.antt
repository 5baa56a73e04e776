use Rattle.axp_laws.proofs.EntryGroups.{in_order, oldest_in_front, some_oldest}
use Rattle.axp_laws.proofs.entries.oldest_group_is_in_front.Goals as goal

pub returns-clause-order : goal.returns-clause-order
returns-clause-order c = in_order

pub returns-clause-front : goal.returns-clause-front
returns-clause-front c = oldest_in_front

pub returns-clause-some : goal.returns-clause-some
returns-clause-some c = some_oldest
