use Rattle.axp_inval.proofs.OrderLemmas.{in_order_of_adding, last_is_last}
use Rattle.axp_inval.proofs.laws.taken_in_order_of_adding.Goals as goal

pub returns-clause-order : goal.returns-clause-order
returns-clause-order c = in_order_of_adding

pub returns-clause-last : goal.returns-clause-last
returns-clause-last c = last_is_last
