use Rattle.axp_machine.proofs.TailOrders.{all_left_told, tail_ascends, tail_is_left}
use Rattle.axp_machine.proofs.laws.tails_tell_what_is_left.Goals as goal

pub returns : goal.returns
returns c = record { told = all_left_told; left = tail_is_left; ascending = tail_ascends }
