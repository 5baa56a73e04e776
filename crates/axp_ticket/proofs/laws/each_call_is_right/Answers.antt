use Rattle.axp_call.proofs.Rightness.{all_right_each, each_right_append}
use Rattle.axp_ticket.proofs.laws.each_call_is_right.Goals as goal

pub returns-clause-each : goal.returns-clause-each
returns-clause-each g c start calls all = all_right_each g.S.Served.Right start calls all

pub returns-clause-longer : goal.returns-clause-longer
returns-clause-longer g c start calls d all now =
    each_right_append g.S.Served.Right start calls d all now
