use Rattle.axp_ticket.proofs.RuleParts.{in_order}
use Rattle.axp_ticket.proofs.laws.callers_are_in_order.Goals as goal

pub returns : goal.returns
returns g c seats allowance opened s rule = (
  rule.0.next,
  rule.0.given,
  rule.0.value,
  rule.0.log,
  in_order _ s rule.0 rule.1,
)
