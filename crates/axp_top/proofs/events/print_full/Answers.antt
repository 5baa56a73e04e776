use Rattle.axp_top.proofs.ReplayLemmas.{full_done, full_refused}
use Rattle.axp_top.proofs.events.print_full.Goals as goal

pub returns-in-Err : goal.returns-in-Err
returns-in-Err g c =
    full_refused _ _ c.args.machine.now c.event.new.self c.refuse_event.new.machine c.args.line.now c.args.event c.args.outcome c.in-Err.field-0 c.is_in_order.result c.refuse_event.result c.is_in_order.ensures c.if-not-is_in_order.false c.in-Err.ensures.answer c.event.ensures.after c.refuse_event.ensures

pub returns-in-Ok : goal.returns-in-Ok
returns-in-Ok g c =
    full_done _ _ c.args.machine.now c.event.new.self c.next_line-number.result c.args.line.now c.args.event c.args.outcome c.in-Ok.outcome c.is_in_order.result c.print_right.result c.is_in_order.ensures c.if-not-is_in_order.false c.next_line-number.ensures.value c.in-Ok.ensures.answer c.event.ensures.after c.print_right.ensures
