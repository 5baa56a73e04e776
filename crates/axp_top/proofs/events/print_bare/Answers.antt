use Rattle.axp_top.proofs.ReplayLemmas.{event_done, event_refused}
use Rattle.axp_top.proofs.events.print_bare.Goals as goal

pub returns-in-Err : goal.returns-in-Err
returns-in-Err g c =
    event_refused _ _ c.args.machine.now c.event.new.self c.refuse_event.new.machine c.args.event c.in-Err.field-0 c.refuse_event.result c.in-Err.ensures.answer c.event.ensures.after c.refuse_event.ensures

pub returns-in_ok-print_line-in-Ok : goal.returns-in_ok-print_line-in-Ok
returns-in_ok-print_line-in-Ok g c =
    event_done _ _ c.args.machine.now c.event.new.self c.args.event c.in-Ok.outcome c.write_event.result.items c.in-Ok.ensures.answer c.event.ensures.after c.write_event.ensures.text c.in_ok-print_line-in-Ok.ensures
