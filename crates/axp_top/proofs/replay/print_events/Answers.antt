use Rattle.std.proofs.Common.{◌∷◌, Some, arith, refl}
use Rattle.axp_trace.specs.Files.{lines_of}
use Rattle.axp_top.proofs.ReplayLemmas.{comes_at, comes_on, comes_to_end, comes_to_part, comes_to_refusal, comes_to_stop, comes_to_tail, exits_events, no_more_lines, part_of_line, part_stopped}
use Rattle.axp_top.proofs.replay.print_events.Goals as goal

pub returns-in_err-print_event-clause-printed : goal.returns-in_err-print_event-clause-printed
returns-in_err-print_event-clause-printed g c =
    exits_events _ _ c.args.header.now c.args.machine.now c.print_event.new.machine (lines_of c.args.lines.now) _ c.from_residual.result c.in_err-print_event.field-0.0 c.from_residual.ensures.1
    (comes_to_stop _ _ _ c.args.header.now c.args.machine.now c.loop-line.machine (lines_of c.args.lines.now) (lines_of c.in-Some.more.now) (Some c.in-Some.line.now) c.in_err-print_event.field-0.0
    (comes_at _ _ c.args.header.now c.args.machine.now c.loop-line.machine (lines_of c.args.lines.now) (lines_of c.loop-line.rest.now) (Some c.in-Some.line.now ∷ lines_of c.in-Some.more.now) c.in-Some.ensures.lines c.loop-line.invariant.0) c.in_err-print_event.ensures)

pub loop-line-preserved : goal.loop-line-preserved
loop-line-preserved g c = (
  comes_on _ _ _ c.args.header.now c.args.machine.now c.loop-line.machine c.print_event.new.machine (lines_of c.args.lines.now) (lines_of c.in-Some.more.now) (Some c.in-Some.line.now) c.in_ok-print_event.field-0 c.in-Recorded.is
      (comes_at _ _ c.args.header.now c.args.machine.now c.loop-line.machine (lines_of c.args.lines.now) (lines_of c.loop-line.rest.now) (Some c.in-Some.line.now ∷ lines_of c.in-Some.more.now) c.in-Some.ensures.lines c.loop-line.invariant.0) c.in_ok-print_event.ensures,
  omega (arith, c.loop-line.invariant.1, c.in-Some.ensures.shorter),
)

pub returns-in-OfTail-clause-printed : goal.returns-in-OfTail-clause-printed
returns-in-OfTail-clause-printed g c =
    comes_to_tail _ _ _ c.args.header.now c.args.machine.now c.loop-line.machine c.print_event.new.machine (lines_of c.args.lines.now) (lines_of c.in-Some.more.now) (Some c.in-Some.line.now) c.loop-line.rest.now c.in_ok-print_event.field-0 c.in-OfTail.is c.in-Some.ensures.lines
    (comes_at _ _ c.args.header.now c.args.machine.now c.loop-line.machine (lines_of c.args.lines.now) (lines_of c.loop-line.rest.now) (Some c.in-Some.line.now ∷ lines_of c.in-Some.more.now) c.in-Some.ensures.lines c.loop-line.invariant.0) c.in_ok-print_event.ensures

pub returns-in-Refused-clause-printed : goal.returns-in-Refused-clause-printed
returns-in-Refused-clause-printed g c =
    comes_to_refusal _ _ _ c.args.header.now c.args.machine.now c.loop-line.machine c.print_event.new.machine (lines_of c.args.lines.now) (lines_of c.in-Some.more.now) (Some c.in-Some.line.now) c.loop-line.rest.now c.in-Refused.status c.in_ok-print_event.field-0 c.in-Refused.is
    (comes_at _ _ c.args.header.now c.args.machine.now c.loop-line.machine (lines_of c.args.lines.now) (lines_of c.loop-line.rest.now) (Some c.in-Some.line.now ∷ lines_of c.in-Some.more.now) c.in-Some.ensures.lines c.loop-line.invariant.0) c.in_ok-print_event.ensures

pub returns-in_err-status-clause-printed : goal.returns-in_err-status-clause-printed
returns-in_err-status-clause-printed g c =
    exits_events _ _ c.args.header.now c.args.machine.now c.loop-line.machine (lines_of c.args.lines.now) _ c.from_residual-in_err-status.result c.in_err-status.field-0.0 c.from_residual-in_err-status.ensures.1
    (part_stopped _ _ _ c.args.header.now c.args.machine.now c.loop-line.machine (lines_of c.args.lines.now) (lines_of c.loop-line.rest.now) c.next_line.result c.in_err-status.field-0.0
    (part_of_line c.loop-line.rest.now (lines_of c.loop-line.rest.now) c.is_empty.result c.if-is_empty.false c.is_empty.ensures (c.in_default.ensures.last refl)) c.next_line.ensures.value c.loop-line.invariant.0 c.in_err-status.ensures)

pub returns-then-is_empty-clause-printed : goal.returns-then-is_empty-clause-printed
returns-then-is_empty-clause-printed g c =
    comes_to_end _ _ c.args.header.now c.args.machine.now c.loop-line.machine (lines_of c.args.lines.now) (lines_of c.loop-line.rest.now) c.loop-line.rest.now
    (no_more_lines c.loop-line.rest.now (lines_of c.loop-line.rest.now) c.is_empty.result c.if-is_empty.true c.is_empty.ensures (c.in_default.ensures.last refl)) refl c.loop-line.invariant.0

pub returns-in_ok-status-clause-printed : goal.returns-in_ok-status-clause-printed
returns-in_ok-status-clause-printed g c =
    comes_to_part _ _ _ c.args.header.now c.args.machine.now c.loop-line.machine (lines_of c.args.lines.now) (lines_of c.loop-line.rest.now) c.loop-line.rest.now c.next_line.result c.in_ok-status.status
    (part_of_line c.loop-line.rest.now (lines_of c.loop-line.rest.now) c.is_empty.result c.if-is_empty.false c.is_empty.ensures (c.in_default.ensures.last refl)) c.next_line.ensures.value c.loop-line.invariant.0 c.in_ok-status.ensures
