use Rattle.axp_top.specs.Replays.{bad_trace, differs, item_refusal}
use Rattle.axp_top.proofs.ReplayLemmas.{not_of_tail, other_of_tail, refusal_none, refusal_stops, refusal_told, right_of_tail}
use Rattle.axp_top.proofs.file_tail.print_item_refusal.Goals as goal

pub returns-in_err-print_bad_trace : goal.returns-in_err-print_bad_trace
returns-in_err-print_bad_trace g c =
    refusal_stops _ _ (item_refusal c.args.header.now c.args.number c.args.line.now c.args.right.now) (bad_trace c.args.number) c.from_residual.result c.in_err-print_bad_trace.field-0.0
    (not_of_tail c.args.header.now c.args.number c.args.line.now c.args.right.now c.is_tail_line.result c.is_tail_line.ensures c.if-not-is_tail_line.true) c.from_residual.ensures.1 c.in_err-print_bad_trace.ensures

pub returns-then-not-is_tail_line : goal.returns-then-not-is_tail_line
returns-then-not-is_tail_line g c =
    refusal_told _ _ (item_refusal c.args.header.now c.args.number c.args.line.now c.args.right.now) (bad_trace c.args.number) c.in_ok-print_bad_trace.field-0
    (not_of_tail c.args.header.now c.args.number c.args.line.now c.args.right.now c.is_tail_line.result c.is_tail_line.ensures c.if-not-is_tail_line.true) c.in_ok-print_bad_trace.ensures

pub returns-then-eq : goal.returns-then-eq
returns-then-eq g c =
    refusal_none _ (item_refusal c.args.header.now c.args.number c.args.line.now c.args.right.now)
    (right_of_tail c.args.header.now c.args.number c.args.line.now c.args.right.now c.is_tail_line.result c.eq.result c.is_tail_line.ensures c.if-not-is_tail_line.false c.eq.ensures c.if-eq.true)

pub returns-in_err-print_difference : goal.returns-in_err-print_difference
returns-in_err-print_difference g c =
    refusal_stops _ _ (item_refusal c.args.header.now c.args.number c.args.line.now c.args.right.now) (differs c.args.number c.args.line.now c.args.right.now) c.from_residual-in_err-print_difference.result c.in_err-print_difference.field-0.0
    (other_of_tail c.args.header.now c.args.number c.args.line.now c.args.right.now c.is_tail_line.result c.eq.result c.is_tail_line.ensures c.if-not-is_tail_line.false c.eq.ensures c.if-eq.false) c.from_residual-in_err-print_difference.ensures.1 c.in_err-print_difference.ensures

pub returns : goal.returns
returns g c =
    refusal_told _ _ (item_refusal c.args.header.now c.args.number c.args.line.now c.args.right.now) (differs c.args.number c.args.line.now c.args.right.now) c.in_ok-print_difference.field-0
    (other_of_tail c.args.header.now c.args.number c.args.line.now c.args.right.now c.is_tail_line.result c.eq.result c.is_tail_line.ensures c.if-not-is_tail_line.false c.eq.ensures c.if-eq.false) c.in_ok-print_difference.ensures
