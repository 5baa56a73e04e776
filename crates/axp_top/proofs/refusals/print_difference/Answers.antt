use Rattle.std.proofs.Common.{refl}
use Rattle.axp_top.specs.declared.printing.Stop.TheVariants as stop
use Rattle.axp_top.specs.Replays.{differs}
use Rattle.axp_top.specs.Walks.{PrintsAnswer}
use Rattle.axp_top.proofs.PrintingLemmas.{hands_on, lacks_all}
use Rattle.axp_top.proofs.ReplayLemmas.{as_second, as_third, first_stops, line_stops, second_stops, third_stops, three_printed}
use Rattle.axp_top.proofs.refusals.print_difference.Goals as goal

pub returns-in_err-print_line : goal.returns-in_err-print_line
returns-in_err-print_line g c =
    hands_on (PrintsAnswer _ _ (differs c.args.line c.args.given.now c.args.right.now)) c.from_residual.result c.in_err-print_line.field-0.0 c.from_residual.ensures.1
    (first_stops _ _ c.write_differs.result.items c.args.line c.args.given.now c.args.right.now c.in_err-print_line.field-0.0 c.write_differs.ensures.text c.in_err-print_line.ensures)

pub returns-in_err-write_given : goal.returns-in_err-write_given
returns-in_err-write_given g c =
    hands_on (PrintsAnswer _ _ (differs c.args.line c.args.given.now c.args.right.now)) c.from_residual-in_err-write_given.result stop.Memory c.from_residual-in_err-write_given.ensures.1
    (second_stops _ _ _ c.write_differs.result.items c.args.line c.args.given.now c.args.right.now stop.Memory c.write_differs.ensures.text c.in_ok-print_line.ensures (lacks_all _ _))

pub returns-in_err-print_long_line : goal.returns-in_err-print_long_line
returns-in_err-print_long_line g c =
    hands_on (PrintsAnswer _ _ (differs c.args.line c.args.given.now c.args.right.now)) c.from_residual-in_err-print_long_line.result c.in_err-print_long_line.field-0.0 c.from_residual-in_err-print_long_line.ensures.1
    (second_stops _ _ _ c.write_differs.result.items c.args.line c.args.given.now c.args.right.now c.in_err-print_long_line.field-0.0 c.write_differs.ensures.text c.in_ok-print_line.ensures
    (line_stops _ _ _ _ c.in_err-print_long_line.field-0.0 c.in_ok-write_given.ensures c.in_err-print_long_line.ensures))

pub returns-in_err-write_right : goal.returns-in_err-write_right
returns-in_err-write_right g c =
    hands_on (PrintsAnswer _ _ (differs c.args.line c.args.given.now c.args.right.now)) c.from_residual-in_err-write_right.result stop.Memory c.from_residual-in_err-write_right.ensures.1
    (third_stops _ _ _ _ c.write_differs.result.items c.args.line c.args.given.now c.args.right.now stop.Memory c.write_differs.ensures.text c.in_ok-print_line.ensures
    (as_second _ _ _ c.args.given.now c.in_ok-write_given.ensures c.in_ok-print_long_line.ensures) (lacks_all _ _))

pub returns-in_err-print_long_line-2 : goal.returns-in_err-print_long_line-2
returns-in_err-print_long_line-2 g c =
    hands_on (PrintsAnswer _ _ (differs c.args.line c.args.given.now c.args.right.now)) c.from_residual-in_err-print_long_line-2.result c.in_err-print_long_line-2.field-0.0 c.from_residual-in_err-print_long_line-2.ensures.1
    (third_stops _ _ _ _ c.write_differs.result.items c.args.line c.args.given.now c.args.right.now c.in_err-print_long_line-2.field-0.0 c.write_differs.ensures.text c.in_ok-print_line.ensures
    (as_second _ _ _ c.args.given.now c.in_ok-write_given.ensures c.in_ok-print_long_line.ensures)
    (line_stops _ _ _ _ c.in_err-print_long_line-2.field-0.0 c.in_ok-write_right.ensures c.in_err-print_long_line-2.ensures))

pub returns : goal.returns
returns g c = (
  three_printed _ _ _ _ c.write_differs.result.items c.args.line c.args.given.now c.args.right.now c.write_differs.ensures.text c.in_ok-print_line.ensures
      (as_second _ _ _ c.args.given.now c.in_ok-write_given.ensures c.in_ok-print_long_line.ensures)
      (as_third _ _ _ c.args.right.now c.in_ok-write_right.ensures c.in_ok-print_long_line-2.ensures),
  refl,
)
