use Rattle.axp_top.specs.Texts.{tail}
use Rattle.axp_top.proofs.PrintingLemmas.{exits}
use Rattle.axp_top.proofs.ReplayLemmas.{next_some, walk_first, walk_on, walk_stops}
use Rattle.axp_top.proofs.tail.print_tail.Goals as goal

pub loop-item-init : goal.loop-item-init
loop-item-init g c = walk_first _ c.args.machine.now c.start-at.result (c.start-at.ensures c.args.machine.now)

pub returns-in_err-print_long_line : goal.returns-in_err-print_long_line
returns-in_err-print_long_line g c =
    exits _ _ (tail c.args.machine.now) c.from_residual-in_err-print_long_line.result c.in_err-print_long_line.field-0.0 c.from_residual-in_err-print_long_line.ensures.1
    (walk_stops _ _ _ c.args.machine.now c.loop-item.at c.in-Some.next c.in-Some.item c.in_ok-line.line c.in_err-print_long_line.field-0.0
    (next_some c.args.machine.now c.loop-item.at c.in_ok-item.field-0 c.in-Some.item c.in-Some.next c.in-Some.is c.in_ok-item.ensures) c.in_ok-line.ensures c.loop-item.invariant c.in_err-print_long_line.ensures)

pub loop-item-preserved-in_ok-print_long_line : goal.loop-item-preserved-in_ok-print_long_line
loop-item-preserved-in_ok-print_long_line g c =
    walk_on _ _ _ c.args.machine.now c.loop-item.at c.in-Some.next c.in-Some.item c.in_ok-line.line
    (next_some c.args.machine.now c.loop-item.at c.in_ok-item.field-0 c.in-Some.item c.in-Some.next c.in-Some.is c.in_ok-item.ensures) c.in_ok-line.ensures c.loop-item.invariant c.in_ok-print_long_line.ensures

pub loop-item-preserved : goal.loop-item-preserved
loop-item-preserved g c =
    walk_on _ _ _ c.args.machine.now c.loop-item.at c.in-Some.next c.in-Some.item c.in_ok-line.line
    (next_some c.args.machine.now c.loop-item.at c.in_ok-item.field-0 c.in-Some.item c.in-Some.next c.in-Some.is c.in_ok-item.ensures) c.in_ok-line.ensures c.loop-item.invariant c.in_ok-print_long_line.ensures
