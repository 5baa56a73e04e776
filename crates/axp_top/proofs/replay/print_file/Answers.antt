use Rattle.std.proofs.Common.{◌∙◌}
use Rattle.axp_trace.specs.Files.{lines_of}
use Rattle.axp_top.proofs.ReplayLemmas.{is_other, other_differs, other_stops}
use Rattle.axp_top.proofs.replay.print_file.Goals as goal

pub returns-in_err-print_line : goal.returns-in_err-print_line
returns-in_err-print_line g c =
    other_stops _ _ c.args.header.now c.args.machine.now c.args.first.now (lines_of c.args.lines.now) c.right_header.result.items c.from_residual.result c.in_err-print_line.field-0.0 (is_other c.args.header.now c.args.machine.now c.memory_size.result c.memory_size.ensures.value c.if-header.true c.if-header-memory_size.true)
    c.requires.start c.right_header.ensures.text c.from_residual.ensures.1 c.in_err-print_line.ensures

pub returns-in_ok-print_line : goal.returns-in_ok-print_line
returns-in_ok-print_line g c =
    other_differs _ _ _ c.args.header.now c.args.machine.now c.args.first.now (lines_of c.args.lines.now) c.right_header.result.items c.as_slice.result.now c.print_difference.result (is_other c.args.header.now c.args.machine.now c.memory_size.result c.memory_size.ensures.value c.if-header.true c.if-header-memory_size.true)
    c.requires.start c.right_header.ensures.text (c.as_slice.ensures.value ∙ c.right_header-then-header-memory_size.ensures.text) c.in_ok-print_line.ensures c.print_difference.ensures
