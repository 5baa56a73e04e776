use Rattle.axp_trace.specs.Files.{lines_of}
use Rattle.axp_top.proofs.ReplayLemmas.{run_ends, run_refused, run_stops_first, run_stops_front}
use Rattle.axp_top.proofs.replay.print_run.Goals as goal

pub returns-in_err-print_line : goal.returns-in_err-print_line
returns-in_err-print_line g c =
    run_stops_first _ _ c.args.header.now c.args.machine.now (lines_of c.args.lines.now) c.right_header.result.items c.from_residual.result c.in_err-print_line.field-0.0 c.requires.start c.right_header.ensures.text c.from_residual.ensures.1 c.in_err-print_line.ensures

pub returns-in_err-refused : goal.returns-in_err-refused
returns-in_err-refused g c =
    run_stops_front _ _ _ c.args.header.now c.args.machine.now (lines_of c.args.lines.now) c.right_header.result.items c.from_residual-in_err-refused.result c.in_err-refused.field-0.0 c.requires.start c.right_header.ensures.text c.from_residual-in_err-refused.ensures.1 c.in_ok-print_line.ensures c.in_err-refused.ensures.printed

pub returns-in-Some : goal.returns-in-Some
returns-in-Some g c =
    run_refused _ _ _ c.args.header.now c.args.machine.now c.print_events.new.machine (lines_of c.args.lines.now) c.right_header.result.items c.in_ok-refused.rest.now c.in_ok-refused.refused c.in-Some.status c.requires.start c.right_header.ensures.text c.in-Some.is c.in_ok-print_line.ensures c.in_ok-refused.ensures.printed

pub returns-in-None : goal.returns-in-None
returns-in-None g c =
    run_ends _ _ _ _ c.args.header.now c.args.machine.now c.print_events.new.machine (lines_of c.args.lines.now) c.right_header.result.items c.in_ok-refused.rest.now c.in_ok-refused.refused c.print_ending.result c.requires.start c.right_header.ensures.text c.in-None.is c.in_ok-print_line.ensures c.in_ok-refused.ensures.printed c.print_ending.ensures
