use Rattle.std.proofs.Common.{take}
use Rattle.axp_top.specs.Outside.{sink_state}
use Rattle.axp_top.specs.Printing.{Printed}
use Rattle.axp_top.specs.SummaryTexts.{count_lines}
use Rattle.axp_top.proofs.summaries.print_counts.Given as goal

abbrev pub invariant-loop-label : goal.invariant-loop-label
invariant-loop-label g l =
    let seen = sink_state g.K.Sink.taken g.K.Sink.faults g.K.Sink.puts in
    Printed (seen l.fn.sink) (seen l.sink) (count_lines (take l.label-index l.labels) l.summary.labels)
