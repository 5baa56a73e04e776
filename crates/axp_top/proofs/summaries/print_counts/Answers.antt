use Rattle.std.proofs.Common.{subst}
use Rattle.std.proofs.lemmas.List.{take_all}
use Rattle.axp_top.specs.Outside.{sink_state}
use Rattle.axp_top.specs.Printing.{Printed}
use Rattle.axp_top.specs.SummaryTexts.{count_lines}
use Rattle.axp_top.proofs.PrintingLemmas.{exits, printed_none}
use Rattle.axp_top.proofs.SummaryLemmas.{counts_on, counts_stop}
use Rattle.axp_top.proofs.summaries.print_counts.Goals as goal

pub loop-label-init : goal.loop-label-init
loop-label-init g c = printed_none _

pub loop-label-preserved : goal.loop-label-preserved
loop-label-preserved g c =
    counts_on _ _ _ c.args.labels.now c.args.summary.now.labels c.loop-label.label-index _ c.loop-label-test.true c.loop-label.invariant c.in_ok-print_count.ensures

pub returns-in_err-print_count : goal.returns-in_err-print_count
returns-in_err-print_count g c =
    exits _ _ _ c.from_residual.result c.in_err-print_count.field-0.0 c.from_residual.ensures.1
    (counts_stop _ _ _ c.args.labels.now c.args.summary.now.labels c.loop-label.label-index _ c.in_err-print_count.field-0.0 c.loop-label-test.true c.loop-label.invariant c.in_err-print_count.ensures)

pub returns : goal.returns
returns g c =
    let seen = sink_state g.K.Sink.taken g.K.Sink.faults g.K.Sink.puts in
    subst (λ labels. Printed (seen c.args.sink.now) (seen c.loop-label.sink) (count_lines labels c.args.summary.now.labels)) (take_all c.loop-label.label-index c.args.labels.now c.loop-label-test.false) c.loop-label.invariant
