use Rattle.std.proofs.Common.{length}
use Rattle.axp_trace.specs.Files.{lines_of}
use Rattle.axp_top.specs.Outside.{sink_state}
use Rattle.axp_top.proofs.ReplayLemmas.{Compares}
use Rattle.axp_top.proofs.file_tail.print_tail_refusal.Given as goal

abbrev pub invariant-loop-item : goal.invariant-loop-item
invariant-loop-item g l =
    let seen = sink_state g.K.Sink.taken g.K.Sink.faults g.K.Sink.puts in
    Compares (seen l.fn.sink) (seen l.sink) l.header l.machine (lines_of l.fn.lines) (length l.fn.lines) l.at l.number (length l.rest) (lines_of l.rest)

abbrev pub decreases-loop-item : goal.decreases-loop-item
decreases-loop-item g l = length l.rest
