use Rattle.std.proofs.Common.{◌≤◌, length}
use Rattle.axp_trace.specs.Files.{lines_of}
use Rattle.axp_top.specs.Outside.{sink_state}
use Rattle.axp_top.proofs.ReplayLemmas.{Comes}
use Rattle.axp_top.proofs.replay.print_events.Given as goal

abbrev pub invariant-loop-line : goal.invariant-loop-line
invariant-loop-line g l =
    let seen = sink_state g.K.Sink.taken g.K.Sink.faults g.K.Sink.puts in
    Comes (seen l.fn.sink) (seen l.sink) l.header l.fn.machine l.machine (lines_of l.fn.lines) (lines_of l.rest) × (length l.rest ≤ length l.fn.lines)

abbrev pub decreases-loop-line : goal.decreases-loop-line
decreases-loop-line g l = length l.rest
