use Rattle.std.proofs.Common.{length}
use Rattle.axp_machine.specs.Tails.{items_from}
use Rattle.axp_top.specs.Outside.{sink_state}
use Rattle.axp_top.proofs.ReplayLemmas.{WalksTail}
use Rattle.axp_top.proofs.tail.print_tail.Given as goal

abbrev pub invariant-loop-item : goal.invariant-loop-item
invariant-loop-item g l =
    let seen = sink_state g.K.Sink.taken g.K.Sink.faults g.K.Sink.puts in
    WalksTail (seen l.fn.sink) (seen l.sink) l.machine l.at

abbrev pub decreases-loop-item : goal.decreases-loop-item
decreases-loop-item g l = length (items_from l.machine l.at)
