use Rattle.std.proofs.Common.{◌-◌, length}
use Rattle.axp_top.specs.Outside.{sink_state}
use Rattle.axp_seed.specs.Seeds.{most_events}
use Rattle.axp_top.proofs.SeededLemmas.{Seeds}
use Rattle.axp_top.proofs.seeds.print_records.Given as goal

abbrev pub invariant-loop-record : goal.invariant-loop-record
invariant-loop-record g l =
    let seen = sink_state g.K.Sink.taken g.K.Sink.faults g.K.Sink.puts in
    Seeds (seen l.fn.sink) (seen l.sink) l.fn.run l.run

-- how many events may follow
abbrev pub decreases-loop-record : goal.decreases-loop-record
decreases-loop-record g l = most_events l.fn.run.machine - length l.run.machine.records
