use Rattle.std.proofs.Common.{◌-◌, length}
use Rattle.axp_seed.proofs.WalkLemmas.{Walks}
use Rattle.axp_seed.specs.Seeds.{most_events}
use Rattle.axp_seed.proofs.runs.SeededRun.finish.Given as goal

abbrev pub invariant-loop-record : goal.invariant-loop-record
invariant-loop-record l = Walks l.fn.self l.self

-- how many events may follow
abbrev pub decreases-loop-record : goal.decreases-loop-record
decreases-loop-record l = most_events l.fn.self.machine - length l.self.machine.records
