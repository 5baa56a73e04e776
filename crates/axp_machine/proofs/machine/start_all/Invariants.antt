use Rattle.axp_machine.specs.Starts.{StartsAll}
use Rattle.axp_machine.proofs.machine.start_all.Given as goal

abbrev pub invariant-loop-n : goal.invariant-loop-n
invariant-loop-n l = StartsAll l.image l.cpus l.budget l.n l.processors.items
