use Rattle.axp_base.specs.Cpus.{cpu_number}
use Rattle.axp_bus.specs.Buses.{NotedBelow}
use Rattle.axp_bus.proofs.steps.note_all.Given as goal

abbrev pub invariant-loop-n : goal.invariant-loop-n
invariant-loop-n l = NotedBelow l.n (cpu_number l.cpu) l.turn l.request l.reply l.fn.ports l.ports
