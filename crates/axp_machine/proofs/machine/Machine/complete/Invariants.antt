use Rattle.std.proofs.Common.{◌≡◌}
use Rattle.axp_model.specs.Legal.{are_done}
use Rattle.axp_machine.specs.Runs.{processors_of}
use Rattle.axp_machine.proofs.machine.Machine.complete.Given as goal

abbrev pub invariant-loop-processor : goal.invariant-loop-processor
invariant-loop-processor l = l.done ≡ are_done (processors_of l.self) l.self.records l.processor-index
