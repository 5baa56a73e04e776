use Rattle.std.proofs.Common.{◌∙◌}
use Rattle.axp_machine.proofs.TailLemmas.{processor_past}
use Rattle.axp_machine.proofs.machine.Machine.processor_place.Goals as goal

pub returns-else-p-cpus-clause-same : goal.returns-else-p-cpus-clause-same
returns-else-p-cpus-clause-same c = c.quadword_place.ensures.same ∙ processor_past c.args.self.now c.args.p (rw c.cpus.ensures.value at c.if-p-cpus.false)
