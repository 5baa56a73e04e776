use Rattle.axp_access.specs.declared.Act.TheVariants.{Step}
use Rattle.axp_cpu.proofs.ActorLemmas.{wanted_in_some}
use Rattle.axp_cpu.proofs.processors.Processor.step.Goals as goal

pub value-value-requires : goal.value-value-requires
value-value-requires c = wanted_in_some c.args.self.now Step c.args.intent.now c.requires c.in-Some.wanted c.in-Some.is
