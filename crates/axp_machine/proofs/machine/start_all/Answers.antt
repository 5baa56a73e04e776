use Rattle.std.proofs.Common.{◌∙◌, Option, subst, sym}
use Rattle.axp_base.specs.declared.processors.Cpu.{Cpu}
use Rattle.axp_cpu.specs.Actors.{first_actor}
use Rattle.axp_cpu.specs.ActorStands.{IsAt}
use Rattle.axp_world.specs.Worlds.{cpu_or_first}
use Rattle.axp_machine.proofs.ReaderLemmas.{started_more}
use Rattle.axp_machine.proofs.machine.start_all.Goals as goal

pub loop-n-preserved : goal.loop-n-preserved
loop-n-preserved c =
    let named = subst (λ (o : Option Cpu). IsAt c.start.result (first_actor c.args.image.now c.args.cpus c.args.budget (cpu_or_first o))) (sym c.in-Some.is ∙ c.new.ensures.value) c.start.ensures in
    started_more c.args.image.now c.args.cpus c.args.budget c.loop-n.processors.items c.push.new.self.items c.start.result c.loop-n.n c.loop-n.invariant named c.in_ok-push.ensures.items
