use Rattle.std.proofs.Common.{length, subst, sym}
use Rattle.axp_cpu.specs.ActorStands.{IsAt}
use Rattle.axp_cpu.specs.declared.processors.Processor.{Processor}
use Rattle.axp_machine.specs.Ties.{history}
use Rattle.axp_machine.proofs.ReaderLemmas.{done_more}
use Rattle.axp_machine.proofs.machine.Machine.complete.Goals as goal
use Rattle.axp_world.specs.Worlds.{world}

pub loop-processor-preserved : goal.loop-processor-preserved
loop-processor-preserved c =
    let actor = (world c.self.inside.image (length c.self.inside.processors.items) c.self.inside.budget (history c.self.inside)).actors c.loop-processor.processor-index in
    done_more c.self.inside c.args.self.now c.deref-processor-items.result.now c.loop-processor.processor-index c.processor-item.result c.loop-processor.done c.is_done-done.result
    c.self.invariant c.self.view_is c.deref-processor-items.ensures.value c.loop-processor-test.true
    (λ at. c.is_done-done.ensures actor (subst (λ (x : Processor). IsAt x actor) (sym c.processor-item.is) at)) c.loop-processor.invariant
