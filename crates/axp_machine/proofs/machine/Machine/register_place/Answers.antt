use Rattle.std.proofs.Common.{◌≡◌, ◌∙◌, subst, sym}
use Rattle.axp_machine.specs.Tails.{register_of}
use Rattle.axp_machine.proofs.TailLemmas.{register_past, register_place, register_skipped}
use Rattle.axp_machine.proofs.machine.Machine.register_place.Goals as goal

pub loop-k-preserved : goal.loop-k-preserved
loop-k-preserved c =
    let zeroed = subst (λ p. register_of c.args.self.now p c.loop-k.k ≡ 0) c.cpu_numbered-cpu.ensures.number (sym c.register.ensures ∙ c.if-register-ne0.false) in
    sym (register_skipped c.args.self.now c.args.p c.loop-k.k c.loop-k-test.true zeroed) ∙ c.loop-k.invariant

pub returns-clause-same : goal.returns-clause-same
returns-clause-same c =
    c.processor_place.ensures.same ∙ register_past c.args.self.now c.args.p c.loop-k.k c.loop-k-test.false ∙ c.loop-k.invariant ∙ sym (register_place c.args.self.now c.args.p c.args.n c.requires)
