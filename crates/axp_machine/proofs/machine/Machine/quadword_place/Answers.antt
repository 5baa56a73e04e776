use Rattle.std.proofs.Common.{◌∙◌, sym}
use Rattle.axp_machine.proofs.TailLemmas.{quadword_past, quadword_skipped}
use Rattle.axp_machine.proofs.machine.Machine.quadword_place.Goals as goal

pub loop-k-preserved : goal.loop-k-preserved
loop-k-preserved c =
    sym (quadword_skipped c.args.self.now c.loop-k.k (rw c.memory_size-quadwords.ensures.value at c.loop-k-test.true) (sym c.is_touched.ensures ∙ c.if-is_touched.false)) ∙ c.loop-k.invariant

pub returns-clause-same : goal.returns-clause-same
returns-clause-same c = quadword_past c.args.self.now c.loop-k.k (rw c.memory_size-quadwords.ensures.value at c.loop-k-test.false) ∙ c.loop-k.invariant
