use Rattle.std.proofs.Common.{◌||◌, sym, ap₂, ◌∙◌}
use Rattle.axp_base.specs.Masks.{mask_bits}
use Rattle.axp_bus.proofs.MarkLemmas.{first_more}
use Rattle.axp_bus.proofs.marks.has_part.Goals as goal

pub loop-k-preserved : goal.loop-k-preserved
loop-k-preserved c = ap₂ (λ a b. a || b) c.loop-k.invariant c.has-some.ensures ∙ sym (first_more (mask_bits c.args.mask) c.args.n c.loop-k.k)
