use Rattle.std.proofs.Common.{◌≤◌, ◌+◌, length, subst, sym, arith}
use Rattle.axp_image.specs.Contents.{Segment, end_of}
use Rattle.axp_image.specs.declared.limits.TheConstants.{MAX_MEMORY}
use Rattle.axp_asm.proofs.drafts.Draft.end.Goals as goal

-- the last segment ends in memory
within : (c : goal.After-as_slice) → c.part.inside.address + length c.as_slice.result.now ≤ MAX_MEMORY
within c =
    let last = c.self.invariant.within c.in-Some.part c.in-Some.is in
    let here : end_of c.in-Some.part ≤ MAX_MEMORY = omega (arith, last, c.self.invariant.memory) in
    rw (c.as_slice.ensures) (subst (λ (s : Segment). end_of s ≤ MAX_MEMORY) (sym c.part.view_is) here)

pub overflow_add-result : goal.overflow_add-result
overflow_add-result c = omega (arith, within c)

pub returns-in-Some-clause-within : goal.returns-in-Some-clause-within
returns-in-Some-clause-within c = within c
