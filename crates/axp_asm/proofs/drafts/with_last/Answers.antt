use Rattle.std.proofs.Common.{◌≤◌, subst, sym}
use Rattle.axp_image.specs.Contents.{Segment, end_of}
use Rattle.axp_asm.proofs.drafts.with_last.Goals as goal

pub add-requires-clause-within : goal.add-requires-clause-within
add-requires-clause-within c =
    let last = c.requires.within c.in-Some.part c.in-Some.is in
    let within = subst (λ (s : Segment). end_of s ≤ c.args.image.size) (sym c.part.view_is) last in
    rw (c.as_slice-bytes.ensures) within
