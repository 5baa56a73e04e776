use Rattle.std.proofs.Common.{◌+◌, ◌≤◌, ◌<◌, length, Some, subst, sym, ap, ◌∙◌}
use Rattle.std.proofs.lemmas.Option.{slice_get-get_or}
use Rattle.axp_image.specs.Contents.{Contents}
use Rattle.axp_image.proofs.SegmentPlaceLemmas.{placed_within}
use Rattle.axp_image.proofs.images.Image.segment.Goals as goal

pub returns-clause-within : goal.returns-clause-within
returns-clause-within c =
    let below : c.args.n < length c.self.inside.segments.items = subst (λ (m : Contents). c.args.n < length m.segments) (sym c.self.view_is) c.requires in
    let at = slice_get-get_or c.self.inside.segments.items c.args.n c.index-segment.result.now below ∙ ap Some (sym c.index-segment.ensures) in
    let within = placed_within c.self.inside.size 0 c.self.inside.segments.items c.args.n c.index-segment.result.now c.self.invariant.placed at in
    rw (c.address.ensures, c.bytes.ensures) (subst (λ (m : Contents). c.index-segment.result.now.address + length c.index-segment.result.now.bytes ≤ m.size) c.self.view_is within)
