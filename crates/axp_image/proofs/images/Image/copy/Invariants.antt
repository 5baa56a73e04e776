use Rattle.std.proofs.Common.{◌≡◌, take}
use Rattle.axp_image.proofs.images.Image.copy.Given as goal

-- the segments passed so far are copied
abbrev pub invariant-loop-segment : goal.invariant-loop-segment
invariant-loop-segment l = l.segments.items ≡ take l.segment-index l.segment-items
