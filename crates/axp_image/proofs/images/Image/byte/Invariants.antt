use Rattle.std.proofs.Common.{◌≡◌, drop}
use Rattle.axp_image.specs.Contents.{byte_in}
use Rattle.axp_image.proofs.images.Image.byte.Given as goal

-- the segments passed so far do not have the byte
abbrev pub invariant-loop-segment : goal.invariant-loop-segment
invariant-loop-segment l = byte_in (drop l.segment-index l.segment-items) l.address ≡ byte_in l.self.segments l.address
