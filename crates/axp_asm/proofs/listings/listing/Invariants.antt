use Rattle.std.proofs.Common.{◌≡◌, ◌++◌, drop, length}
use Rattle.std.specs.List.{flat_map}
use Rattle.axp_asm.specs.Listings.{line_of, listing, segment_listed}
use Rattle.axp_asm.proofs.LengthLemmas.{RoomLeft}
use Rattle.axp_asm.proofs.listings.listing.Given as goal

abbrev pub invariant-loop-n : goal.invariant-loop-n
invariant-loop-n l =
    (l.out ++ flat_map line_of (flat_map segment_listed (drop l.n l.image.segments)) ≡ listing l.image)
    × RoomLeft (length l.out) (drop l.n l.image.segments) l.image.segments
