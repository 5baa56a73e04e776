-- Placed segments lie in memory.
use Rattle.std.proofs.Common.{◌≡◌, ℕ, zero, suc, ◌≤◌, List, [], ◌∷◌, slice_get, Some, subst}
use Rattle.axp_image.specs.Contents.{Segment, ArePlaced, end_of}

pub placed_within : (size from : ℕ) (xs : List Segment) (n : ℕ) (s : Segment) → ArePlaced size from xs → slice_get xs n ≡ Some s → end_of s ≤ size
placed_within size from [] n s placed at = cc
placed_within size from (x ∷ xs) zero s placed at = let same : x ≡ s = cc in subst (λ (y : Segment). end_of y ≤ size) same placed.0.within
placed_within size from (x ∷ xs) (suc n) s placed at = placed_within size (end_of x) xs n s placed.1 at
