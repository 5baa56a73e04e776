-- Where the segments of an image end.
use Rattle.std.proofs.Common.{◌≡◌, ℕ, zero, suc, List, [], ◌∷◌, ◌++◌, length, Option, Some, None, Bool, true, false, cond, eqb, refl, ◌≤◌, arith}
use Rattle.std.specs.Prelude.{slice_get}
use Rattle.axp_image.specs.Contents.{Contents, Segment, end_of, end_after, last_end, with_segment}
use Rattle.axp_asm.specs.Drafts.{draft, end_of_draft, with_last}
use Rattle.axp_asm.specs.Seen.{IsFilled}

-- behind at least one segment, at the end of the last
end_after_last : (from : ℕ) (segments : List Segment) (n : ℕ) (s : Segment) → length segments ≡ suc n → slice_get segments n ≡ Some s → end_after from segments ≡ end_of s
end_after_last from [] n s len at = absurd (omega (arith, len))
end_after_last from (x ∷ []) zero s len at = cc
end_after_last from (x ∷ []) (suc n) s len at = absurd (omega (arith, len))
end_after_last from (x ∷ y ∷ rest) zero s len at = absurd (omega (arith, len))
end_after_last from (x ∷ y ∷ rest) (suc n) s len at = end_after_last (end_of x) (y ∷ rest) n s (omega (arith, len)) at

pub end_at_last : (segments : List Segment) (count : ℕ) (s : Segment) → length segments ≡ suc count → slice_get segments count ≡ Some s → last_end segments ≡ end_of s
end_at_last segments count s len at = end_after_last 0 segments count s len at

pub end_with_one_more : (from : ℕ) (segments : List Segment) (s : Segment) → end_after from (segments ++ s ∷ []) ≡ end_of s
end_with_one_more from [] s = refl
end_with_one_more from (x ∷ rest) s = end_with_one_more (end_of x) rest s

-- what stands ends at or below the end of the draft
closed_below_by : (image : Contents) (s : Segment) (empty : Bool) → last_end image.segments ≤ s.address → last_end (cond empty image (with_segment image s)).segments ≤ end_of s
closed_below_by image s true behind = omega (arith, behind)
closed_below_by image s false behind = rw (end_with_one_more 0 image.segments s) (omega arith)

pub closed_below : (image : Contents) (last : Option Segment) → IsFilled (draft image last) → last_end (with_last image last).segments ≤ end_of_draft (draft image last)
closed_below image None filled = omega arith
closed_below image (Some s) filled = closed_below_by image s (eqb (length s.bytes) 0) (filled.behind s refl)
