-- A listing as it is written, segment by segment.
use Rattle.std.proofs.Common.{◌≡◌, ℕ, zero, suc, ◌+◌, ◌≤◌, List, [], ◌∷◌, ◌++◌, length, drop, Some, Ok, sym, ap, ◌∙◌, append_assoc, add-one}
use Rattle.std.specs.Prelude.{slice_get}
use Rattle.std.specs.List.{flat_map}
use Rattle.std.proofs.lemmas.Grind.{flat_map-append}
use Rattle.std.proofs.lemmas.List.{append-nil, drop_all}
use Rattle.axp_image.specs.Contents.{Contents, Segment, IsValid}
use Rattle.axp_asm.specs.Listings.{line_of, listing, segment_listed}
use Rattle.axp_asm.specs.Sources.{assembled}
use Rattle.axp_asm.proofs.RoundTripLemmas.{listing_assembled}

pub drop_next : {X : Type 0} (xs : List X) (n : ℕ) (x : X) → slice_get xs n ≡ Some x → drop n xs ≡ x ∷ drop (suc n) xs
drop_next [] n x at = absurd cc
drop_next (y ∷ ys) zero x at = cc
drop_next (y ∷ ys) (suc n) x at = drop_next ys n x at

-- the lines of segments
abbrev pub lines_from : ℕ → List Segment → List ℕ
lines_from n segments = flat_map line_of (flat_map segment_listed (drop n segments))

-- one segment more is written
pub segment_written : (out new whole : List ℕ) (segments : List Segment) (n : ℕ) (s : Segment) → slice_get segments n ≡ Some s
    → new ≡ out ++ flat_map line_of (segment_listed s) → out ++ lines_from n segments ≡ whole → new ++ lines_from (n + 1) segments ≡ whole
segment_written out new whole segments n s at is before =
    let own = flat_map line_of (segment_listed s) in
    let rest = lines_from (suc n) segments in
    let split : lines_from n segments ≡ own ++ rest =
    ap (λ (xs : List Segment). flat_map line_of (flat_map segment_listed xs)) (drop_next segments n s at) ∙ flat_map-append line_of (segment_listed s) (flat_map segment_listed (drop (suc n) segments)) in
    rw (add-one, is) (append_assoc out own rest ∙ ap (λ (t : List ℕ). out ++ t) (sym split) ∙ before)

-- all are written
pub whole_written : (out : List ℕ) (c : Contents) (n : ℕ) → length c.segments ≤ n → IsValid c → out ++ lines_from n c.segments ≡ listing c → assembled out ≡ Ok c
whole_written out c n all valid written =
    let none : lines_from n c.segments ≡ [] = ap (λ (xs : List Segment). flat_map line_of (flat_map segment_listed xs)) (drop_all n c.segments all) in
    let is : out ≡ listing c = sym (append-nil out) ∙ ap (λ (t : List ℕ). out ++ t) (sym none) ∙ written in
    ap assembled is ∙ listing_assembled c valid
