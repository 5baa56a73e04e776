-- Which byte stands where.
use Rattle.std.proofs.Common.{◌≡◌, ℕ, zero, suc, ◌+◌, ◌-◌, ◌<◌, ◌≤◌, true, false, leb, ltb, List, [], ◌∷◌, length, slice_get, get_or, Some, refl, sym, ap, subst, arith, inl, inr}
use Rattle.std.proofs.lemmas.Bool.{and_parts, and_from, and_right, leb-true, ltb-true, le-leb, lt-ltb, le-ltb, cases_Bool}
use Rattle.axp_image.specs.Contents.{Segment, end_of, covers, byte_in, ArePlaced}
use Rattle.axp_image.specs.Laws.{DoNotOverlap, HaveTheirBytes, AreZeroElsewhere}
use Rattle.axp_image.proofs.ValidityLemmas.{some_is}

covers_says : (s : Segment) (address : ℕ) → covers s address ≡ true → (s.address ≤ address) × (address < end_of s)
covers_says s address h =
    let both = and_parts (leb s.address address) (ltb address (end_of s)) h in
    (leb-true _ _ both.0, ltb-true _ _ both.1)

covers_inside : (s : Segment) (k : ℕ) → k < length s.bytes → covers s (s.address + k) ≡ true
covers_inside s k lt =
    and_from (leb s.address (s.address + k)) (ltb (s.address + k) (end_of s)) (le-leb _ _ (omega arith)) (lt-ltb _ _ (omega arith))

covers_past : (s : Segment) (address : ℕ) → end_of s ≤ address → covers s address ≡ false
covers_past s address le = and_right (leb s.address address) (ltb address (end_of s)) (le-ltb _ _ le)

-- each segment stands at or above where the first may stand
above : (size from : ℕ) (ss : List Segment) (i : ℕ) (s : Segment) → ArePlaced size from ss → slice_get ss i ≡ Some s → from ≤ s.address
above size from [] i s placed at = absurd cc
above size from (x ∷ xs) zero s placed at = subst (λ (y : Segment). from ≤ y.address) (some_is x s at) placed.0.above
above size from (x ∷ xs) (suc i) s placed at = omega (arith, placed.0.above, above size (end_of x) xs i s placed.1 at)

-- a byte of the first segment is in none behind it
not_behind : (size : ℕ) (x : Segment) (xs : List Segment) (i : ℕ) (s : Segment) (address : ℕ) → ArePlaced size (end_of x) xs → slice_get xs i ≡ Some s
    → covers x address ≡ true → covers s address ≡ true → ⊥
not_behind size x xs i s address placed at first second =
    let a = covers_says x address first in
    let b = covers_says s address second in
    omega (arith, above size (end_of x) xs i s placed at, a.1, b.0)

pub do_not_overlap : (size from : ℕ) (ss : List Segment) → ArePlaced size from ss → DoNotOverlap ss
do_not_overlap size from [] placed i j s t address at_i at_j in_s in_t = absurd cc
do_not_overlap size from (x ∷ xs) placed zero zero s t address at_i at_j in_s in_t = refl
do_not_overlap size from (x ∷ xs) placed zero (suc j) s t address at_i at_j in_s in_t =
    absurd (not_behind size x xs j t address placed.1 at_j (subst (λ (y : Segment). covers y address ≡ true) (sym (some_is x s at_i)) in_s) in_t)
do_not_overlap size from (x ∷ xs) placed (suc i) zero s t address at_i at_j in_s in_t =
    absurd (not_behind size x xs i s address placed.1 at_i (subst (λ (y : Segment). covers y address ≡ true) (sym (some_is x t at_j)) in_t) in_s)
do_not_overlap size from (x ∷ xs) placed (suc i) (suc j) s t address at_i at_j in_s in_t =
    ap suc (do_not_overlap size (end_of x) xs placed.1 i j s t address at_i at_j in_s in_t)

pub have_their_bytes : (size from : ℕ) (ss : List Segment) → ArePlaced size from ss → HaveTheirBytes ss
have_their_bytes size from [] placed i k s at lt = absurd cc
have_their_bytes size from (x ∷ xs) placed zero k s at lt =
    let here : byte_in (s ∷ xs) (s.address + k) ≡ get_or s.bytes k 0 =
    let place : s.address + k - s.address ≡ k = omega arith in
    rw (covers_inside s k lt, place) refl in
    subst (λ (y : Segment). byte_in (y ∷ xs) (s.address + k) ≡ get_or s.bytes k 0) (sym (some_is x s at)) here
have_their_bytes size from (x ∷ xs) placed (suc i) k s at lt =
    let past : covers x (s.address + k) ≡ false = covers_past x (s.address + k) (omega (arith, above size (end_of x) xs i s placed.1 at)) in
    rw past (have_their_bytes size (end_of x) xs placed.1 i k s at lt)

pub are_zero_elsewhere : (ss : List Segment) → AreZeroElsewhere ss
are_zero_elsewhere [] address none = refl
are_zero_elsewhere (x ∷ xs) address none =
    elim (cases_Bool (covers x address)) [
      | inl has ↦ absurd (none zero x refl has)
      | inr lacks ↦ rw lacks (are_zero_elsewhere xs address (λ i s at in_s. none (suc i) s at in_s))
    ]

pub byte_small : (size from : ℕ) (ss : List Segment) (address : ℕ) → ArePlaced size from ss → byte_in ss address < 256
byte_small size from [] address placed = omega arith
byte_small size from (x ∷ xs) address placed =
    elim (cases_Bool (covers x address)) [
      | inl has ↦ rw has (placed.0.bytes (address - x.address))
      | inr lacks ↦ rw lacks (byte_small size (end_of x) xs address placed.1)
    ]
