-- The pairs of a queue, one added and one taken.
use Rattle.std.proofs.Common.{◌≡◌, ◌↔◌, ℕ, ◌<◌, zero, suc, true, eqb, ltb, List, [], ◌∷◌, Some, slice_get, refl, ⊎_elim}
use Rattle.std.proofs.lemmas.Bool.{and_parts, and_from, or_cases, or_left, or_right, eqb-true, eq-eqb, ltb-true, lt-ltb}
use Rattle.axp_base.specs.Lines.{line_number}
use Rattle.axp_base.specs.declared.lines.Line.{Line}
use Rattle.axp_base.specs.LatePairs.{Later, has_later, is_later}

one_later : (line stamp : ℕ) (p : Line × ℕ) → is_later line stamp p ≡ true → (line_number p.0 ≡ line) × (stamp < p.1)
one_later line stamp p h =
    let parts = and_parts (eqb (line_number p.0) line) (ltb stamp p.1) h in
    (eqb-true (line_number p.0) line parts.0, ltb-true stamp p.1 parts.1)

behind : (line stamp : ℕ) (p : Line × ℕ) (pairs : List (Line × ℕ)) → Later line stamp pairs → Later line stamp (p ∷ pairs)
behind line stamp p pairs later = record { place = suc later.place; pair = later.pair; kept = later.kept; same = later.same; greater = later.greater }

later_from : (line stamp : ℕ) (pairs : List (Line × ℕ)) → has_later line stamp pairs ≡ true → Later line stamp pairs
later_from line stamp [] h = cc
later_from line stamp (p ∷ pairs) h =
    ⊎_elim
    (λ here. let found = one_later line stamp p here in record { place = 0; pair = p; kept = refl; same = found.0; greater = found.1 })
    (λ there. behind line stamp p pairs (later_from line stamp pairs there))
    (or_cases (is_later line stamp p) (has_later line stamp pairs) h)

later_at : (line stamp : ℕ) (pairs : List (Line × ℕ)) (place : ℕ) (pair : Line × ℕ) → slice_get pairs place ≡ Some pair → is_later line stamp pair ≡ true → has_later line stamp pairs ≡ true
later_at line stamp [] place pair at later = cc
later_at line stamp (p ∷ pairs) zero pair at later = or_left (is_later line stamp p) (has_later line stamp pairs) cc
later_at line stamp (p ∷ pairs) (suc place) pair at later = or_right (is_later line stamp p) (has_later line stamp pairs) (later_at line stamp pairs place pair at later)

pub later_exactly : (line stamp : ℕ) (pairs : List (Line × ℕ)) → (has_later line stamp pairs ≡ true) ↔ Later line stamp pairs
later_exactly line stamp pairs = (
  later_from line stamp pairs,
  λ later. later_at line stamp pairs later.place later.pair later.kept (and_from (eqb (line_number later.pair.0) line) (ltb stamp later.pair.1) (eq-eqb (line_number later.pair.0) line later.same) (lt-ltb stamp later.pair.1 later.greater)),
)
