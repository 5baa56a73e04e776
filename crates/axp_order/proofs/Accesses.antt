-- The accesses of a list, one after the other.
use Rattle.std.proofs.Common.{◌≡◌, ℕ, ◌+◌, ◌-◌, ◌<◌, ◌≤◌, List, [], ◌∷◌, ◌++◌, length, take, drop, reverse, slice_get, Option, Some, None, refl, sym, ap, ◌∙◌, arith, ⊎_elim}
use Rattle.std.specs.Option.{option_map}
use Rattle.std.proofs.lemmas.Option.{slice_get_cases, slice_get_within, get_or_from_slice_get}
use Rattle.std.proofs.lemmas.List.{take_more, reverse-append, length-take-le, length-reverse}
use Rattle.std.proofs.Math.Seq.{take-add}
use Rattle.axp_access.specs.declared.Access.{Access}
use Rattle.axp_access.specs.Numbering.{NumberedAccess, next_access}
use Rattle.axp_access.specs.Lists.{Accesses, number_accesses, accesses_to, access_at}
use Rattle.axp_access.proofs.Numbers.{length_numbered}

-- what an access of a list is, by its number
record IsAt (list : Accesses) (n : ℕ) (u : NumberedAccess) : Type 0 where
  access : Access
  found : slice_get list.items n ≡ Some access
  item : next_access (accesses_to list n) access ≡ u

is_at : (list : Accesses) (n : ℕ) (u : NumberedAccess) → access_at list (n + 1) ≡ Some u → IsAt list n u
is_at list n u e = let same : n + 1 - 1 ≡ n = omega arith in by (slice_get list.items n) refl (rw same at e) where
  by : (o : Option Access) → slice_get list.items n ≡ o → option_map (next_access (accesses_to list n)) o ≡ Some u → IsAt list n u
  by None found e = cc
  by (Some a) found e = record { access = a; found = found; item = cc }

-- one more access stands in front
pub accesses_more : (list : Accesses) (n : ℕ) (u : NumberedAccess) → access_at list (n + 1) ≡ Some u → accesses_to list (n + 1) ≡ u ∷ accesses_to list n
accesses_more list n u e =
    let at = is_at list n u e in
    let more : take (n + 1) list.items ≡ take n list.items ++ at.access ∷ [] = rw (get_or_from_slice_get list.items n at.access at.access at.found) at (take_more list.items n at.access (slice_get_within list.items n at.access at.found)) in
    rw more (rw (reverse-append (take n list.items) (at.access ∷ [])) (ap (λ v. v ∷ accesses_to list n) at.item))

pub number_at : (list : Accesses) (n : ℕ) (u : NumberedAccess) → access_at list (n + 1) ≡ Some u → u.number ≡ n + 1
number_at list n u e =
    let at = is_at list n u e in
    let inside = slice_get_within list.items n at.access at.found in
    let number : u.number ≡ length (accesses_to list n) + 1 = ap (λ v. v.number) (sym at.item) in
    let short : length (take n list.items) ≡ n = length-take-le n list.items (omega (arith, inside)) in
    rw number (ap (λ m. m + 1) (length_numbered (reverse (take n list.items)) ∙ length-reverse (take n list.items) ∙ short))

-- there is an access of each number
pub access_some : (list : Accesses) (n : ℕ) → n < length list.items → (u : NumberedAccess) × (access_at list (n + 1) ≡ Some u)
access_some list n inside = ⊎_elim
    (λ here. let same : n + 1 - 1 ≡ n = omega arith in (next_access (accesses_to list n) here.0, rw (same, here.2) refl))
    (λ past. absurd (never n (length list.items) inside past.0))
    (slice_get_cases list.items n).1 where
      never : (a b : ℕ) → a < b → b ≤ a → ⊥
      never a b less le = omega (arith, less, le)

numbered_onto : (ys zs : List Access) → (ws : List NumberedAccess) × (number_accesses (ys ++ zs) ≡ ws ++ number_accesses zs)
numbered_onto [] zs = ([], refl)
numbered_onto (y ∷ ys) zs = let rest = numbered_onto ys zs in (next_access (number_accesses (ys ++ zs)) y ∷ rest.0, ap (λ ws. next_access (number_accesses (ys ++ zs)) y ∷ ws) rest.1)

-- more accesses stand in front
pub accesses_grow : (list : Accesses) (n k : ℕ) → (ws : List NumberedAccess) × (accesses_to list (n + k) ≡ ws ++ accesses_to list n)
accesses_grow list n k =
    let rest = numbered_onto (reverse (take k (drop n list.items))) (reverse (take n list.items)) in
    (rest.0, ap number_accesses (ap reverse (take-add n k list.items) ∙ reverse-append (take n list.items) (take k (drop n list.items))) ∙ rest.1)
