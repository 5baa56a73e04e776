-- Where a scan finds none, and lists whose numbers descend.
use Rattle.std.proofs.Common.{◌≡◌, inl, inr, ⊎_elim, ℕ, zero, suc, ◌+◌, ◌<◌, Bool, true, false, cond, List, [], ◌∷◌, length, slice_get, Option, Some, None, refl, ap, arith}
use Rattle.std.specs.List.{AllByRecursion}
use Rattle.std.specs.Option.{option_map, option_or}
use Rattle.axp_access.specs.declared.Access.{Access}
use Rattle.axp_access.specs.Lists.{number_accesses}
use Rattle.axp_access.specs.Numbering.{NumberedAccess}
use Rattle.axp_model.specs.Issue.{AllPairs}
use Rattle.axp_laws.proofs.CauseMoments.{Among}
use Rattle.axp_order.specs.Oldest.{oldest_that, least_pair}

-- neither of two, and none whatever is made of it
pub or_none : {X : Type 0} (o p : Option X) → option_or o p ≡ None → (o ≡ None) × (p ≡ None)
or_none None p e = (refl, e)
or_none (Some x) p e = cc

pub none_of_map : {X Y : Type 0} (f : X → Y) (o : Option X) → option_map f o ≡ None → o ≡ None
none_of_map f None e = refl
none_of_map f (Some x) e = cc

pub none_of_test : {X : Type 0} (x : X) (b : Bool) → cond b (Some x) None ≡ None → b ≡ false
none_of_test x true e = cc
none_of_test x false e = refl

-- what holds of each that is among a list's
pub all_from : {X : Type 0} (P : X → Type 0) (xs : List X) → ((x : X) → Among x xs → P x) → AllByRecursion P xs
all_from P [] f = tt
all_from P (x ∷ xs) f = (f x (inl refl), all_from P xs (λ y a. f y (inr a)))

-- what stands at a place is among the list's, and stands at one
pub among_at : {X : Type 0} (xs : List X) (k : ℕ) (y : X) → slice_get xs k ≡ Some y → Among y xs
among_at [] k y e = cc
among_at (x ∷ xs) zero y e = inl (cc)
among_at (x ∷ xs) (suc k) y e = inr (among_at xs k y e)

pub place_of : {X : Type 0} (xs : List X) (y : X) → Among y xs → (k : ℕ) × (slice_get xs k ≡ Some y)
place_of [] y a = absurd a
place_of (x ∷ xs) y a = ⊎_elim (λ same. (0, ap (λ z. Some z) same)) (λ rest. let k = place_of xs y rest in (suc k.0, k.1)) a

-- the accesses of a list stand by descending number
abbrev pub Descends : List NumberedAccess → Type 0
Descends us = AllPairs (λ u v. u.number < v.number) us

numbers_within : (xs : List Access) → AllByRecursion (λ u. u.number < length (number_accesses xs) + 1) (number_accesses xs)
numbers_within [] = tt
numbers_within (x ∷ xs) = (omega arith, each (number_accesses xs) (length (number_accesses xs)) (numbers_within xs)) where
  each : (us : List NumberedAccess) (n : ℕ) → AllByRecursion (λ u. u.number < n + 1) us → AllByRecursion (λ u. u.number < suc n + 1) us
  each [] n all = tt
  each (u ∷ us) n all = (let less = all.0 in omega (arith, less), each us n all.1)

pub numbers_descend : (xs : List Access) → Descends (number_accesses xs)
numbers_descend [] = tt
numbers_descend (x ∷ xs) = (numbers_within xs, numbers_descend xs)

-- the oldest that passes a test is none exactly where none passes
pub oldest_none-to : (test : NumberedAccess → Bool) (us : List NumberedAccess) → oldest_that test us ≡ None → AllByRecursion (λ u. test u ≡ false) us
oldest_none-to test [] e = tt
oldest_none-to test (u ∷ us) e = let neither = or_none (oldest_that test us) (cond (test u) (Some u) None) e in (none_of_test u (test u) neither.1, oldest_none-to test us neither.0)

pub oldest_none-from : (test : NumberedAccess → Bool) (us : List NumberedAccess) → AllByRecursion (λ u. test u ≡ false) us → oldest_that test us ≡ None
oldest_none-from test [] all = refl
oldest_none-from test (u ∷ us) all = rw (oldest_none-from test us all.1, all.0) refl

-- the least pair of a relation is none exactly where it holds of no two
pub least_none-to : (bad : NumberedAccess → NumberedAccess → Bool) (us : List NumberedAccess) → least_pair bad us ≡ None → AllPairs (λ u v. bad u v ≡ false) us
least_none-to bad [] e = tt
least_none-to bad (v ∷ us) e =
    let neither = or_none (least_pair bad us) (option_map (λ u. (u.number, v.number)) (oldest_that (λ u. bad u v) us)) e in
    (oldest_none-to (λ u. bad u v) us (none_of_map (λ u. (u.number, v.number)) (oldest_that (λ u. bad u v) us) neither.1), least_none-to bad us neither.0)

pub least_none-from : (bad : NumberedAccess → NumberedAccess → Bool) (us : List NumberedAccess) → AllPairs (λ u v. bad u v ≡ false) us → least_pair bad us ≡ None
least_none-from bad [] all = refl
least_none-from bad (v ∷ us) all = rw (least_none-from bad us all.1, oldest_none-from (λ u. bad u v) us all.0) refl
