-- The places of a vector of sources.
use Rattle.std.proofs.Common.{◌≡◌, ℕ, zero, suc, ◌+◌, ◌-◌, ◌*◌, ◌/◌, ◌%◌, ◌<◌, ◌≤◌, List, length, get_or, slice_get, Option, Some, None, IfSome, refl, ◌∙◌, arith}
use Rattle.std.specs.Option.{option_map}
use Rattle.std.proofs.lemmas.Option.{slice_get_within}
use Rattle.axp_access.specs.declared.Access.{Access}
use Rattle.axp_access.specs.Lists.{Accesses, access_at, accesses_to}
use Rattle.axp_access.specs.Numbering.{NumberedAccess, next_access}
use Rattle.axp_check.specs.Sources.{AreSources, HasSourcesAt}
use Rattle.axp_check.specs.SourceParts.{AreSourcesTo, IsSourceAt}

-- an access of a number is of the list
pub access_within : (list : Accesses) (i : ℕ) (v : NumberedAccess) → access_at list i ≡ Some v → i - 1 < length list.items
access_within list i v e = by (slice_get list.items (i - 1)) refl e where
  by : (o : Option Access) → slice_get list.items (i - 1) ≡ o → option_map (next_access (accesses_to list (i - 1))) o ≡ Some v → i - 1 < length list.items
  by None found e = cc
  by (Some a) found e = slice_get_within list.items (i - 1) a found

places_each : (list : Accesses) (numbers : List ℕ) (m : ℕ) → AreSourcesTo list numbers (length list.items * 8) → IfSome (access_at list (m + 1)) (HasSourcesAt list numbers (m + 1))
places_each list numbers m all = by (access_at list (m + 1)) refl where
  at_place : (v : NumberedAccess) (k : ℕ) → access_at list (m + 1) ≡ Some v → m < length list.items → k < 8 → IsSourceAt list v k (get_or numbers (m * 8 + k) 0)
  at_place v k e inside few =
      let row : (m * 8 + k) / 8 + 1 ≡ m + 1 = omega (arith, few) in
      let column : (m * 8 + k) % 8 ≡ k = omega (arith, few) in
      let here = all (m * 8 + k) (omega (arith, inside, few)) in
      rw column at (rw e at (rw row at here))

  by : (o : Option NumberedAccess) → access_at list (m + 1) ≡ o → IfSome o (HasSourcesAt list numbers (m + 1))
  by None e = tt
  by (Some v) e = λ takes k less.
      let back : m + 1 - 1 ≡ m = omega arith in
      let inside : m < length list.items = rw back at (access_within list (m + 1) v e) in
      let few : v.access.size ≤ 8 = (at_place v 0 e inside (omega arith)).few takes in
      rw back ((at_place v k e inside (omega (arith, few, less))).source takes less)

-- all places are filled
pub places_all : (list : Accesses) (numbers : List ℕ) (places : ℕ) → places ≡ length list.items * 8 → length numbers ≡ places → AreSourcesTo list numbers places → AreSources list numbers
places_all list numbers places many count all = record { count = count ∙ many; each = each } where
  each : (n : ℕ) → IfSome (access_at list n) (HasSourcesAt list numbers n)
  each zero = places_each list numbers 0 (rw many at all)
  each (suc m) = let next : suc m ≡ m + 1 = omega arith in rw next (places_each list numbers m (rw many at all))
