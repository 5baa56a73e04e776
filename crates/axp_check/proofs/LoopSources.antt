-- Sources by their numbers.
use Rattle.std.proofs.Common.{◌≡◌, ℕ, zero, suc, ◌+◌, ◌-◌, ◌*◌, ◌<◌, ◌≤◌, Bool, true, false, ◌||◌, eqb, List, [], ◌∷◌, length, take, drop, slice_get, slice_index, get_or, Option, Some, None, IfSome, refl, sym, ap, ◌∙◌, subst, arith, inl, inr, ⊎_elim}
use Rattle.std.specs.List.{All, AllByRecursion, list_any}
use Rattle.std.specs.Option.{option_map_or}
use Rattle.std.proofs.lemmas.Bool.{cases_Bool, and_parts, and_from, or_cases, or_left, or_right, eqb-true, false≢true}
use Rattle.std.proofs.lemmas.List.{get_or-take, get_or-drop, length-drop, length-take-le}
use Rattle.std.proofs.lemmas.List.Elements.{All-from_recursion}
use Rattle.std.proofs.lemmas.Option.{slice_get_within}
use Rattle.axp_base.specs.Masks.{IsSize}
use Rattle.axp_access.specs.declared.Access.{Access}
use Rattle.axp_access.specs.Kinds.{is_conditional, is_fetch, is_plain_write, is_read}
use Rattle.axp_access.specs.Lists.{Accesses, IsSound, accesses_in, accesses_to, access_at, times_of}
use Rattle.axp_access.specs.Numbering.{NumberedAccess, next_access}
use Rattle.axp_access.specs.Order.{Times}
use Rattle.axp_model.specs.Sources.{can_give, source, takes_bytes}
use Rattle.axp_laws.proofs.CauseMoments.{Among, latest_among}
use Rattle.axp_check.specs.Loops.{gives_from}
use Rattle.axp_check.specs.Reached.{numbers_from, source_numbers}
use Rattle.axp_check.specs.Sources.{AreSources, source_number, source_of_byte}
use Rattle.axp_check.proofs.Numbers.{number_names}
use Rattle.axp_check.proofs.Reaches.{is_source}

-- a list whose elements are the numbers of the sources
numbers_are : (t : Times) (us : List NumberedAccess) (v : NumberedAccess) (n k : ℕ) (xs : List ℕ) → length xs ≡ n → ((j : ℕ) → j < n → get_or xs j 0 ≡ source_of_byte t us v (k + j)) → xs ≡ numbers_from t us v n k
numbers_are t us v zero k [] len each = refl
numbers_are t us v zero k (x ∷ xs) len each = absurd (never (length xs) len) where
  never : (m : ℕ) → suc m ≡ 0 → ⊥
  never m e = omega (arith, e)
numbers_are t us v (suc n) k [] len each = absurd (never n len) where
  never : (m : ℕ) → 0 ≡ suc m → ⊥
  never m e = omega (arith, e)
numbers_are t us v (suc n) k (x ∷ xs) len each =
    let first : k + 0 ≡ k = omega arith in
    let here : x ≡ source_of_byte t us v k = rw first at (each 0 (omega arith)) in
    let rest = numbers_are t us v n (k + 1) xs (let l : suc (length xs) ≡ suc n = len in omega (arith, l)) (λ j less. let sum : k + 1 + j ≡ k + suc j = omega arith in rw sum (each (suc j) (omega (arith, less)))) in
    rw (here, rest) refl

length_part : (xs : List ℕ) (i n : ℕ) → i + n ≤ length xs → length (take n (drop i xs)) ≡ n
length_part xs i n fits = length-take-le n (drop i xs) (rw (length-drop i xs) (omega (arith, fits)))

-- a read or fetch moves no more bytes than a quadword has
size_most : (a : Access) → IsSound a → (is_read a.kind || is_fetch a.kind) ≡ true → a.size ≤ 8
size_most a sound takes = by a.size (sound.sized (names (is_read a.kind) (is_fetch a.kind) (is_plain_write a.kind || is_conditional a.kind) takes)) where
  names : (b c d : Bool) → (b || c) ≡ true → ((c || b) || d) ≡ true
  names true true d e = refl
  names true false d e = refl
  names false true d e = refl
  names false false d e = absurd (false≢true e)

  by : (s : ℕ) → IsSize s → s ≤ 8
  by s (inl e) = omega (arith, e)
  by s (inr (inl e)) = omega (arith, e)
  by s (inr (inr (inl e))) = omega (arith, e)
  by s (inr (inr (inr e))) = omega (arith, e)

-- so its places are within the table
pub places_fit : (list : Accesses) (numbers : List ℕ) (n : ℕ) (a : Access) → AreSources list numbers → 1 ≤ n → slice_get list.items (n - 1) ≡ Some a → IsSound a → (is_read a.kind || is_fetch a.kind) ≡ true → (n - 1) * 8 + a.size ≤ length numbers
places_fit list numbers n a are least found sound takes =
    let count = are.count in
    let inside = slice_get_within list.items (n - 1) a found in
    let small = size_most a sound takes in
    omega (arith, count, inside, small, least)

-- those of an access of the list: the numbers at its places of the table
pub table_has_numbers : (list : Accesses) (numbers : List ℕ) (n : ℕ) (a : Access) (s : ℕ) (b : Bool) → AreSources list numbers → 1 ≤ n → slice_get list.items (n - 1) ≡ Some a → b ≡ (is_read a.kind || is_fetch a.kind) → b ≡ true → s ≡ a.size → (n - 1) * 8 + s ≤ length numbers
    → IfSome (access_at list n) (λ v. take ((n - 1) * 8 + s - (n - 1) * 8) (drop ((n - 1) * 8) numbers) ≡ source_numbers list v)
table_has_numbers list numbers n a s b are least found is takes size fits =
    let yes_ : (is_read a.kind || is_fetch a.kind) ≡ true = sym is ∙ takes in
    let told : takes_bytes (next_access (accesses_to list (n - 1)) a) ≡ true → (k : ℕ) → k < a.size → slice_index numbers ((n - 1) * 8 + k) ≡ source_of_byte (times_of list) (accesses_in list) (next_access (accesses_to list (n - 1)) a) k = rw found at (are.each n) in
    let count : (n - 1) * 8 + s - (n - 1) * 8 ≡ s = omega arith in
    rw (found, yes_) (rw count (numbers_are (times_of list) (accesses_in list) (next_access (accesses_to list (n - 1)) a) s 0 (take s (drop ((n - 1) * 8) numbers)) (length_part numbers ((n - 1) * 8) s fits) (λ j less.
    let zero_ : 0 + j ≡ j = omega arith in
    get_or-take s (drop ((n - 1) * 8) numbers) j 0 less ∙ get_or-drop ((n - 1) * 8) numbers j 0 ∙ rw zero_ (told yes_ j (rw size at less)))
    ∙ ap (λ m. numbers_from (times_of list) (accesses_in list) (next_access (accesses_to list (n - 1)) a) m 0) size))

within_all : (list : Accesses) (v : NumberedAccess) (n k : ℕ) → AllByRecursion (λ m. m ≤ length list.items) (numbers_from (times_of list) (accesses_in list) v n k)
within_all list v zero k = tt
within_all list v (suc n) k = (by (source (times_of list) (v.access.address + k) v (accesses_in list)) refl, within_all list v n (k + 1)) where
  by : (o : Option NumberedAccess) → source (times_of list) (v.access.address + k) v (accesses_in list) ≡ o → source_number o ≤ length list.items
  by None e = omega arith
  by (Some w) e = (number_names list w (latest_among (times_of list) (can_give (times_of list) (v.access.address + k) v) (accesses_in list) w e).0).most

-- each is that of an access, or 0
pub numbers_within : (list : Accesses) (v : NumberedAccess) → AllByRecursion (λ m. m ≤ length list.items) (source_numbers list v)
numbers_within list v = ⊎_elim
    (λ (yes_ : takes_bytes v ≡ true). rw yes_ (within_all list v v.access.size 0))
    (λ (no_ : takes_bytes v ≡ false). rw no_ tt)
    (cases_Bool (takes_bytes v))

pub table_within : (list : Accesses) (n : ℕ) (a : Access) (xs : List ℕ) → slice_get list.items (n - 1) ≡ Some a → IfSome (access_at list n) (λ v. xs ≡ source_numbers list v) → All (λ m. m ≤ length list.items) xs
table_within list n a xs found is =
    let same : xs ≡ source_numbers list (next_access (accesses_to list (n - 1)) a) = rw found at is in
    All-from_recursion (λ m. m ≤ length list.items) xs (subst (AllByRecursion (λ m. m ≤ length list.items)) (sym same) (numbers_within list (next_access (accesses_to list (n - 1)) a)))

-- a source of v, by a test of its number
pub record HasSourceThat (list : Accesses) (test : ℕ → Bool) (v : NumberedAccess) : Type 0 where
  pub from : NumberedAccess
  pub among : Among from (accesses_in list)
  pub is : is_source (times_of list) (accesses_in list) from v ≡ true
  pub passes : test from.number ≡ true

record GivesFrom (list : Accesses) (test : ℕ → Bool) (v : NumberedAccess) (n k : ℕ) : Type 0 where
  from : NumberedAccess
  among : Among from (accesses_in list)
  gives : gives_from (times_of list) (accesses_in list) from v n k ≡ true
  passes : test from.number ≡ true

eqb_same : (n : ℕ) → eqb n n ≡ true
eqb_same n = grind arith

some_gives : (list : Accesses) (test : ℕ → Bool) (v : NumberedAccess) (n k : ℕ) → test 0 ≡ false → list_any test (numbers_from (times_of list) (accesses_in list) v n k) ≡ true → GivesFrom list test v n k
some_gives list test v zero k none any = absurd (false≢true any)
some_gives list test v (suc n) k none any =
    ⊎_elim
    (λ (here : test (source_of_byte (times_of list) (accesses_in list) v k) ≡ true). by (source (times_of list) (v.access.address + k) v (accesses_in list)) refl here)
    (λ (back : list_any test (numbers_from (times_of list) (accesses_in list) v n (k + 1)) ≡ true).
    let rest = some_gives list test v n (k + 1) none back in
    record { from = rest.from; among = rest.among; gives = or_right (option_map_or (λ w. eqb w.number rest.from.number) (source (times_of list) (v.access.address + k) v (accesses_in list)) false) (gives_from (times_of list) (accesses_in list) rest.from v n (k + 1)) rest.gives; passes = rest.passes })
    (or_cases (test (source_of_byte (times_of list) (accesses_in list) v k)) (list_any test (numbers_from (times_of list) (accesses_in list) v n (k + 1))) any) where
      by : (o : Option NumberedAccess) → source (times_of list) (v.access.address + k) v (accesses_in list) ≡ o → test (source_number o) ≡ true → GivesFrom list test v (suc n) k
      by None e passed = absurd (false≢true (sym none ∙ passed))
      by (Some w) e passed = record {
        from = w;
        among = (latest_among (times_of list) (can_give (times_of list) (v.access.address + k) v) (accesses_in list) w e).0;
        gives = or_left (option_map_or (λ u. eqb u.number w.number) (source (times_of list) (v.access.address + k) v (accesses_in list)) false) (gives_from (times_of list) (accesses_in list) w v n (k + 1)) (rw e (eqb_same w.number));
        passes = passed;
      }

pub source_that : (list : Accesses) (test : ℕ → Bool) (v : NumberedAccess) → test 0 ≡ false → list_any test (source_numbers list v) ≡ true → HasSourceThat list test v
source_that list test v none any = ⊎_elim
    (λ (yes_ : takes_bytes v ≡ true).
    let gives = some_gives list test v v.access.size 0 none (rw yes_ at any) in
    record { from = gives.from; among = gives.among; is = and_from (takes_bytes v) (gives_from (times_of list) (accesses_in list) gives.from v v.access.size 0) yes_ gives.gives; passes = gives.passes })
    (λ (no_ : takes_bytes v ≡ false). absurd (false≢true (rw no_ at any)))
    (cases_Bool (takes_bytes v))

any_from_gives : (list : Accesses) (test : ℕ → Bool) (w v : NumberedAccess) (n k : ℕ) → gives_from (times_of list) (accesses_in list) w v n k ≡ true → test w.number ≡ true → list_any test (numbers_from (times_of list) (accesses_in list) v n k) ≡ true
any_from_gives list test w v zero k gives passes = absurd (false≢true gives)
any_from_gives list test w v (suc n) k gives passes =
    ⊎_elim
    (λ (here : option_map_or (λ u. eqb u.number w.number) (source (times_of list) (v.access.address + k) v (accesses_in list)) false ≡ true). or_left (test (source_of_byte (times_of list) (accesses_in list) v k)) (list_any test (numbers_from (times_of list) (accesses_in list) v n (k + 1))) (by (source (times_of list) (v.access.address + k) v (accesses_in list)) here))
    (λ (back : gives_from (times_of list) (accesses_in list) w v n (k + 1) ≡ true). or_right (test (source_of_byte (times_of list) (accesses_in list) v k)) (list_any test (numbers_from (times_of list) (accesses_in list) v n (k + 1))) (any_from_gives list test w v n (k + 1) back passes))
    (or_cases (option_map_or (λ u. eqb u.number w.number) (source (times_of list) (v.access.address + k) v (accesses_in list)) false) (gives_from (times_of list) (accesses_in list) w v n (k + 1)) gives) where
      by : (o : Option NumberedAccess) → option_map_or (λ u. eqb u.number w.number) o false ≡ true → test (source_number o) ≡ true
      by None e = absurd (false≢true e)
      by (Some u) e = subst (λ m. test m ≡ true) (sym (eqb-true u.number w.number e)) passes

pub any_source : (list : Accesses) (test : ℕ → Bool) (w v : NumberedAccess) → is_source (times_of list) (accesses_in list) w v ≡ true → test w.number ≡ true → list_any test (source_numbers list v) ≡ true
any_source list test w v is passes =
    let both = and_parts (takes_bytes v) (gives_from (times_of list) (accesses_in list) w v v.access.size 0) is in
    rw both.0 (any_from_gives list test w v v.access.size 0 both.1 passes)
