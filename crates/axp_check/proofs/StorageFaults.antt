-- A fault of storage is the first wrong byte of the first access that has one, with its source.
use Rattle.std.proofs.Common.{◌≡◌, inl, inr, ⊎_elim, ℕ, zero, suc, ◌+◌, ◌<◌, ◌≤◌, Bool, true, false, List, [], ◌∷◌, Option, Some, None, refl, sym, ap, ◌∙◌, subst, arith, ◌≢◌}
use Rattle.std.specs.Option.{option_map, option_or}
use Rattle.std.proofs.lemmas.Bool.{cases_Bool, cases_lt, cases_eq, eqb-true, eqb-false}
use Rattle.axp_base.specs.Parts.{byte}
use Rattle.axp_access.specs.Numbering.{NumberedAccess}
use Rattle.axp_access.specs.Order.{Times}
use Rattle.axp_model.specs.Sources.{takes_bytes}
use Rattle.axp_laws.proofs.CauseMoments.{Among, among_all, among_of}
use Rattle.axp_laws.proofs.PollSignals.{contains_of}
use Rattle.axp_check.specs.Faults.{IsFirstWrong}
use Rattle.axp_check.specs.Sources.{source_of_byte}
use Rattle.axp_check.specs.Storage.{HasSourcesIn, is_right, right_byte, wrong_from, wrong_source, first_wrong, storage_fault}
use Rattle.axp_check.proofs.NoneLemmas.{Descends}
use Rattle.axp_check.proofs.PairFaults.{pair_parts, some_pair}
use Rattle.axp_check.proofs.LockingLaws.{same_number}
use Rattle.axp_check.proofs.StorageLaws.{first_none-to, sources_of_none, storage_fault-to}

-- the first wrong one, and those below it are right
record IsLowest (right : ℕ → Bool) (n k i : ℕ) : Type 0 where
  most : i < k + n
  wrong : right i ≡ false
  lower : (m : ℕ) → k ≤ m → m < i → right m ≡ true

lowest_is : (right : ℕ → Bool) (n k i : ℕ) → wrong_from right n k ≡ Some i → IsLowest right n k i
lowest_is right zero k i e = cc
lowest_is right (suc n) k i e = ⊎_elim
    (λ (yes_ : right k ≡ true).
    let rest = lowest_is right n (k + 1) i (rw yes_ at e) in
    let most = rest.most in
    record {
      most = omega (arith, most);
      wrong = rest.wrong;
      lower = λ m least less. ⊎_elim (λ (same : m ≡ k). rw same yes_) (λ differs. rest.lower m (omega (arith, least, differs)) less) (cases_eq m k);
    })
    (λ (no_ : right k ≡ false).
    let is : Some k ≡ Some i = rw no_ at e in
    let same : k ≡ i = cc in
    subst (λ j. IsLowest right (suc n) k j) same (record { most = omega arith; wrong = no_; lower = λ m least less. absurd (never k m least less) }))
    (cases_Bool (right k)) where
      never : (k m : ℕ) → k ≤ m → m < k → ⊥
      never k m least less = omega (arith, least, less)

-- the first that is wrong, and those of lesser numbers are not
record IsFirst (wrong : NumberedAccess → Option ℕ) (vs : List NumberedAccess) (i j : ℕ) : Type 0 where
  second : NumberedAccess
  among : Among second vs
  number : second.number ≡ j
  fault : wrong second ≡ Some i
  earlier : (v : NumberedAccess) → Among v vs → v.number < j → wrong v ≡ None

first_is : (wrong : NumberedAccess → Option ℕ) (vs : List NumberedAccess) → Descends vs → (i j : ℕ) → first_wrong wrong vs ≡ Some (i, j) → IsFirst wrong vs i j
first_is wrong [] falls i j e = cc
first_is wrong (x ∷ vs) falls i j e = by (first_wrong wrong vs) refl (λ f. first_is wrong vs falls.1 i j f) e where
  not_less : (a b : ℕ) → a < b → b < a → ⊥
  not_less a b p q = omega (arith, p, q)

  not_self : (a b : ℕ) → a ≡ b → b < a → ⊥
  not_self a b p q = omega (arith, p, q)

  by : (o : Option (ℕ × ℕ)) → first_wrong wrong vs ≡ o → (first_wrong wrong vs ≡ Some (i, j) → IsFirst wrong vs i j) → option_or o (option_map (λ first. (first, x.number)) (wrong x)) ≡ Some (i, j) → IsFirst wrong (x ∷ vs) i j
  by (Some p) found back e =
      let rest = back (found ∙ e) in
      record {
        second = rest.second;
        among = inr rest.among;
        number = rest.number;
        fault = rest.fault;
        earlier = λ v a less. ⊎_elim
            (λ (here : x ≡ v). absurd (not_less v.number j less (subst (λ z. j < z.number) here (subst (λ n. n < x.number) rest.number (among_all (λ z. z.number < x.number) vs rest.second falls.0 rest.among)))))
            (λ behind. rest.earlier v behind less)
            a;
      }
  by None found back e = at (wrong x) refl e where
    at : (o : Option ℕ) → wrong x ≡ o → option_map {U = ℕ × ℕ} (λ first. (first, x.number)) o ≡ Some (i, j) → IsFirst wrong (x ∷ vs) i j
    at None none e = cc
    at (Some k) some e =
        let numbers = pair_parts k x.number i j e in
        record {
          second = x;
          among = inl refl;
          number = numbers.1;
          fault = some ∙ ap (λ m. Some m) numbers.0;
          earlier = λ v a less. ⊎_elim
              (λ (here : x ≡ v). absurd (not_self j v.number (sym numbers.1 ∙ ap (λ z. z.number) here) less))
              (λ behind. among_all (λ z. wrong z ≡ None) vs v (first_none-to wrong vs found) behind)
              a;
        }

pub storage_fault_is : (image : ℕ → ℕ) (t : Times) (us : List NumberedAccess) → Descends us → (i j : ℕ) → storage_fault image t us ≡ Some (i, j) → IsFirstWrong image t us i j
storage_fault_is image t us falls i j e = whole (first_is (wrong_source image t us) us falls i j e) where
  whole : IsFirst (wrong_source image t us) us i j → IsFirstWrong image t us i j
  whole is = ⊎_elim
      (λ (takes : takes_bytes is.second ≡ true). by (wrong_from (is_right image t us is.second) is.second.access.size 0) refl takes (rw takes at is.fault))
      (λ (not_ : takes_bytes is.second ≡ false). let none : None ≡ Some i = rw not_ at is.fault in none_some none)
      (cases_Bool (takes_bytes is.second)) where
        none_some : None ≡ Some i → IsFirstWrong image t us i j
        none_some e = cc

        by : (o : Option ℕ) → wrong_from (is_right image t us is.second) is.second.access.size 0 ≡ o → takes_bytes is.second ≡ true → option_map (source_of_byte t us is.second) o ≡ Some i → IsFirstWrong image t us i j
        by None found takes e = none_some e
        by (Some k) found takes e =
            let low = lowest_is (is_right image t us is.second) is.second.access.size 0 k found in
            let most = low.most in
            record {
              second = is.second;
              offset = k;
              has_second = contains_of us is.second is.among;
              second_number = is.number;
              takes = takes;
              inside = omega (arith, most);
              wrong = eqb-false (byte is.second.access.value k) (right_byte image t us is.second k) low.wrong;
              source = cc;
              lower = λ m less. eqb-true (byte is.second.access.value m) (right_byte image t us is.second m) (low.lower m (omega arith) less);
              earlier = λ v a less. sources_of_none image t us v (is.earlier v (among_of us v a) less);
            }

-- the lowest of which something is not so
lowest_one : (P : ℕ → Type 0) (a b : ℕ) → (P a → ⊥) → (P b → ⊥) → ((k : ℕ) → k < a → P k) → ((k : ℕ) → k < b → P k) → a ≡ b
lowest_one P a b na nb la lb = ⊎_elim
    (λ (less : a < b). absurd (na (lb a less)))
    (λ (ge : b ≤ a). ⊎_elim (λ (more : b < a). absurd (nb (la b more))) (λ (le : a ≤ b). omega (arith, ge, le)) (cases_lt b a))
    (cases_lt a b)

-- no access before a first wrong one is a first wrong one
not_before : (image : ℕ → ℕ) (t : Times) (us : List NumberedAccess) (i j k l : ℕ) → IsFirstWrong image t us i j → IsFirstWrong image t us k l → j < l → ⊥
not_before image t us i j k l one two less = one.wrong (two.earlier one.second one.has_second (subst (λ n. n < l) (sym one.second_number) less) one.takes one.offset one.inside)

one_wrong : (image : ℕ → ℕ) (t : Times) (us : List NumberedAccess) (i j k l : ℕ) → Descends us → IsFirstWrong image t us i j → IsFirstWrong image t us k l → (i ≡ k) × (j ≡ l)
one_wrong image t us i j k l falls one two = ⊎_elim
    (λ (less : j < l). absurd (not_before image t us i j k l one two less))
    (λ (ge : l ≤ j). ⊎_elim (λ (more : l < j). absurd (not_before image t us k l i j two one more)) (λ (le : j ≤ l). (at (omega (arith, ge, le)), omega (arith, ge, le))) (cases_lt l j))
    (cases_lt j l) where
      at : j ≡ l → i ≡ k
      at numbers =
          let same = same_number us falls one.second two.second (among_of us one.second one.has_second) (among_of us two.second two.has_second) (one.second_number ∙ numbers ∙ sym two.second_number) in
          let offsets = lowest_one (λ m. byte one.second.access.value m ≡ right_byte image t us one.second m) one.offset two.offset one.wrong (subst (λ v. byte v.access.value two.offset ≢ right_byte image t us v two.offset) (sym same) two.wrong) one.lower (λ m less. subst (λ v. byte v.access.value m ≡ right_byte image t us v m) (sym same) (two.lower m less)) in
          sym one.source ∙ ap (λ v. source_of_byte t us v one.offset) same ∙ ap (source_of_byte t us two.second) offsets ∙ two.source

-- the first wrong byte is the fault
pub storage_fault_from : (image : ℕ → ℕ) (t : Times) (us : List NumberedAccess) → Descends us → (i j : ℕ) → IsFirstWrong image t us i j → storage_fault image t us ≡ Some (i, j)
storage_fault_from image t us falls i j is = by (storage_fault image t us) refl where
  by : (o : Option (ℕ × ℕ)) → storage_fault image t us ≡ o → o ≡ Some (i, j)
  by None found = absurd (is.wrong (among_all (HasSourcesIn image t us) us is.second (storage_fault-to image t us found) (among_of us is.second is.has_second) is.takes is.offset is.inside))
  by (Some (k, l)) found = some_pair i j k l (one_wrong image t us i j k l falls is (storage_fault_is image t us falls k l found))
