-- No byte is wrong exactly where each read and fetch has the bytes of its sources.
use Rattle.std.proofs.Common.{◌≡◌, ℕ, zero, suc, ◌+◌, ◌<◌, ◌≤◌, Bool, true, false, cond, eqb, List, [], ◌∷◌, Option, None, refl, sym, ap, ◌∙◌, arith, ⊎_elim, subst}
use Rattle.std.specs.List.{AllByRecursion}
use Rattle.std.specs.Option.{option_map}
use Rattle.std.proofs.lemmas.Bool.{cases_Bool, cases_eq, eqb-true, eq-eqb}
use Rattle.axp_base.specs.Parts.{byte}
use Rattle.axp_access.specs.Numbering.{NumberedAccess}
use Rattle.axp_access.specs.Order.{Times}
use Rattle.axp_model.specs.Sources.{takes_bytes}
use Rattle.axp_check.specs.Sources.{source_of_byte}
use Rattle.axp_check.specs.Storage.{is_right, right_byte, wrong_from, wrong_byte, wrong_source, first_wrong, storage_fault, HasSourcesIn}
use Rattle.axp_check.proofs.NoneLemmas.{or_none, none_of_map}

-- none is wrong exactly where each is right
wrong_none-to : (right : ℕ → Bool) (n k i : ℕ) → wrong_from right n k ≡ None → k ≤ i → i < k + n → right i ≡ true
wrong_none-to right zero k i e least most = absurd (never k i least most) where
  never : (k i : ℕ) → k ≤ i → i < k + 0 → ⊥
  never k i least most = omega (arith, least, most)
wrong_none-to right (suc n) k i e least most =
    ⊎_elim
    (λ (yes_ : right k ≡ true). ⊎_elim
    (λ (same : i ≡ k). rw same yes_)
    (λ differs. wrong_none-to right n (k + 1) i (rw yes_ at e) (omega (arith, least, differs)) (omega (arith, most)))
    (cases_eq i k))
    (λ (no_ : right k ≡ false). none_wrong k (rw no_ at e))
    (cases_Bool (right k)) where
      none_wrong : (k : ℕ) → Rattle.std.proofs.Common.Some k ≡ None → right i ≡ true
      none_wrong k e = cc

wrong_none-from : (right : ℕ → Bool) (n k : ℕ) → ((i : ℕ) → k ≤ i → i < k + n → right i ≡ true) → wrong_from right n k ≡ None
wrong_none-from right zero k each = refl
wrong_none-from right (suc n) k each = rw (each k (omega arith) (omega arith)) (wrong_none-from right n (k + 1) (λ i least most. each i (omega (arith, least)) (omega (arith, most))))

pub sources_of_none : (image : ℕ → ℕ) (t : Times) (us : List NumberedAccess) (v : NumberedAccess) → wrong_source image t us v ≡ None → HasSourcesIn image t us v
sources_of_none image t us v none takes k inside =
    let no_byte : wrong_from (is_right image t us v) v.access.size 0 ≡ None = rw takes at (none_of_map (source_of_byte t us v) (wrong_byte image t us v) none) in
    eqb-true (byte v.access.value k) (right_byte image t us v k) (wrong_none-to (is_right image t us v) v.access.size 0 k no_byte (omega arith) (omega (arith, inside)))

pub none_of_sources : (image : ℕ → ℕ) (t : Times) (us : List NumberedAccess) (v : NumberedAccess) → HasSourcesIn image t us v → wrong_source image t us v ≡ None
none_of_sources image t us v has =
    ⊎_elim
    (λ (takes : takes_bytes v ≡ true). rw takes (rw (wrong_none-from (is_right image t us v) v.access.size 0 (λ k least most. eq-eqb (byte v.access.value k) (right_byte image t us v k) (has takes k (omega (arith, most))))) refl))
    (λ (not_ : takes_bytes v ≡ false). rw not_ refl)
    (cases_Bool (takes_bytes v))

pub first_none-to : (wrong : NumberedAccess → Option ℕ) (vs : List NumberedAccess) → first_wrong wrong vs ≡ None → AllByRecursion (λ v. wrong v ≡ None) vs
first_none-to wrong [] e = tt
first_none-to wrong (v ∷ vs) e =
    let neither = or_none (first_wrong wrong vs) (option_map (λ first. (first, v.number)) (wrong v)) e in
    (none_of_map (λ first. (first, v.number)) (wrong v) neither.1, first_none-to wrong vs neither.0)

first_none-from : (wrong : NumberedAccess → Option ℕ) (vs : List NumberedAccess) → AllByRecursion (λ v. wrong v ≡ None) vs → first_wrong wrong vs ≡ None
first_none-from wrong [] all = refl
first_none-from wrong (v ∷ vs) all = rw (first_none-from wrong vs all.1, all.0) refl

each_as : {X : Type 0} (P Q : X → Type 0) → ((x : X) → P x → Q x) → (xs : List X) → AllByRecursion P xs → AllByRecursion Q xs
each_as P Q f [] all = tt
each_as P Q f (x ∷ xs) all = (f x all.0, each_as P Q f xs all.1)

-- no fault exactly where each has the bytes of its sources
pub storage_fault-to : (image : ℕ → ℕ) (t : Times) (us : List NumberedAccess) → storage_fault image t us ≡ None → AllByRecursion (HasSourcesIn image t us) us
storage_fault-to image t us e = each_as (λ v. wrong_source image t us v ≡ None) (HasSourcesIn image t us) (sources_of_none image t us) us (first_none-to (wrong_source image t us) us e)

pub storage_fault-from : (image : ℕ → ℕ) (t : Times) (us : List NumberedAccess) → AllByRecursion (HasSourcesIn image t us) us → storage_fault image t us ≡ None
storage_fault-from image t us all = first_none-from (wrong_source image t us) us (each_as (HasSourcesIn image t us) (λ v. wrong_source image t us v ≡ None) (none_of_sources image t us) us all)
