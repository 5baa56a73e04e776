-- The last WMB in front of an access.
use Rattle.std.proofs.Common.{◌≡◌, ℕ, ◌+◌, ◌-◌, ◌<◌, ◌≤◌, Bool, true, false, ◌&&◌, eqb, ltb, leb, cond, Some, IfSome, slice_get, refl, sym, ◌∙◌, subst, arith, ⊎_elim}
use Rattle.std.proofs.lemmas.Bool.{cases_Bool, cases_lt, eqb-true, lt-ltb, le-ltb, le-leb, lt-leb}
use Rattle.axp_base.specs.Cpus.{cpu_number}
use Rattle.axp_access.specs.declared.Access.{Access}
use Rattle.axp_access.specs.Kinds.{is_write}
use Rattle.axp_access.specs.Lists.{Accesses, access_at}
use Rattle.axp_access.specs.Numbering.{cpu_of}
use Rattle.axp_access.proofs.Numbers.{number_is}
use Rattle.axp_model.specs.Issue.{barrier_demands}
use Rattle.axp_order.proofs.WriteBarriers.{is_own_barrier, parts_to, parts_grow, parts_more}
use Rattle.axp_check.specs.LastBarriers.{IsLastBarrier}

-- in front of the first there is none
pub last_none : (list : Accesses) (p : ℕ) → IsLastBarrier list p 1 0
last_none list p = record { parts = λ i least. le-ltb (parts_to list p (i - 1)) 0 (omega arith) ∙ sym (above i least) } where
  above : (i : ℕ) → 1 ≤ i → leb i 0 ≡ false
  above i least = grind (arith, least)

-- one access more
pub last_more : (list : Accesses) (p n : ℕ) (a : Access) (last new : ℕ) (b : Bool) → 1 ≤ n → slice_get list.items (n - 1) ≡ Some a → b ≡ is_own_barrier p a → new ≡ cond b n last → IsLastBarrier list p n last → IsLastBarrier list p (n + 1) new
last_more list p n a last new b least found test is before = ⊎_elim own free (cases_Bool (is_own_barrier p a)) where
  back : n + 1 - 1 ≡ n - 1 + 1
  back = omega (arith, least)

  one : parts_to list p (n - 1 + 1) ≡ cond (is_own_barrier p a) (parts_to list p (n - 1) + 1) (parts_to list p (n - 1))
  one = parts_more list p (n - 1) a found

  free : is_own_barrier p a ≡ false → IsLastBarrier list p (n + 1) new
  free no_ =
      let same : parts_to list p (n + 1 - 1) ≡ parts_to list p (n - 1) = rw back (one ∙ rw no_ refl) in
      let at : new ≡ last = is ∙ rw (test ∙ no_) refl in
      record { parts = λ i first. rw (same, at) (before.parts i first) }

  own : is_own_barrier p a ≡ true → IsLastBarrier list p (n + 1) new
  own yes_ =
      let more : parts_to list p (n + 1 - 1) ≡ parts_to list p (n - 1) + 1 = rw back (one ∙ rw yes_ refl) in
      let at : new ≡ n = is ∙ rw (test ∙ yes_) refl in
      record {
        parts = λ i first. rw at (⊎_elim
            (λ (high : n < i). let grows = parts_grow list p (n + 1 - 1) (i - 1) (omega (arith, high)) in le-ltb (parts_to list p (i - 1)) (parts_to list p (n + 1 - 1)) grows ∙ sym (lt-leb i n high))
            (λ (low : i ≤ n). let grows = parts_grow list p (i - 1) (n - 1) (omega (arith, low)) in lt-ltb (parts_to list p (i - 1)) (parts_to list p (n + 1 - 1)) (omega (arith, grows, more)) ∙ sym (le-leb i n low))
            (cases_lt n i));
      }

pub last_all : (list : Accesses) (n j : ℕ) (a : Access) (last : ℕ) → n ≡ j → slice_get list.items (j - 1) ≡ Some a → IsLastBarrier list (cpu_number a.cpu) n last → IfSome (access_at list j) (λ v. IsLastBarrier list (cpu_of v) j last)
last_all list n j a last end found is = rw found (subst (λ m. IsLastBarrier list (cpu_number a.cpu) m last) end is)

-- what a write barrier demands of two accesses, by the last one in front of the second
pub parted_is : (list : Accesses) (i j : ℕ) (a b : Access) (last : ℕ) (r : Bool) → 1 ≤ i → i < j → slice_get list.items (i - 1) ≡ Some a → slice_get list.items (j - 1) ≡ Some b → IfSome (access_at list j) (λ v. IsLastBarrier list (cpu_of v) j last) → r ≡ ((eqb (cpu_number a.cpu) (cpu_number b.cpu) && leb i last) && (is_write a && is_write b)) → IfSome (access_at list i) (λ u. IfSome (access_at list j) (λ v. r ≡ barrier_demands u v))
parted_is list i j a b last r least less found other barrier is =
    let first = number_is list i a least found in
    let second = number_is list j b (omega (arith, least, less)) other in
    let of : IsLastBarrier list (cpu_number b.cpu) j last = rw other at barrier in
    rw (found, other) (is ∙ rw (first, second, lt-ltb i j less) (by (cpu_number a.cpu) (cpu_number b.cpu) (leb i last) (is_write a && is_write b) (λ p. parts_to list p (i - 1)) (parts_to list (cpu_number b.cpu) (j - 1)) (of.parts i least))) where
      turned : (x w : Bool) → (x && w) ≡ (w && x)
      turned true true = refl
      turned true false = refl
      turned false true = refl
      turned false false = refl

      by : (p q : ℕ) (x w : Bool) (parts : ℕ → ℕ) (m : ℕ) → ltb (parts q) m ≡ x → ((eqb p q && x) && w) ≡ ((eqb p q && true) && (w && ltb (parts p) m))
      by p q x w parts m e = ⊎_elim
          (λ (same : eqb p q ≡ true). rw (same, eqb-true p q same, e) (turned x w))
          (λ (apart : eqb p q ≡ false). rw apart refl)
          (cases_Bool (eqb p q))
