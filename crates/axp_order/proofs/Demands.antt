-- What two accesses of a list owe one another, by what the list gives for their numbers.
use Rattle.std.proofs.Common.{◌≡◌, ℕ, ◌-◌, ◌≤◌, Bool, true, false, not, ◌&&◌, ◌||◌, eqb, ltb, Some, IfSome, slice_get, refl, sym, ◌∙◌, ⊎_elim}
use Rattle.std.proofs.lemmas.Bool.{cases_Bool, eqb-true}
use Rattle.axp_base.specs.Cpus.{cpu_number}
use Rattle.axp_access.specs.declared.Access.{Access}
use Rattle.axp_access.specs.Kinds.{is_read, is_fetch, is_write, is_memory_write}
use Rattle.axp_access.specs.Lists.{Accesses, access_at, accesses_to, times_of}
use Rattle.axp_access.specs.Numbering.{write_barriers_in}
use Rattle.axp_access.specs.Order.{before}
use Rattle.axp_access.proofs.Numbers.{number_is}
use Rattle.axp_model.specs.Issue.{barrier_demands, is_demanded, issue_demands}
use Rattle.axp_order.specs.Pairs.{is_seen}

-- what the issue constraint demands of two accesses of a list
pub demands_is : (list : Accesses) (i j : ℕ) (a b : Access) (r : Bool) → 1 ≤ i → 1 ≤ j → slice_get list.items (i - 1) ≡ Some a → slice_get list.items (j - 1) ≡ Some b → r ≡ ((eqb (cpu_number a.cpu) (cpu_number b.cpu) && ltb i j) && is_demanded a b) → IfSome (access_at list i) (λ u. IfSome (access_at list j) (λ v. r ≡ issue_demands u v))
demands_is list i j a b r least also found other is =
    let first = number_is list i a least found in
    let second = number_is list j b also other in
    rw (found, other) (is ∙ rw (first, second) refl)

-- what a write barrier demands of them
pub barrier_is : (list : Accesses) (i j : ℕ) (a b : Access) (r : Bool) → 1 ≤ i → 1 ≤ j → slice_get list.items (i - 1) ≡ Some a → slice_get list.items (j - 1) ≡ Some b → r ≡ (((eqb (cpu_number a.cpu) (cpu_number b.cpu) && ltb i j) && (is_write a && is_write b)) && ltb (write_barriers_in (cpu_number a.cpu) (accesses_to list (i - 1))) (write_barriers_in (cpu_number a.cpu) (accesses_to list (j - 1)))) → IfSome (access_at list i) (λ u. IfSome (access_at list j) (λ v. r ≡ barrier_demands u v))
barrier_is list i j a b r least also found other is =
    let first = number_is list i a least found in
    let second = number_is list j b also other in
    rw (found, other) (is ∙ rw (first, second) (parted (cpu_number a.cpu) (cpu_number b.cpu) (ltb i j) (is_write a && is_write b) (write_barriers_in (cpu_number a.cpu) (accesses_to list (i - 1))) (λ p. write_barriers_in p (accesses_to list (j - 1))))) where
      parted : (p q : ℕ) (ahead writes : Bool) (m : ℕ) (parts : ℕ → ℕ) → (((eqb p q && ahead) && writes) && ltb m (parts p)) ≡ ((eqb p q && ahead) && (writes && ltb m (parts q)))
      parted p q ahead writes m parts = ⊎_elim
          (λ (same : eqb p q ≡ true). rw (eqb-true p q same) (by (eqb q q) ahead writes (ltb m (parts q))))
          (λ (other : eqb p q ≡ false). rw other refl)
          (cases_Bool (eqb p q)) where
            by : (a b c d : Bool) → (((a && b) && c) && d) ≡ ((a && b) && (c && d))
            by true true c d = refl
            by true false c d = refl
            by false b c d = refl

-- whether the first is seen by the second
pub seen_is : (list : Accesses) (i j : ℕ) (a b : Access) (f r : Bool) → 1 ≤ i → 1 ≤ j → slice_get list.items (i - 1) ≡ Some a → slice_get list.items (j - 1) ≡ Some b → IfSome (access_at list i) (λ u. IfSome (access_at list j) (λ v. f ≡ before (times_of list) u v)) → r ≡ ((is_memory_write a && (is_read b.kind || is_fetch b.kind)) && (f || (not (is_fetch b.kind) && (eqb (cpu_number a.cpu) (cpu_number b.cpu) && ltb i j)))) → IfSome (access_at list i) (λ u. IfSome (access_at list j) (λ v. r ≡ is_seen (times_of list) u v))
seen_is list i j a b f r least also found other order is =
    let first = number_is list i a least found in
    let second = number_is list j b also other in
    let at = rw (found, other) at order in
    rw (found, other) (is ∙ rw (at, first, second) (by (is_memory_write a) (is_read b.kind || is_fetch b.kind) _)) where
      by : (x y z : Bool) → ((x && y) && z) ≡ (x && (y && z))
      by true y z = refl
      by false y z = refl

-- a test behind another that held, and behind one that did not
pub behind_true : (first is second also : Bool) → first ≡ is → first ≡ true → second ≡ also → second ≡ (is && also)
behind_true first is second also e yes_ f = f ∙ rw (sym e ∙ yes_) refl

pub behind_false : (first is also : Bool) → first ≡ is → first ≡ false → first ≡ (is && also)
behind_false first is also e no_ = no_ ∙ rw (sym e ∙ no_) refl
