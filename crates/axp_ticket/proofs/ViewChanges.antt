-- The views of the table after one of them changed.
use Rattle.std.proofs.Common.{◌≡◌, ◌≢◌, ◌⊎◌, ⊎_elim, inl, inr, ℕ, zero, suc, ◌+◌, ◌≤◌, List, [], ◌∷◌, ◌++◌, length, set, sym, refl, ap, ◌∙◌, subst, arith}
use mathlib.Core.Logic.{dite}
use mathlib.Core.Option.{some, some-injective, some-ne-none}
use native.Mathlib.Decide.{ℕ_discrete}
use lib.ListN.{get_elem?}
use Rattle.atomic_table.proofs.Lists.{at_set, set_here, set_else, at_longer}
use Rattle.axp_ticket.specs.declared.board.Own.{Own}
use Rattle.axp_ticket.specs.declared.board.Role.{Role}
use Rattle.axp_ticket.specs.declared.board.Role.TheVariants.{Turns}
use Rattle.axp_ticket.specs.declared.board.View.{View}
use Rattle.axp_ticket.specs.History.{IsAmong, EachOnce}
use Rattle.axp_ticket.specs.Queue.{total, IsHome, IsAway, HasTurn, Finds, Homes}
use Rattle.axp_ticket.proofs.ListPlaces.{below_length}

module _ {Value Ask Answer : Type 0} where
  -- what holds of the view that changed, and of the others, holds of all
  pub views_stay : (K : ℕ → View Value Ask Answer → Type 0) (vs : List (View Value Ask Answer))
      (me : ℕ) (w : View Value Ask Answer)
      → K me w → ((j : ℕ) (d : View Value Ask Answer) → j ≢ me → get_elem? vs j ≡ some d → K j d)
      → (j : ℕ) (d : View Value Ask Answer) → get_elem? (set vs me w) j ≡ some d → K j d
  views_stay K vs me w mine others j d e = ⊎_elim
      (λ (t : (j ≡ me) × (w ≡ d)). subst (λ (x : ℕ × View Value Ask Answer). K x.0 x.1)
      (λ i. (sym t.0 i, t.1 i)) mine)
      (λ (t : (j ≢ me) × (get_elem? vs j ≡ some d)). others j d t.0 t.1) (at_set vs me j w d e)

  -- the view that changed is there
  pub set_there : (vs : List (View Value Ask Answer)) (id : ℕ) (v w : View Value Ask Answer)
      → get_elem? vs id ≡ some v
      → get_elem? (set vs id w) id ≡ some w
  set_there vs id v w at = set_here vs id w (below_length vs id v at)

  -- what a view had is found there still, where the view that changed has it still
  pub found_after : (Has : Role Value Ask Answer → Type 0) (vs : List (View Value Ask Answer))
      (id : ℕ) (v w : View Value Ask Answer) (j : ℕ)
      → get_elem? vs id ≡ some v → (Has v.role → Has w.role) → Finds vs j Has
      → Finds (set vs id w) j Has
  found_after Has vs id v w j at stays f = dite (ℕ_discrete j id)
      (λ e. (
        w,
        subst (λ (i : ℕ). get_elem? (set vs id w) i ≡ some w) (sym e) (set_there vs id v w at),
        stays (subst (λ (x : View Value Ask Answer). Has x.role)
            (some-injective f.0 v (sym f.1 ∙ (ap (λ (i : ℕ). get_elem? vs i) e ∙ at))) f.2),
      ))
      (λ other. (f.0, set_else vs id j w other ∙ f.1, f.2))

  pub found_longer : (Has : Role Value Ask Answer → Type 0) (vs : List (View Value Ask Answer))
      (u : View Value Ask Answer) (j : ℕ)
      → Finds vs j Has → Finds (vs ++ u ∷ []) j Has
  found_longer Has vs u j f = (f.0, at_longer vs (u ∷ []) j f.0 f.1, f.2)

  -- views in two roles are two seats'
  pub apart : (vs : List (View Value Ask Answer)) (j id : ℕ) (v m : View Value Ask Answer)
      → get_elem? vs j ≡ some v → get_elem? vs id ≡ some m → v.role ≢ m.role → j ≢ id
  apart vs j id v m at at' differ e =
      differ (ap (λ (x : View Value Ask Answer). x.role)
      (some-injective v m (sym at ∙ (ap (λ (k : ℕ). get_elem? vs k) e ∙ at'))))

  -- a seat that has no turn leaves the value where it is
  pub home_stays : (homes : Homes Value) (views : List (View Value Ask Answer)) (served : ℕ)
      (value : Value) (id : ℕ) (m w : View Value Ask Answer)
      → get_elem? views id ≡ some m → ((o : Own Ask Answer) (t : ℕ) (x : Value)
      → Turns o t x ≢ m.role)
      → IsHome homes value ⊎ (IsAway homes × (j : ℕ) × HasTurn views served value j)
      → IsHome homes value ⊎ (IsAway homes × (j : ℕ) × HasTurn (set views id w) served value j)
  home_stays homes views served value id m w at quiet h = ⊎_elim (λ l. inl l)
      (λ (t : IsAway homes × (j : ℕ) × HasTurn views served value j).
      let (v, o, there, is) = t.2 in
      inr (
        t.0,
        t.1,
        (
          v,
          o,
          set_else views id t.1 w
              (apart views t.1 id v m there at (λ e. quiet o served value (sym is ∙ e))) ∙ there,
          is,
        ),
      ))
      h

module _ {Value Ask Answer : Type 0} (part : Role Value Ask Answer → ℕ) where
  pub total_set : (vs : List (View Value Ask Answer)) (id : ℕ) (v w : View Value Ask Answer)
      → get_elem? vs id ≡ some v
      → total part (set vs id w) + part v.role ≡ total part vs + part w.role
  total_set [] id v w e = absurd (some-ne-none v (sym e))
  total_set (x ∷ xs) zero v w e =
      let same : part x.role ≡ part v.role = ap (λ (y : View Value Ask Answer). part y.role)
      (some-injective x v e) in omega arith
  total_set (x ∷ xs) (suc id) v w e = let h = total_set xs id v w e in omega arith

  pub total_snoc : (vs : List (View Value Ask Answer)) (w : View Value Ask Answer)
      → total part (vs ++ w ∷ []) ≡ total part vs + part w.role
  total_snoc [] w = omega arith
  total_snoc (x ∷ xs) w = let h = total_snoc xs w in omega arith

  -- the total after the view changed from one role to another
  pub total_moved : (vs : List (View Value Ask Answer)) (id : ℕ) (v w : View Value Ask Answer)
      (old new : Role Value Ask Answer)
      → get_elem? vs id ≡ some v → v.role ≡ old → w.role ≡ new
      → total part (set vs id w) + part old ≡ total part vs + part new
  total_moved vs id v w old new at is is' =
      let h = total_set vs id v w at in let was = ap part is in let now = ap part is' in omega arith

-- one number alone
module _ {Ask Answer : Type 0} where
  pub one_among : (n : ℕ) (o : Own Ask Answer) → o.number ≡ n → IsAmong n (o ∷ [])
  one_among n o e = (0, o, refl, e)

  pub among_one : (n : ℕ) (o : Own Ask Answer) → IsAmong n (o ∷ []) → o.number ≡ n
  among_one n o (k, o', a, e) = go k a
    where
      go : (k : ℕ) → get_elem? (o ∷ []) k ≡ some o' → o.number ≡ n
      go zero a = ap (λ (x : Own Ask Answer). x.number) (some-injective o o' a) ∙ e
      go (suc k) a = absurd (some-ne-none o' (sym a))

  pub sound_one : (allowance : ℕ) (o : Own Ask Answer) (more : ℕ)
      → length o.calls + more ≤ allowance
      → ((k : ℕ) (o' : Own Ask Answer) → get_elem? (o ∷ []) k ≡ some o'
      → length o'.calls + more ≤ allowance) × EachOnce (o ∷ [])
  sound_one allowance o more small = (few, once)
    where
      few : (k : ℕ) (o' : Own Ask Answer) → get_elem? (o ∷ []) k ≡ some o'
          → length o'.calls + more ≤ allowance
      few zero o' a = subst (λ (x : Own Ask Answer). length x.calls + more ≤ allowance)
          (some-injective o o' a) small
      few (suc k) o' a = absurd (some-ne-none o' (sym a))

      once : (i k : ℕ) (a b : Own Ask Answer) → get_elem? (o ∷ []) i ≡ some a
          → get_elem? (o ∷ []) k ≡ some b → a.number ≡ b.number → i ≡ k
      once zero zero a b x y e = refl
      once zero (suc k) a b x y e = absurd (some-ne-none b (sym y))
      once (suc i) k a b x y e = absurd (some-ne-none a (sym x))
