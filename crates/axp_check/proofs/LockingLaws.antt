-- No fault of locking exactly where each STx_C that succeeds is paired, and nothing disturbs the pair.
use Rattle.std.proofs.Common.{◌≡◌, ◌⊎◌, inl, inr, ⊎_elim, ℕ, ◌<◌, ◌≤◌, Bool, true, false, not, ◌&&◌, ◌||◌, eqb, ltb, List, [], ◌∷◌, Option, Some, None, refl, sym, ap, ◌∙◌, subst, arith}
use Rattle.std.specs.List.{AllByRecursion}
use Rattle.std.specs.Option.{option_map}
use Rattle.std.proofs.lemmas.Bool.{cases_Bool, cases_lt, and_parts, and_from, or_left, eqb-true, eq-eqb, ne_eqb, ltb-true, lt-ltb, false≢true}
use Rattle.axp_base.specs.Blocks.{block_of}
use Rattle.axp_base.specs.Lines.{line_of}
use Rattle.axp_access.specs.Kinds.{is_locked, is_conditional, is_success, is_memory_write}
use Rattle.axp_access.specs.Numbering.{NumberedAccess, cpu_of}
use Rattle.axp_access.specs.Order.{Times, before}
use Rattle.axp_model.specs.Locking.{is_locking, IsPaired, IsApart, IsNotBetween}
use Rattle.axp_laws.proofs.CauseMoments.{Among, among_all}
use Rattle.axp_order.specs.Oldest.{oldest_that}
use Rattle.axp_check.specs.Locking.{last_locking, pair_by, pair_of, disturbs, disturber, lock_fault_of, first_unlocked, locking_fault, HasLockIn, KeepsLockingIn}
use Rattle.axp_check.proofs.NoneLemmas.{or_none, none_of_map, all_from, among_at, place_of, Descends, oldest_none-to, oldest_none-from}

-- older accesses of a list: all of it whose number is not above theirs
pub record IsEnd (us older : List NumberedAccess) : Type 0 where
  pub inside : (w : NumberedAccess) → Among w older → Among w us
  pub cut : (w : NumberedAccess) → Among w us → Among w older ⊎ ((u : NumberedAccess) → Among u older → u.number < w.number)

pub whole_end : (us : List NumberedAccess) → IsEnd us us
whole_end us = record { inside = λ w a. a; cut = λ w a. inl a }

pub end_back : (us older : List NumberedAccess) (v : NumberedAccess) → Descends (v ∷ older) → IsEnd us (v ∷ older) → IsEnd us older
end_back us older v falls end = record {
  inside = λ w a. end.inside w (inr a);
  cut = λ w a. ⊎_elim
      (λ here. ⊎_elim
      (λ (same : v ≡ w). inr (λ u among. subst (λ x. u.number < x.number) same (among_all (λ x. x.number < v.number) older u falls.0 among)))
      (λ back. inl back)
      here)
      (λ above. inr (λ u among. above u (inr among)))
      (end.cut w a);
}

-- what is below the newest of an end stands behind it
pub below_newest : (us older : List NumberedAccess) (v w : NumberedAccess) → IsEnd us (v ∷ older) → Among w us → w.number < v.number → Among w older
below_newest us older v w end among less =
    ⊎_elim
    (λ here. ⊎_elim
    (λ (same : v ≡ w). absurd (never v.number w.number (ap (λ x. x.number) same) less))
    (λ back. back)
    here)
    (λ above. absurd (cross v.number w.number (above v (inl refl)) less))
    (end.cut w among) where
      never : (a b : ℕ) → a ≡ b → b < a → ⊥
      never a b same less = omega (arith, same, less)

      cross : (a b : ℕ) → a < b → b < a → ⊥
      cross a b x y = omega (arith, x, y)

-- the newest LDx_L or STx_C of a processor
pub record IsNewest (p : ℕ) (us : List NumberedAccess) (u : NumberedAccess) : Type 0 where
  pub among : Among u us
  pub own : cpu_of u ≡ p
  pub locking : is_locking u.access ≡ true
  pub newest : (w : NumberedAccess) → Among w us → cpu_of w ≡ p → is_locking w.access ≡ true → w.number ≤ u.number

newest_here : (p : ℕ) (us : List NumberedAccess) (x : NumberedAccess) → Descends (x ∷ us) → eqb (cpu_of x) p ≡ true → is_locking x.access ≡ true → IsNewest p (x ∷ us) x
newest_here p us x falls own locking = record {
  among = inl refl;
  own = eqb-true (cpu_of x) p own;
  locking = locking;
  newest = λ w a who what. ⊎_elim (λ (here : x ≡ w). subst (λ z. z.number ≤ x.number) here (omega arith)) (λ back. let less = among_all (λ z. z.number < x.number) us w falls.0 back in omega (arith, less)) a;
}

-- not the one in front
not_here : (p : ℕ) (x w : NumberedAccess) → (eqb (cpu_of x) p && is_locking x.access) ≡ false → cpu_of w ≡ p → is_locking w.access ≡ true → x ≡ w → ⊥
not_here p x w no_ own locking here = false≢true (sym no_ ∙ and_from (eqb (cpu_of x) p) (is_locking x.access) (eq-eqb (cpu_of x) p (subst (λ z. cpu_of z ≡ p) (sym here) own)) (subst (λ z. is_locking z.access ≡ true) (sym here) locking))

newest_behind : (p : ℕ) (us : List NumberedAccess) (x u : NumberedAccess) → (eqb (cpu_of x) p && is_locking x.access) ≡ false → IsNewest p us u → IsNewest p (x ∷ us) u
newest_behind p us x u no_ rest = record {
  among = inr rest.among;
  own = rest.own;
  locking = rest.locking;
  newest = λ w a own locking. ⊎_elim (λ (here : x ≡ w). absurd (not_here p x w no_ own locking here)) (λ back. rest.newest w back own locking) a;
}

newest_is : (p : ℕ) (us : List NumberedAccess) → Descends us → (u : NumberedAccess) → last_locking p us ≡ Some u → IsNewest p us u
newest_is p [] falls u e = cc
newest_is p (x ∷ us) falls u e = ⊎_elim
    (λ (yes_ : (eqb (cpu_of x) p && is_locking x.access) ≡ true).
    let is : Some x ≡ Some u = rw yes_ at e in
    let same : x ≡ u = cc in
    let both = and_parts (eqb (cpu_of x) p) (is_locking x.access) yes_ in
    subst (λ z. IsNewest p (x ∷ us) z) same (newest_here p us x falls both.0 both.1))
    (λ (no_ : (eqb (cpu_of x) p && is_locking x.access) ≡ false). newest_behind p us x u no_ (newest_is p us falls.1 u (rw no_ at e)))
    (cases_Bool (eqb (cpu_of x) p && is_locking x.access))

no_some : (x : NumberedAccess) → Some x ≡ None → ⊥
no_some x e = cc

none_newest : (p : ℕ) (us : List NumberedAccess) → last_locking p us ≡ None → (w : NumberedAccess) → Among w us → cpu_of w ≡ p → is_locking w.access ≡ true → ⊥
none_newest p [] e w a own locking = a
none_newest p (x ∷ us) e w a own locking = ⊎_elim
    (λ (yes_ : (eqb (cpu_of x) p && is_locking x.access) ≡ true). let is : Some x ≡ None = rw yes_ at e in no_some x is)
    (λ (no_ : (eqb (cpu_of x) p && is_locking x.access) ≡ false). ⊎_elim (λ (here : x ≡ w). not_here p x w no_ own locking here) (λ back. none_newest p us (rw no_ at e) w back own locking) a)
    (cases_Bool (eqb (cpu_of x) p && is_locking x.access))

-- two of a list with one number are the same
pub same_number : (us : List NumberedAccess) → Descends us → (u w : NumberedAccess) → Among u us → Among w us → u.number ≡ w.number → u ≡ w
same_number [] falls u w a b e = absurd a
same_number (x ∷ us) falls u w a b e =
    ⊎_elim
    (λ (here : x ≡ u). ⊎_elim
    (λ (also : x ≡ w). sym here ∙ also)
    (λ back. absurd (never u.number w.number e (subst (λ z. w.number < z.number) here (among_all (λ z. z.number < x.number) us w falls.0 back))))
    b)
    (λ behind. ⊎_elim
    (λ (also : x ≡ w). absurd (never w.number u.number (sym e) (subst (λ z. u.number < z.number) also (among_all (λ z. z.number < x.number) us u falls.0 behind))))
    (λ back. same_number us falls.1 u w behind back e)
    b)
    a where
      never : (a b : ℕ) → a ≡ b → b < a → ⊥
      never a b same less = omega (arith, same, less)

not_both : (a b : ℕ) → a < b → b ≤ a → ⊥
not_both a b x y = omega (arith, x, y)

-- the pair of v by the older ones is the LDx_L that the model pairs it with
pub paired_of : (us older : List NumberedAccess) (v u : NumberedAccess) → Descends (v ∷ older) → IsEnd us (v ∷ older) → pair_of v older ≡ Some u → Among u us × IsPaired us u v
paired_of us older v u falls end e = by (last_locking (cpu_of v) older) refl e where
  by : (o : Option NumberedAccess) → last_locking (cpu_of v) older ≡ o → pair_by v o ≡ Some u → Among u us × IsPaired us u v
  by None found e = cc
  by (Some w) found e = ⊎_elim is_pair no_pair (cases_Bool (is_locked w.access.kind && eqb (block_of w.access.address) (block_of v.access.address))) where
    no_pair : (is_locked w.access.kind && eqb (block_of w.access.address) (block_of v.access.address)) ≡ false → Among u us × IsPaired us u v
    no_pair no_ = let is : None ≡ Some u = rw no_ at e in cc

    is_pair : (is_locked w.access.kind && eqb (block_of w.access.address) (block_of v.access.address)) ≡ true → Among u us × IsPaired us u v
    is_pair yes_ =
        let is : Some w ≡ Some u = rw yes_ at e in
        let same : w ≡ u = cc in
        let both = and_parts (is_locked w.access.kind) (eqb (block_of w.access.address) (block_of v.access.address)) yes_ in
        let newest = newest_is (cpu_of v) older falls.1 w found in
        let less : w.number < v.number = among_all (λ x. x.number < v.number) older w falls.0 newest.among in
        subst (λ z. Among z us × IsPaired us z v) same (
          end.inside w (inr newest.among),
          record {
            locked = both.0;
            first = and_from (eqb (cpu_of w) (cpu_of v)) (ltb w.number v.number) (eq-eqb (cpu_of w) (cpu_of v) newest.own) (lt-ltb w.number v.number less);
            same = eqb-true (block_of w.access.address) (block_of v.access.address) both.1;
            alone = all_from (IsNotBetween w v) us (λ x a after until. ⊎_elim
                (λ (locking : is_locking x.access ≡ true).
                let back = and_parts (eqb (cpu_of w) (cpu_of x)) (ltb w.number x.number) after in
                let front = and_parts (eqb (cpu_of x) (cpu_of v)) (ltb x.number v.number) until in
                let above = ltb-true w.number x.number back.1 in
                let under = newest.newest x (below_newest us older v x end a (ltb-true x.number v.number front.1)) (eqb-true (cpu_of x) (cpu_of v) front.0) locking in
                absurd (not_both w.number x.number above under))
                (λ (not_ : is_locking x.access ≡ false). not_)
                (cases_Bool (is_locking x.access)));
          },
        )

-- and what the model pairs v with is its pair by the older ones
pub pair_is : (us older : List NumberedAccess) (v u : NumberedAccess) → Descends us → Descends (v ∷ older) → IsEnd us (v ∷ older) → Among u us → IsPaired us u v → pair_of v older ≡ Some u
pair_is us older v u all falls end among paired = by (last_locking (cpu_of v) older) refl where
  first : (eqb (cpu_of u) (cpu_of v) ≡ true) × (ltb u.number v.number ≡ true)
  first = and_parts (eqb (cpu_of u) (cpu_of v)) (ltb u.number v.number) paired.first

  own : cpu_of u ≡ cpu_of v
  own = eqb-true (cpu_of u) (cpu_of v) first.0

  behind : Among u older
  behind = below_newest us older v u end among (ltb-true u.number v.number first.1)

  locking : is_locking u.access ≡ true
  locking = or_left (is_locked u.access.kind) (is_conditional u.access.kind) paired.locked

  by : (o : Option NumberedAccess) → last_locking (cpu_of v) older ≡ o → pair_by v o ≡ Some u
  by None found = absurd (none_newest (cpu_of v) older found u behind own locking)
  by (Some w) found =
      let newest = newest_is (cpu_of v) older falls.1 w found in
      let inside = end.inside w (inr newest.among) in
      let least = newest.newest u behind own locking in
      let most : w.number ≤ u.number = ⊎_elim
      (λ (between : u.number < w.number).
      let less : w.number < v.number = among_all (λ x. x.number < v.number) older w falls.0 newest.among in
      let not_ = among_all (IsNotBetween u v) us w paired.alone inside (and_from (eqb (cpu_of u) (cpu_of w)) (ltb u.number w.number) (eq-eqb (cpu_of u) (cpu_of w) (own ∙ sym newest.own)) (lt-ltb u.number w.number between)) (and_from (eqb (cpu_of w) (cpu_of v)) (ltb w.number v.number) (eq-eqb (cpu_of w) (cpu_of v) newest.own) (lt-ltb w.number v.number less)) in
      absurd (false≢true (sym not_ ∙ newest.locking)))
      (λ le. le)
      (cases_lt u.number w.number) in
      let same : w ≡ u = same_number us all w u inside among (omega (arith, least, most)) in
      subst (λ z. pair_by v (Some z) ≡ Some u) (sym same) (rw (paired.locked, eq-eqb (block_of u.access.address) (block_of v.access.address) paired.same) refl)

-- nothing disturbs where each is apart
clear_of : (write own line clear : Bool) → (write && (not own && (line && not clear))) ≡ false → write ≡ true → own ≡ false → line ≡ true → clear ≡ true
clear_of write own line true e a b d = refl
clear_of write own line false e a b d = let bad : true ≡ false = rw (a, b, d) at e in absurd (false≢true (sym bad))

pub apart_of : (t : Times) (u v w : NumberedAccess) → disturbs t u v w ≡ false → IsApart t u v w
apart_of t u v w e write other line = clear_of (is_memory_write w.access) (eqb (cpu_of w) (cpu_of v)) (eqb (line_of w.access.address) (line_of u.access.address)) (before t w u || before t v w) e write (ne_eqb (cpu_of w) (cpu_of v) other) (eq-eqb (line_of w.access.address) (line_of u.access.address) line)

pub undisturbed : (t : Times) (u v w : NumberedAccess) → IsApart t u v w → disturbs t u v w ≡ false
undisturbed t u v w apart = ⊎_elim
    (λ (bad : disturbs t u v w ≡ true).
    let a = and_parts (is_memory_write w.access) (not (eqb (cpu_of w) (cpu_of v)) && (eqb (line_of w.access.address) (line_of u.access.address) && not (before t w u || before t v w))) bad in
    let b = and_parts (not (eqb (cpu_of w) (cpu_of v))) (eqb (line_of w.access.address) (line_of u.access.address) && not (before t w u || before t v w)) a.1 in
    let d = and_parts (eqb (line_of w.access.address) (line_of u.access.address)) (not (before t w u || before t v w)) b.1 in
    let ordered = apart a.0 (λ same. not_same (eqb (cpu_of w) (cpu_of v)) (eq-eqb (cpu_of w) (cpu_of v) same) b.0) (eqb-true (line_of w.access.address) (line_of u.access.address) d.0) in
    absurd (not_same (before t w u || before t v w) ordered d.1))
    (λ (good : disturbs t u v w ≡ false). good)
    (cases_Bool (disturbs t u v w)) where
      not_same : (b : Bool) → b ≡ true → not b ≡ true → ⊥
      not_same true yes_ e = false≢true e
      not_same false yes_ e = false≢true yes_

-- one STx_C, by the accesses older than it
pub lock_of_none : (t : Times) (us older : List NumberedAccess) (v : NumberedAccess) → Descends (v ∷ older) → IsEnd us (v ∷ older) → lock_fault_of t us v older ≡ None → is_success v.access ≡ true → HasLockIn t us v
lock_of_none t us older v falls end e success = by (pair_of v older) refl (rw success at e) where
  by : (o : Option NumberedAccess) → pair_of v older ≡ o → disturber t us v o ≡ None → HasLockIn t us v
  by None found e = cc
  by (Some u) found e =
      let pair = paired_of us older v u falls end found in
      let place = place_of us u pair.0 in
      let none = oldest_none-to (disturbs t u v) us (none_of_map (λ w. w.number) (oldest_that (disturbs t u v) us) e) in
      record { lock = u; place = place.0; listed = place.1; paired = pair.1; apart = all_from (IsApart t u v) us (λ w a. apart_of t u v w (among_all (λ x. disturbs t u v x ≡ false) us w none a)) }

pub none_of_lock : (t : Times) (us older : List NumberedAccess) (v : NumberedAccess) → Descends us → Descends (v ∷ older) → IsEnd us (v ∷ older) → (is_success v.access ≡ true → HasLockIn t us v) → lock_fault_of t us v older ≡ None
none_of_lock t us older v all falls end has = ⊎_elim
    (λ (success : is_success v.access ≡ true).
    let lock = has success in
    let found = pair_is us older v lock.lock all falls end (among_at us lock.place lock.lock lock.listed) lock.paired in
    rw success (rw found (rw (oldest_none-from (disturbs t lock.lock v) us (all_from (λ w. disturbs t lock.lock v w ≡ false) us (λ w a. undisturbed t lock.lock v w (among_all (IsApart t lock.lock v) us w lock.apart a)))) refl)))
    (λ (failed : is_success v.access ≡ false). rw failed refl)
    (cases_Bool (is_success v.access))

pub kept_to : (t : Times) (us older : List NumberedAccess) → Descends older → IsEnd us older → first_unlocked t us older ≡ None → AllByRecursion (λ v. is_success v.access ≡ true → HasLockIn t us v) older
kept_to t us [] falls end e = tt
kept_to t us (v ∷ older) falls end e =
    let neither = or_none (first_unlocked t us older) (option_map (λ first. (first, v.number)) (lock_fault_of t us v older)) e in
    (lock_of_none t us older v falls end (none_of_map (λ first. (first, v.number)) (lock_fault_of t us v older) neither.1), kept_to t us older falls.1 (end_back us older v falls end) neither.0)

kept_from : (t : Times) (us older : List NumberedAccess) → Descends us → Descends older → IsEnd us older → AllByRecursion (λ v. is_success v.access ≡ true → HasLockIn t us v) older → first_unlocked t us older ≡ None
kept_from t us [] all falls end has = refl
kept_from t us (v ∷ older) all falls end has = rw (kept_from t us older all falls.1 (end_back us older v falls end) has.1, none_of_lock t us older v all falls end has.0) refl

-- no fault exactly where each that succeeds has its lock
pub locking_fault-to : (t : Times) (us : List NumberedAccess) → Descends us → locking_fault t us ≡ None → KeepsLockingIn t us
locking_fault-to t us falls e = kept_to t us us falls (whole_end us) e

pub locking_fault-from : (t : Times) (us : List NumberedAccess) → Descends us → KeepsLockingIn t us → locking_fault t us ≡ None
locking_fault-from t us falls has = kept_from t us us falls falls (whole_end us) has
