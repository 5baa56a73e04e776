-- A fault of locking is the first STx_C that succeeds and has no lock, with what disturbs it.
use Rattle.std.proofs.Common.{◌≡◌, ◌⊎◌, inl, inr, ⊎_elim, ℕ, ◌<◌, ◌≤◌, true, false, List, [], ◌∷◌, Option, Some, None, refl, sym, ap, ◌∙◌, subst, arith, eqb, ltb}
use Rattle.std.specs.List.{AllByRecursion}
use Rattle.std.specs.Option.{option_map, option_or}
use Rattle.std.proofs.lemmas.Bool.{cases_Bool, cases_lt, and_parts, and_from, or_left, eqb-true, eq-eqb, lt-ltb, false≢true}
use Rattle.axp_access.specs.Kinds.{is_success, is_locked, is_conditional}
use Rattle.axp_access.specs.Numbering.{NumberedAccess, cpu_of}
use Rattle.axp_access.specs.Order.{Times}
use Rattle.axp_model.specs.Locking.{IsPaired, IsApart, IsNotBetween}
use Rattle.axp_laws.proofs.CauseMoments.{Among, among_all, among_of}
use Rattle.axp_laws.proofs.PollSignals.{contains_of}
use Rattle.axp_order.specs.Oldest.{oldest_that}
use Rattle.axp_check.specs.Faults.{IsFirstUnlocked, IsDisturbedBy, IsUnpaired}
use Rattle.axp_check.specs.Locking.{pair_of, disturbs, disturber, lock_fault_of, first_unlocked, locking_fault, HasLockIn}
use Rattle.axp_check.proofs.NoneLemmas.{Descends, among_at}
use Rattle.axp_check.proofs.PairFaults.{oldest_is, pair_parts, some_pair}
use Rattle.axp_check.proofs.LockingLaws.{IsEnd, whole_end, end_back, below_newest, paired_of, pair_is, apart_of, undisturbed, kept_to, same_number, locking_fault-to}

-- the first that has a fault, and the accesses older than it, where those that succeed have their locks
record IsFirst (t : Times) (us : List NumberedAccess) (i j : ℕ) : Type 0 where
  second : NumberedAccess
  older : List NumberedAccess
  falls : Descends (second ∷ older)
  end : IsEnd us (second ∷ older)
  number : second.number ≡ j
  fault : lock_fault_of t us second older ≡ Some i
  earlier : AllByRecursion (λ v. is_success v.access ≡ true → HasLockIn t us v) older

first_is : (t : Times) (us older : List NumberedAccess) → Descends older → IsEnd us older → (i j : ℕ) → first_unlocked t us older ≡ Some (i, j) → IsFirst t us i j
first_is t us [] falls end i j e = cc
first_is t us (x ∷ older) falls end i j e = by (first_unlocked t us older) refl (λ f. first_is t us older falls.1 (end_back us older x falls end) i j f) e where
  by : (o : Option (ℕ × ℕ)) → first_unlocked t us older ≡ o → (first_unlocked t us older ≡ Some (i, j) → IsFirst t us i j) → option_or o (option_map (λ first. (first, x.number)) (lock_fault_of t us x older)) ≡ Some (i, j) → IsFirst t us i j
  by (Some p) found back e = back (found ∙ e)
  by None found back e = at (lock_fault_of t us x older) refl e where
    at : (o : Option ℕ) → lock_fault_of t us x older ≡ o → option_map {U = ℕ × ℕ} (λ first. (first, x.number)) o ≡ Some (i, j) → IsFirst t us i j
    at None none e = cc
    at (Some k) some e =
        let numbers = pair_parts k x.number i j e in
        record {
          second = x;
          older = older;
          falls = falls;
          end = end;
          number = numbers.1;
          fault = some ∙ ap (λ m. Some m) numbers.0;
          earlier = kept_to t us older falls.1 (end_back us older x falls end) found;
        }

none_some : {X : Type 0} (x : X) → None ≡ Some x → ⊥
none_some x e = cc

not_both : (a b : ℕ) → a < b → b ≤ a → ⊥
not_both a b x y = omega (arith, x, y)

-- a write disturbs a pair, and none of a lesser number does
disturbed_by : (t : Times) (us : List NumberedAccess) → Descends us → (u v : NumberedAccess) (i : ℕ) → Among u us → IsPaired us u v → option_map (λ w. w.number) (oldest_that (disturbs t u v) us) ≡ Some i → IsDisturbedBy t us v i
disturbed_by t us falls u v i among paired e = by (oldest_that (disturbs t u v) us) refl e where
  by : (o : Option NumberedAccess) → oldest_that (disturbs t u v) us ≡ o → option_map (λ w. w.number) o ≡ Some i → IsDisturbedBy t us v i
  by None found e = cc
  by (Some w) found e =
      let oldest = oldest_is (disturbs t u v) us falls w found in
      let number : w.number ≡ i = cc in
      record {
        lock = u;
        first = w;
        has_lock = contains_of us u among;
        has_first = contains_of us w oldest.among;
        first_number = number;
        paired = paired;
        between = λ apart. false≢true (sym (undisturbed t u v w apart) ∙ oldest.passes);
        least = λ x a less. ⊎_elim
            (λ (bad : disturbs t u v x ≡ true). absurd (not_both x.number i less (subst (λ n. n ≤ x.number) number (oldest.oldest x (among_of us x a) bad))))
            (λ (good : disturbs t u v x ≡ false). apart_of t u v x good)
            (cases_Bool (disturbs t u v x));
      }

-- what breaks locking at an STx_C
fault_is : (t : Times) (us older : List NumberedAccess) (v : NumberedAccess) (i : ℕ) → Descends us → Descends (v ∷ older) → IsEnd us (v ∷ older) → disturber t us v (pair_of v older) ≡ Some i → ((i ≡ 0) × IsUnpaired us v) ⊎ IsDisturbedBy t us v i
fault_is t us older v i all falls end e = by (pair_of v older) refl e where
  by : (o : Option NumberedAccess) → pair_of v older ≡ o → disturber t us v o ≡ Some i → ((i ≡ 0) × IsUnpaired us v) ⊎ IsDisturbedBy t us v i
  by None found e = inl (cc, λ u a paired. none_some u (sym found ∙ pair_is us older v u all falls end (among_of us u a) paired))
  by (Some u) found e = let pair = paired_of us older v u falls end found in inr (disturbed_by t us all u v i pair.0 pair.1 e)

pub locking_fault_is : (t : Times) (us : List NumberedAccess) → Descends us → (i j : ℕ) → locking_fault t us ≡ Some (i, j) → IsFirstUnlocked t us i j
locking_fault_is t us falls i j e =
    let is = first_is t us us falls (whole_end us) i j e in
    ⊎_elim
    (λ (success : is_success is.second.access ≡ true).
    record {
      second = is.second;
      has_second = contains_of us is.second (is.end.inside is.second (inl refl));
      second_number = is.number;
      success = success;
      fault = fault_is t us is.older is.second i falls is.falls is.end (rw success at is.fault);
      earlier = λ v a less. among_all (λ w. is_success w.access ≡ true → HasLockIn t us w) is.older v is.earlier (below_newest us is.older is.second v is.end (among_of us v a) (subst (λ n. v.number < n) (sym is.number) less));
    })
    (λ (failed : is_success is.second.access ≡ false). let none : None ≡ Some i = rw failed at is.fault in absurd (none_some i none))
    (cases_Bool (is_success is.second.access))

-- an access is paired with one alone
pairs_less : (us : List NumberedAccess) (u w v : NumberedAccess) → Among w us → IsPaired us u v → IsPaired us w v → u.number < w.number → ⊥
pairs_less us u w v among one two less =
    let a = and_parts (eqb (cpu_of u) (cpu_of v)) (ltb u.number v.number) one.first in
    let b = and_parts (eqb (cpu_of w) (cpu_of v)) (ltb w.number v.number) two.first in
    let own = eqb-true (cpu_of u) (cpu_of v) a.0 ∙ sym (eqb-true (cpu_of w) (cpu_of v) b.0) in
    let not_ = among_all (IsNotBetween u v) us w one.alone among (and_from (eqb (cpu_of u) (cpu_of w)) (ltb u.number w.number) (eq-eqb (cpu_of u) (cpu_of w) own) (lt-ltb u.number w.number less)) two.first in
    false≢true (sym not_ ∙ or_left (is_locked w.access.kind) (is_conditional w.access.kind) two.locked)

one_pair : (us : List NumberedAccess) → Descends us → (u w v : NumberedAccess) → Among u us → Among w us → IsPaired us u v → IsPaired us w v → u ≡ w
one_pair us falls u w v a b one two = ⊎_elim
    (λ (less : u.number < w.number). absurd (pairs_less us u w v b one two less))
    (λ (ge : w.number ≤ u.number). ⊎_elim (λ (more : w.number < u.number). absurd (pairs_less us w u v a two one more)) (λ (le : u.number ≤ w.number). same_number us falls u w a b (omega (arith, ge, le))) (cases_lt w.number u.number))
    (cases_lt u.number w.number)

-- what has a lock has no fault
no_fault : (t : Times) (us : List NumberedAccess) → Descends us → (v : NumberedAccess) (i : ℕ) → HasLockIn t us v → ((i ≡ 0) × IsUnpaired us v) ⊎ IsDisturbedBy t us v i → ⊥
no_fault t us falls v i has (inl fault) = fault.1 has.lock (contains_of us has.lock (among_at us has.place has.lock has.listed)) has.paired
no_fault t us falls v i has (inr by_) =
    let same = one_pair us falls has.lock by_.lock v (among_at us has.place has.lock has.listed) (among_of us by_.lock by_.has_lock) has.paired by_.paired in
    by_.between (subst (λ u. IsApart t u v by_.first) same (among_all (IsApart t has.lock v) us by_.first has.apart (among_of us by_.first by_.has_first)))

-- the first write that stands between is one
disturbed_less : (t : Times) (us : List NumberedAccess) → Descends us → (v : NumberedAccess) (i k : ℕ) → IsDisturbedBy t us v i → IsDisturbedBy t us v k → i < k → ⊥
disturbed_less t us falls v i k one two less =
    let same = one_pair us falls two.lock one.lock v (among_of us two.lock two.has_lock) (among_of us one.lock one.has_lock) two.paired one.paired in
    one.between (subst (λ u. IsApart t u v one.first) same (two.least one.first one.has_first (subst (λ n. n < k) (sym one.first_number) less)))

one_fault : (t : Times) (us : List NumberedAccess) → Descends us → (v : NumberedAccess) (i k : ℕ) → ((i ≡ 0) × IsUnpaired us v) ⊎ IsDisturbedBy t us v i → ((k ≡ 0) × IsUnpaired us v) ⊎ IsDisturbedBy t us v k → i ≡ k
one_fault t us falls v i k (inl one) (inl two) = one.0 ∙ sym two.0
one_fault t us falls v i k (inl one) (inr two) = absurd (one.1 two.lock two.has_lock two.paired)
one_fault t us falls v i k (inr one) (inl two) = absurd (two.1 one.lock one.has_lock one.paired)
one_fault t us falls v i k (inr one) (inr two) = ⊎_elim
    (λ (less : i < k). absurd (disturbed_less t us falls v i k one two less))
    (λ (ge : k ≤ i). ⊎_elim (λ (more : k < i). absurd (disturbed_less t us falls v k i two one more)) (λ (le : i ≤ k). omega (arith, ge, le)) (cases_lt k i))
    (cases_lt i k)

-- no STx_C before a first one is a first one
not_before : (t : Times) (us : List NumberedAccess) (i j k l : ℕ) → Descends us → IsFirstUnlocked t us i j → IsFirstUnlocked t us k l → j < l → ⊥
not_before t us i j k l falls one two less = no_fault t us falls one.second i (two.earlier one.second one.has_second (subst (λ n. n < l) (sym one.second_number) less) one.success) one.fault

one_unlocked : (t : Times) (us : List NumberedAccess) (i j k l : ℕ) → Descends us → IsFirstUnlocked t us i j → IsFirstUnlocked t us k l → (i ≡ k) × (j ≡ l)
one_unlocked t us i j k l falls one two = ⊎_elim
    (λ (less : j < l). absurd (not_before t us i j k l falls one two less))
    (λ (ge : l ≤ j). ⊎_elim (λ (more : l < j). absurd (not_before t us k l i j falls two one more)) (λ (le : j ≤ l). (at (omega (arith, ge, le)), omega (arith, ge, le))) (cases_lt l j))
    (cases_lt j l) where
      at : j ≡ l → i ≡ k
      at numbers =
          let same = same_number us falls two.second one.second (among_of us two.second two.has_second) (among_of us one.second one.has_second) (two.second_number ∙ sym numbers ∙ sym one.second_number) in
          one_fault t us falls one.second i k one.fault (subst (λ v. ((k ≡ 0) × IsUnpaired us v) ⊎ IsDisturbedBy t us v k) same two.fault)

-- the first STx_C with no lock is the fault
pub locking_fault_from : (t : Times) (us : List NumberedAccess) → Descends us → (i j : ℕ) → IsFirstUnlocked t us i j → locking_fault t us ≡ Some (i, j)
locking_fault_from t us falls i j is = by (locking_fault t us) refl where
  by : (o : Option (ℕ × ℕ)) → locking_fault t us ≡ o → o ≡ Some (i, j)
  by None found = absurd (no_fault t us falls is.second i (among_all (λ v. is_success v.access ≡ true → HasLockIn t us v) us is.second (locking_fault-to t us falls found) (among_of us is.second is.has_second) is.success) is.fault)
  by (Some (k, l)) found = some_pair i j k l (one_unlocked t us i j k l falls is (locking_fault_is t us falls k l found))
