-- The oldest that passes a test, and the least pair of a relation, by their numbers.
use Rattle.std.proofs.Common.{◌≡◌, inl, inr, ⊎_elim, ℕ, ◌<◌, ◌≤◌, Bool, true, false, not, eqb, ltb, cond, List, [], ◌∷◌, Option, Some, None, refl, sym, ap, ◌∙◌, subst, arith}
use Rattle.std.specs.Option.{option_map, option_or}
use Rattle.std.proofs.lemmas.Bool.{cases_Bool, and_parts, ltb-true, false≢true}
use Rattle.axp_access.specs.Numbering.{NumberedAccess, cpu_of}
use Rattle.axp_access.specs.Order.{Times, before, precedes}
use Rattle.axp_model.specs.Issue.{AllPairs, issue_demands, barrier_demands, is_demanded}
use Rattle.axp_laws.proofs.CauseMoments.{Among, among_all, among_of}
use Rattle.axp_laws.proofs.PollSignals.{contains_of}
use Rattle.axp_order.specs.Oldest.{oldest_that, least_pair}
use Rattle.axp_order.specs.Pairs.{breaks_issue, breaks_barrier}
use Rattle.axp_check.specs.Faults.{IsNotLess, IsLeastPair}
use Rattle.axp_check.specs.Verdicts.{issue_fault, barrier_fault}
use Rattle.axp_check.proofs.NoneLemmas.{Descends, oldest_none-to, least_none-to}

-- an access passes a test, and none of a lesser number does
pub record IsOldest (test : NumberedAccess → Bool) (us : List NumberedAccess) (u : NumberedAccess) : Type 0 where
  pub among : Among u us
  pub passes : test u ≡ true
  pub oldest : (w : NumberedAccess) → Among w us → test w ≡ true → u.number ≤ w.number

none_some : (u : NumberedAccess) → None ≡ Some u → ⊥
none_some u e = cc

-- the numbers of two pairs that are the same
pairs_same : (p q : ℕ × ℕ) → Some p ≡ Some q → p ≡ q
pairs_same p q e = cc

pub pair_parts : (a b i j : ℕ) → ◌≡◌ {A = Option (ℕ × ℕ)} (Some (a, b)) (Some (i, j)) → (a ≡ i) × (b ≡ j)
pair_parts a b i j e = let same = pairs_same (a, b) (i, j) e in (ap (λ (p : ℕ × ℕ). p.0) same, ap (λ (p : ℕ × ℕ). p.1) same)

pub oldest_is : (test : NumberedAccess → Bool) (us : List NumberedAccess) → Descends us → (u : NumberedAccess) → oldest_that test us ≡ Some u → IsOldest test us u
oldest_is test [] falls u e = cc
oldest_is test (x ∷ us) falls u e = by (oldest_that test us) refl (λ y f. oldest_is test us falls.1 y f) e where
  by : (o : Option NumberedAccess) → oldest_that test us ≡ o → ((y : NumberedAccess) → oldest_that test us ≡ Some y → IsOldest test us y) → option_or o (cond (test x) (Some x) None) ≡ Some u → IsOldest test (x ∷ us) u
  by (Some y) found back e =
      let same : y ≡ u = cc in
      let rest = subst (λ z. IsOldest test us z) same (back y found) in
      record {
        among = inr rest.among;
        passes = rest.passes;
        oldest = λ w a yes_. ⊎_elim (λ (here : x ≡ w). let less = among_all (λ z. z.number < x.number) us u falls.0 rest.among in subst (λ z. u.number ≤ z.number) here (omega (arith, less))) (λ behind. rest.oldest w behind yes_) a;
      }
  by None found back e = ⊎_elim
      (λ (yes_ : test x ≡ true).
      let is : Some x ≡ Some u = rw yes_ at e in
      let same : x ≡ u = cc in
      subst (λ z. IsOldest test (x ∷ us) z) same (record {
        among = inl refl;
        passes = yes_;
        oldest = λ w a passed. ⊎_elim (λ (here : x ≡ w). subst (λ z. x.number ≤ z.number) here (omega arith)) (λ behind. absurd (false≢true (sym (among_all (λ z. test z ≡ false) us w (oldest_none-to test us found) behind) ∙ passed))) a;
      }))
      (λ (no_ : test x ≡ false). let is : None ≡ Some u = rw no_ at e in absurd (none_some u is))
      (cases_Bool (test x))

never : (a b : ℕ) → a < b → b < a → ⊥
never a b x y = omega (arith, x, y)

-- what holds of all pairs holds of two by their numbers
pub pair_at : (P : NumberedAccess → NumberedAccess → Type 0) (us : List NumberedAccess) → Descends us → AllPairs P us → (u v : NumberedAccess) → Among u us → Among v us → u.number < v.number → P u v
pair_at P [] falls pairs u v a b less = absurd a
pair_at P (x ∷ us) falls pairs u v a b less = ⊎_elim
    (λ (here : x ≡ v). subst (λ z. P u z) here (among_all (λ z. P z x) us u pairs.0 (⊎_elim (λ (also : x ≡ u). absurd (not_self u.number v.number (ap (λ z. z.number) (sym also ∙ here)) less)) (λ back. back) a)))
    (λ behind. ⊎_elim
    (λ (also : x ≡ u). absurd (never u.number v.number less (subst (λ z. v.number < z.number) also (among_all (λ z. z.number < x.number) us v falls.0 behind))))
    (λ back. pair_at P us falls.1 pairs.1 u v back behind less)
    a)
    b where
      not_self : (a b : ℕ) → a ≡ b → a < b → ⊥
      not_self a b same less = omega (arith, same, less)

-- the least pair of a relation that holds of an earlier and a later one alone
record IsLeast (bad : NumberedAccess → NumberedAccess → Bool) (us : List NumberedAccess) (i j : ℕ) : Type 0 where
  first : NumberedAccess
  second : NumberedAccess
  has_first : Among first us
  has_second : Among second us
  first_number : first.number ≡ i
  second_number : second.number ≡ j
  broken : bad first second ≡ true
  least : (u v : NumberedAccess) → Among u us → Among v us → bad u v ≡ true → IsNotLess i j u.number v.number

least_is : (bad : NumberedAccess → NumberedAccess → Bool) → ((u v : NumberedAccess) → bad u v ≡ true → u.number < v.number) → (us : List NumberedAccess) → Descends us → (i j : ℕ) → least_pair bad us ≡ Some (i, j) → IsLeast bad us i j
least_is bad up [] falls i j e = cc
least_is bad up (x ∷ us) falls i j e = by (least_pair bad us) refl (λ f. least_is bad up us falls.1 i j f) e where
  behind : (u v : NumberedAccess) → Among u (x ∷ us) → Among v us → bad u v ≡ true → Among u us
  behind u v a b yes_ = ⊎_elim (λ (here : x ≡ u). absurd (never u.number v.number (up u v yes_) (subst (λ z. v.number < z.number) here (among_all (λ z. z.number < x.number) us v falls.0 b)))) (λ back. back) a

  older : (u v : NumberedAccess) → Among u (x ∷ us) → x ≡ v → bad u v ≡ true → Among u us
  older u v a here yes_ = ⊎_elim (λ (also : x ≡ u). absurd (never u.number v.number (up u v yes_) (subst (λ z. z.number < u.number) here (subst (λ z. x.number < z.number) also (not_less (ap (λ z. z.number) (sym also ∙ here)) (up u v yes_)))))) (λ back. back) a where
    not_less : u.number ≡ v.number → u.number < v.number → x.number < x.number
    not_less same less = absurd (never u.number v.number less (omega (arith, same, less)))

  by : (o : Option (ℕ × ℕ)) → least_pair bad us ≡ o → (least_pair bad us ≡ Some (i, j) → IsLeast bad us i j) → option_or o (option_map (λ u. (u.number, x.number)) (oldest_that (λ u. bad u x) us)) ≡ Some (i, j) → IsLeast bad (x ∷ us) i j
  by (Some p) found back e =
      let rest = back (found ∙ e) in
      record {
        first = rest.first;
        second = rest.second;
        has_first = inr rest.has_first;
        has_second = inr rest.has_second;
        first_number = rest.first_number;
        second_number = rest.second_number;
        broken = rest.broken;
        least = λ u v a b yes_. ⊎_elim
            (λ (here : x ≡ v). inl (subst (λ z. j < z.number) here (subst (λ n. n < x.number) rest.second_number (among_all (λ z. z.number < x.number) us rest.second falls.0 rest.has_second))))
            (λ inside. rest.least u v (behind u v a inside yes_) inside yes_)
            b;
      }
  by None found back e = at (oldest_that (λ u. bad u x) us) refl e where
    at : (o : Option NumberedAccess) → oldest_that (λ u. bad u x) us ≡ o → option_map {U = ℕ × ℕ} (λ u. (u.number, x.number)) o ≡ Some (i, j) → IsLeast bad (x ∷ us) i j
    at None none e = cc
    at (Some y) first e =
        let oldest = oldest_is (λ u. bad u x) us falls.1 y first in
        let numbers = pair_parts y.number x.number i j e in
        let one = numbers.0 in
        let two = numbers.1 in
        record {
          first = y;
          second = x;
          has_first = inr oldest.among;
          has_second = inl refl;
          first_number = one;
          second_number = two;
          broken = oldest.passes;
          least = λ u v a b yes_. ⊎_elim
              (λ (here : x ≡ v). inr (sym (ap (λ z. z.number) here) ∙ two, subst (λ n. n ≤ u.number) one (oldest.oldest u (older u v a here yes_) (subst (λ z. bad u z ≡ true) (sym here) yes_))))
              (λ inside. absurd (false≢true (sym (pair_at (λ p q. bad p q ≡ false) us falls.1 (least_none-to bad us found) u v (behind u v a inside yes_) inside (up u v yes_)) ∙ yes_)))
              b;
        }

pub least_pair_is : (bad : NumberedAccess → NumberedAccess → Bool) → ((u v : NumberedAccess) → bad u v ≡ true → u.number < v.number) → (us : List NumberedAccess) → Descends us → (i j : ℕ) → least_pair bad us ≡ Some (i, j) → IsLeastPair bad us i j
least_pair_is bad up us falls i j e =
    let is = least_is bad up us falls i j e in
    record {
      first = is.first;
      second = is.second;
      has_first = contains_of us is.first is.has_first;
      has_second = contains_of us is.second is.has_second;
      first_number = is.first_number;
      second_number = is.second_number;
      broken = is.broken;
      least = λ u v a b yes_. is.least u v (among_of us u a) (among_of us v b) yes_;
    }

-- what is demanded is of an earlier and a later one
issue_rises : (t : Times) (u v : NumberedAccess) → breaks_issue t u v ≡ true → u.number < v.number
issue_rises t u v e =
    let demand = and_parts (issue_demands u v) (not (before t u v)) e in
    let first = and_parts (precedes u v) (is_demanded u.access v.access) demand.0 in
    ltb-true u.number v.number (and_parts (eqb (cpu_of u) (cpu_of v)) (ltb u.number v.number) first.0).1

barrier_rises : (t : Times) (u v : NumberedAccess) → breaks_barrier t u v ≡ true → u.number < v.number
barrier_rises t u v e =
    let demand = and_parts (barrier_demands u v) (not (before t u v)) e in
    let first = and_parts (precedes u v) _ demand.0 in
    ltb-true u.number v.number (and_parts (eqb (cpu_of u) (cpu_of v)) (ltb u.number v.number) first.0).1

-- the fault of the issue constraint, and of write barriers, is the least pair that breaks it
pub issue_fault_is : (t : Times) (us : List NumberedAccess) → Descends us → (i j : ℕ) → issue_fault t us ≡ Some (i, j) → IsLeastPair (breaks_issue t) us i j
issue_fault_is t = least_pair_is (breaks_issue t) (issue_rises t)

pub barrier_fault_is : (t : Times) (us : List NumberedAccess) → Descends us → (i j : ℕ) → barrier_fault t us ≡ Some (i, j) → IsLeastPair (breaks_barrier t) us i j
barrier_fault_is t = least_pair_is (breaks_barrier t) (barrier_rises t)

-- of two pairs neither is less, so they are the same
same_pair : (i j k l : ℕ) → IsNotLess i j k l → IsNotLess k l i j → (i ≡ k) × (j ≡ l)
same_pair i j k l (inl less) (inl more) = absurd (never j l less more)
same_pair i j k l (inl less) (inr more) = let same = more.0 in absurd (never j l less (omega (arith, same, less)))
same_pair i j k l (inr less) (inl more) = let same = less.0 in absurd (never l j more (omega (arith, same, more)))
same_pair i j k l (inr less) (inr more) = let a = less.1 in let b = more.1 in let same = less.0 in (omega (arith, a, b), omega (arith, same))

pub some_pair : (i j k l : ℕ) → (i ≡ k) × (j ≡ l) → ◌≡◌ {A = Option (ℕ × ℕ)} (Some (k, l)) (Some (i, j))
some_pair i j k l same = rw (same.0, same.1) refl

-- and the least pair is the fault
pub least_pair_from : (bad : NumberedAccess → NumberedAccess → Bool) → ((u v : NumberedAccess) → bad u v ≡ true → u.number < v.number) → (us : List NumberedAccess) → Descends us → (i j : ℕ) → IsLeastPair bad us i j → least_pair bad us ≡ Some (i, j)
least_pair_from bad up us falls i j is = by (least_pair bad us) refl where
  by : (o : Option (ℕ × ℕ)) → least_pair bad us ≡ o → o ≡ Some (i, j)
  by None found = absurd (false≢true (sym (pair_at (λ u v. bad u v ≡ false) us falls (least_none-to bad us found) is.first is.second (among_of us is.first is.has_first) (among_of us is.second is.has_second) (up is.first is.second is.broken)) ∙ is.broken))
  by (Some (k, l)) found =
      let other = least_pair_is bad up us falls k l found in
      let one : IsNotLess i j k l = subst (λ m. IsNotLess i j k m) other.second_number (subst (λ m. IsNotLess i j m other.second.number) other.first_number (is.least other.first other.second other.has_first other.has_second other.broken)) in
      let two : IsNotLess k l i j = subst (λ m. IsNotLess k l i m) is.second_number (subst (λ m. IsNotLess k l m is.second.number) is.first_number (other.least is.first is.second is.has_first is.has_second is.broken)) in
      some_pair i j k l (same_pair i j k l one two)

pub issue_fault_from : (t : Times) (us : List NumberedAccess) → Descends us → (i j : ℕ) → IsLeastPair (breaks_issue t) us i j → issue_fault t us ≡ Some (i, j)
issue_fault_from t = least_pair_from (breaks_issue t) (issue_rises t)

pub barrier_fault_from : (t : Times) (us : List NumberedAccess) → Descends us → (i j : ℕ) → IsLeastPair (breaks_barrier t) us i j → barrier_fault t us ≡ Some (i, j)
barrier_fault_from t = least_pair_from (breaks_barrier t) (barrier_rises t)
