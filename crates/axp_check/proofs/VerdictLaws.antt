-- A verdict by the faults of the five rules, and in the model's words.
use Rattle.std.proofs.Common.{◌≡◌, ℕ, false, List, [], ◌∷◌, Option, Some, None, refl, subst}
use Rattle.std.specs.List.{AllByRecursion}
use Rattle.std.specs.Option.{option_or, unwrap_or}
use Rattle.axp_access.specs.Numbering.{NumberedAccess}
use Rattle.axp_access.specs.Order.{Times, before}
use Rattle.axp_model.specs.Issue.{AllPairs, issue_demands}
use Rattle.axp_order.specs.Pairs.{breaks_issue}
use Rattle.axp_check.specs.declared.Rule.{Rule}
use Rattle.axp_check.specs.declared.Rule.TheVariants.{Issue, Barrier, Storage, Locking, Loop}
use Rattle.axp_check.specs.declared.Verdict.{Verdict}
use Rattle.axp_check.specs.declared.Verdict.TheVariants.{Consistent, Violated}
use Rattle.axp_check.specs.Locking.{locking_fault}
use Rattle.axp_check.specs.Loops.{loop_fault}
use Rattle.axp_check.specs.Storage.{storage_fault}
use Rattle.axp_check.specs.Verdicts.{issue_fault, barrier_fault, violation, verdict_on}
use Rattle.axp_check.specs.Violations.{IsIssued, IsConsistent, IsViolated}
use Rattle.axp_check.proofs.NoneLemmas.{Descends, least_none-to, least_none-from}
use Rattle.axp_check.proofs.OrderLaws.{order_fault-to, order_fault-from, met, unbroken}
use Rattle.axp_check.proofs.PairFaults.{issue_fault_is, issue_fault_from, barrier_fault_is, barrier_fault_from}
use Rattle.axp_check.proofs.StorageLaws.{storage_fault-to, storage_fault-from}
use Rattle.axp_check.proofs.StorageFaults.{storage_fault_is, storage_fault_from}
use Rattle.axp_check.proofs.LockingLaws.{locking_fault-to, locking_fault-from}
use Rattle.axp_check.proofs.LockingFaults.{locking_fault_is, locking_fault_from}

-- a verdict by the faults of the rules, the least first
abbrev verdict_by : Option (ℕ × ℕ) → Option (ℕ × ℕ) → Option (ℕ × ℕ) → Option (ℕ × ℕ) → Option (ℕ × ℕ) → Verdict
verdict_by issue barrier storage locking loops = unwrap_or (option_or (violation Issue issue) (option_or (violation Barrier barrier) (option_or (violation Storage storage) (option_or (violation Locking locking) (violation Loop loops))))) Consistent

-- the rule has this fault, and the lesser ones have none
abbrev IsFaultOf : Option (ℕ × ℕ) → Option (ℕ × ℕ) → Option (ℕ × ℕ) → Option (ℕ × ℕ) → Option (ℕ × ℕ) → ℕ × ℕ → Rule → Type 0
IsFaultOf issue barrier storage locking loops p Issue = issue ≡ Some p
IsFaultOf issue barrier storage locking loops p Barrier = (issue ≡ None) × (barrier ≡ Some p)
IsFaultOf issue barrier storage locking loops p Storage = (issue ≡ None) × ((barrier ≡ None) × (storage ≡ Some p))
IsFaultOf issue barrier storage locking loops p Locking = (issue ≡ None) × ((barrier ≡ None) × ((storage ≡ None) × (locking ≡ Some p)))
IsFaultOf issue barrier storage locking loops p Loop = (issue ≡ None) × ((barrier ≡ None) × ((storage ≡ None) × ((locking ≡ None) × (loops ≡ Some p))))

-- none of five
record AreNone (issue barrier storage locking loops : Option (ℕ × ℕ)) : Type 0 where
  issue_none : issue ≡ None
  barrier_none : barrier ≡ None
  storage_none : storage ≡ None
  locking_none : locking ≡ None
  loops_none : loops ≡ None

none_of : (a b c d e : Option (ℕ × ℕ)) → verdict_by a b c d e ≡ Consistent → AreNone a b c d e
none_of None None None None None is = record { issue_none = refl; barrier_none = refl; storage_none = refl; locking_none = refl; loops_none = refl }
none_of (Some p) b c d e is = cc
none_of None (Some p) c d e is = cc
none_of None None (Some p) d e is = cc
none_of None None None (Some p) e is = cc
none_of None None None None (Some p) is = cc

consistent_by : (a b c d e : Option (ℕ × ℕ)) → AreNone a b c d e → verdict_by a b c d e ≡ Consistent
consistent_by a b c d e none = rw (none.issue_none, none.barrier_none, none.storage_none, none.locking_none, none.loops_none) refl

-- what a violation names
rule_same : (r q : Rule) (i j k l : ℕ) → Violated r i j ≡ Violated q k l → r ≡ q
rule_same r q i j k l e = cc

first_same : (r q : Rule) (i j k l : ℕ) → Violated r i j ≡ Violated q k l → i ≡ k
first_same r q i j k l e = cc

second_same : (r q : Rule) (i j k l : ℕ) → Violated r i j ≡ Violated q k l → j ≡ l
second_same r q i j k l e = cc

pair_same : (r q : Rule) (i j k l : ℕ) → Violated r i j ≡ Violated q k l → ◌≡◌ {A = Option (ℕ × ℕ)} (Some (i, j)) (Some (k, l))
pair_same r q i j k l e = rw (first_same r q i j k l e, second_same r q i j k l e) refl

fault_of : (a b c d e : Option (ℕ × ℕ)) (rule : Rule) (i j : ℕ) → verdict_by a b c d e ≡ Violated rule i j → IsFaultOf a b c d e (i, j) rule
fault_of (Some (k, l)) b c d e rule i j is = subst (IsFaultOf (Some (k, l)) b c d e (i, j)) (rule_same Issue rule k l i j is) (pair_same Issue rule k l i j is)
fault_of None (Some (k, l)) c d e rule i j is = subst (IsFaultOf None (Some (k, l)) c d e (i, j)) (rule_same Barrier rule k l i j is) (refl, pair_same Barrier rule k l i j is)
fault_of None None (Some (k, l)) d e rule i j is = subst (IsFaultOf None None (Some (k, l)) d e (i, j)) (rule_same Storage rule k l i j is) (refl, (refl, pair_same Storage rule k l i j is))
fault_of None None None (Some (k, l)) e rule i j is = subst (IsFaultOf None None None (Some (k, l)) e (i, j)) (rule_same Locking rule k l i j is) (refl, (refl, (refl, pair_same Locking rule k l i j is)))
fault_of None None None None (Some (k, l)) rule i j is = subst (IsFaultOf None None None None (Some (k, l)) (i, j)) (rule_same Loop rule k l i j is) (refl, (refl, (refl, (refl, pair_same Loop rule k l i j is))))
fault_of None None None None None rule i j is = cc

violated_by : (a b c d e : Option (ℕ × ℕ)) (rule : Rule) (i j : ℕ) → IsFaultOf a b c d e (i, j) rule → verdict_by a b c d e ≡ Violated rule i j
violated_by a b c d e Issue i j fault = rw fault refl
violated_by a b c d e Barrier i j fault = rw (fault.0, fault.1) refl
violated_by a b c d e Storage i j fault = rw (fault.0, fault.1.0, fault.1.1) refl
violated_by a b c d e Locking i j fault = rw (fault.0, fault.1.0, fault.1.1.0, fault.1.1.1) refl
violated_by a b c d e Loop i j fault = rw (fault.0, fault.1.0, fault.1.1.0, fault.1.1.1.0, fault.1.1.1.1) refl

-- the issue constraint alone
each_issued-to : (t : Times) (v : NumberedAccess) (us : List NumberedAccess) → AllByRecursion (λ u. breaks_issue t u v ≡ false) us → AllByRecursion (λ u. IsIssued t u v) us
each_issued-to t v [] all = tt
each_issued-to t v (u ∷ us) all = (met (issue_demands u v) (before t u v) all.0, each_issued-to t v us all.1)

each_issued-from : (t : Times) (v : NumberedAccess) (us : List NumberedAccess) → AllByRecursion (λ u. IsIssued t u v) us → AllByRecursion (λ u. breaks_issue t u v ≡ false) us
each_issued-from t v [] all = tt
each_issued-from t v (u ∷ us) all = (unbroken (issue_demands u v) (before t u v) all.0, each_issued-from t v us all.1)

issued-to : (t : Times) (us : List NumberedAccess) → AllPairs (λ u v. breaks_issue t u v ≡ false) us → AllPairs (IsIssued t) us
issued-to t [] all = tt
issued-to t (v ∷ us) all = (each_issued-to t v us all.0, issued-to t us all.1)

issued-from : (t : Times) (us : List NumberedAccess) → AllPairs (IsIssued t) us → AllPairs (λ u v. breaks_issue t u v ≡ false) us
issued-from t [] all = tt
issued-from t (v ∷ us) all = (each_issued-from t v us all.0, issued-from t us all.1)

-- a list is judged consistent exactly where all rules hold
pub consistent-to : (image : ℕ → ℕ) (t : Times) (us : List NumberedAccess) → Descends us → verdict_on image t us ≡ Consistent → IsConsistent image t us
consistent-to image t us falls is =
    let none = none_of (issue_fault t us) (barrier_fault t us) (storage_fault image t us) (locking_fault t us) (loop_fault t us) is in
    record { order = order_fault-to t us none.issue_none none.barrier_none; storage = storage_fault-to image t us none.storage_none; locking = locking_fault-to t us falls none.locking_none; loops = none.loops_none }

pub consistent-from : (image : ℕ → ℕ) (t : Times) (us : List NumberedAccess) → Descends us → IsConsistent image t us → verdict_on image t us ≡ Consistent
consistent-from image t us falls is =
    let order = order_fault-from t us is.order in
    consistent_by (issue_fault t us) (barrier_fault t us) (storage_fault image t us) (locking_fault t us) (loop_fault t us) (record { issue_none = order.0; barrier_none = order.1; storage_none = storage_fault-from image t us is.storage; locking_none = locking_fault-from t us falls is.locking; loops_none = is.loops })

-- and is judged to violate a rule exactly where the lesser ones hold and the two are the first that break it
pub violated-to : (image : ℕ → ℕ) (t : Times) (us : List NumberedAccess) → Descends us → (rule : Rule) (i j : ℕ) → verdict_on image t us ≡ Violated rule i j → IsViolated image t us rule i j
violated-to image t us falls rule i j is = by rule (fault_of (issue_fault t us) (barrier_fault t us) (storage_fault image t us) (locking_fault t us) (loop_fault t us) rule i j is) where
  by : (rule : Rule) → IsFaultOf (issue_fault t us) (barrier_fault t us) (storage_fault image t us) (locking_fault t us) (loop_fault t us) (i, j) rule → IsViolated image t us rule i j
  by Issue fault = issue_fault_is t us falls i j fault
  by Barrier fault = (issued-to t us (least_none-to (breaks_issue t) us fault.0), barrier_fault_is t us falls i j fault.1)
  by Storage fault = (order_fault-to t us fault.0 fault.1.0, storage_fault_is image t us falls i j fault.1.1)
  by Locking fault = (order_fault-to t us fault.0 fault.1.0, (storage_fault-to image t us fault.1.1.0, locking_fault_is t us falls i j fault.1.1.1))
  by Loop fault = (order_fault-to t us fault.0 fault.1.0, (storage_fault-to image t us fault.1.1.0, (locking_fault-to t us falls fault.1.1.1.0, fault.1.1.1.1)))

pub violated-from : (image : ℕ → ℕ) (t : Times) (us : List NumberedAccess) → Descends us → (rule : Rule) (i j : ℕ) → IsViolated image t us rule i j → verdict_on image t us ≡ Violated rule i j
violated-from image t us falls rule i j is = violated_by (issue_fault t us) (barrier_fault t us) (storage_fault image t us) (locking_fault t us) (loop_fault t us) rule i j (by rule is) where
  by : (rule : Rule) → IsViolated image t us rule i j → IsFaultOf (issue_fault t us) (barrier_fault t us) (storage_fault image t us) (locking_fault t us) (loop_fault t us) (i, j) rule
  by Issue is = issue_fault_from t us falls i j is
  by Barrier is = (least_none-from (breaks_issue t) us (issued-from t us is.0), barrier_fault_from t us falls i j is.1)
  by Storage is = let order = order_fault-from t us is.0 in (order.0, (order.1, storage_fault_from image t us falls i j is.1))
  by Locking is = let order = order_fault-from t us is.0 in (order.0, (order.1, (storage_fault-from image t us is.1.0, locking_fault_from t us falls i j is.1.1)))
  by Loop is = let order = order_fault-from t us is.0 in (order.0, (order.1, (storage_fault-from image t us is.1.0, (locking_fault-from t us falls is.1.1.0, is.1.1.1))))
