-- No pair breaks the issue constraint or a write barrier exactly where each two accesses are in order.
use Rattle.std.proofs.Common.{◌≡◌, Bool, true, false, not, ◌&&◌, List, [], ◌∷◌, None, refl, sym}
use Rattle.std.specs.List.{AllByRecursion}
use Rattle.std.proofs.lemmas.Bool.{false≢true}
use Rattle.axp_access.specs.Numbering.{NumberedAccess}
use Rattle.axp_access.specs.Order.{Times, before}
use Rattle.axp_model.specs.Issue.{AllPairs, IsInOrder, issue_demands, barrier_demands}
use Rattle.axp_order.specs.Pairs.{breaks_issue, breaks_barrier}
use Rattle.axp_check.specs.Verdicts.{issue_fault, barrier_fault}
use Rattle.axp_check.proofs.NoneLemmas.{least_none-to, least_none-from}

-- what is demanded is, where it is not that something demanded is not
pub met : (demand is : Bool) → (demand && not is) ≡ false → demand ≡ true → is ≡ true
met true true e d = refl
met true false e d = absurd (false≢true (sym e))
met false is e d = absurd (false≢true d)

pub unbroken : (demand is : Bool) → (demand ≡ true → is ≡ true) → (demand && not is) ≡ false
unbroken true is f = rw (f refl) refl
unbroken false is f = refl

order_in : (t : Times) (v : NumberedAccess) (us : List NumberedAccess) → AllByRecursion (λ u. breaks_issue t u v ≡ false) us → AllByRecursion (λ u. breaks_barrier t u v ≡ false) us → AllByRecursion (λ u. IsInOrder t u v) us
order_in t v [] a b = tt
order_in t v (u ∷ us) a b = (record { issue = met (issue_demands u v) (before t u v) a.0; barrier = met (barrier_demands u v) (before t u v) b.0 }, order_in t v us a.1 b.1)

orders_in : (t : Times) (us : List NumberedAccess) → AllPairs (λ u v. breaks_issue t u v ≡ false) us → AllPairs (λ u v. breaks_barrier t u v ≡ false) us → AllPairs (IsInOrder t) us
orders_in t [] a b = tt
orders_in t (v ∷ us) a b = (order_in t v us a.0 b.0, orders_in t us a.1 b.1)

none_against : (t : Times) (v : NumberedAccess) (us : List NumberedAccess) → AllByRecursion (λ u. IsInOrder t u v) us → AllByRecursion (λ u. breaks_issue t u v ≡ false) us × AllByRecursion (λ u. breaks_barrier t u v ≡ false) us
none_against t v [] all = (tt, tt)
none_against t v (u ∷ us) all =
    let rest = none_against t v us all.1 in
    ((unbroken (issue_demands u v) (before t u v) all.0.issue, rest.0), (unbroken (barrier_demands u v) (before t u v) all.0.barrier, rest.1))

none_of_pairs : (t : Times) (us : List NumberedAccess) → AllPairs (IsInOrder t) us → AllPairs (λ u v. breaks_issue t u v ≡ false) us × AllPairs (λ u v. breaks_barrier t u v ≡ false) us
none_of_pairs t [] all = (tt, tt)
none_of_pairs t (v ∷ us) all = let here = none_against t v us all.0 in let rest = none_of_pairs t us all.1 in ((here.0, rest.0), (here.1, rest.1))

-- no fault of either exactly where each two are in order
pub order_fault-to : (t : Times) (us : List NumberedAccess) → issue_fault t us ≡ None → barrier_fault t us ≡ None → AllPairs (IsInOrder t) us
order_fault-to t us issue barrier = orders_in t us (least_none-to (breaks_issue t) us issue) (least_none-to (breaks_barrier t) us barrier)

pub order_fault-from : (t : Times) (us : List NumberedAccess) → AllPairs (IsInOrder t) us → (issue_fault t us ≡ None) × (barrier_fault t us ≡ None)
order_fault-from t us all = let none = none_of_pairs t us all in (least_none-from (breaks_issue t) us none.0, least_none-from (breaks_barrier t) us none.1)
