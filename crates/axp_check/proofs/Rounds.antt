-- A round of a search: each access of the list is taken in where it is reached.
use Rattle.std.proofs.Common.{◌≡◌, ℕ, ◌+◌, ◌-◌, ◌<◌, ◌≤◌, Bool, true, false, eqb, cond, length, slice_get, Option, Some, None, IfSome, refl, sym, ap, ◌∙◌, subst, arith, ⊎_elim}
use Rattle.std.proofs.lemmas.Bool.{false≢true, cases_lt}
use Rattle.std.proofs.lemmas.Option.{slice_get_within}
use Rattle.axp_base.specs.Cpus.{cpu_number}
use Rattle.axp_base.specs.declared.processors.TheConstants.{MAX_CPUS}
use Rattle.axp_access.proofs.Numbers.{number_is}
use Rattle.axp_access.specs.declared.Access.{Access}
use Rattle.axp_access.specs.Lists.{Accesses, accesses_in, accesses_to, access_at, times_of}
use Rattle.axp_access.specs.Numbering.{NumberedAccess, next_access}
use Rattle.axp_model.specs.Sources.{takes_bytes}
use Rattle.axp_laws.proofs.CauseMoments.{Among}
use Rattle.axp_check.specs.declared.reached.Reached.{Reached}
use Rattle.axp_check.specs.Loops.{is_on_cycle}
use Rattle.axp_check.specs.Reached.{IsClosedAt, IsClosedTo, IsReaching, has_source_behind, least_of, total_of}
use Rattle.axp_check.proofs.Numbers.{among_at}
use Rattle.axp_check.proofs.Reaching.{cycle_is, reaching_first, reaching_more}

-- an access not below its processor's number
pub closed_below : (list : Accesses) (reached : Reached) (n m : ℕ) (a : Access) → 1 ≤ n → slice_get list.items (n - 1) ≡ Some a → m ≡ least_of reached (cpu_number a.cpu) → m ≤ n → IfSome (access_at list n) (IsClosedAt list reached)
closed_below list reached n m a least found is low = let number = number_is list n a least found in rw found (λ any. omega (arith, number, is, low))

-- the access of a number, by what the list has there
found_among : (list : Accesses) (n : ℕ) (a : Access) → 1 ≤ n → slice_get list.items (n - 1) ≡ Some a → Among (next_access (accesses_to list (n - 1)) a) (accesses_in list)
found_among list n a least found =
    let inside = slice_get_within list.items (n - 1) a found in
    let same : n - 1 + 1 - 1 ≡ n - 1 = omega arith in
    among_at list (n - 1) (next_access (accesses_to list (n - 1)) a) inside (rw same (rw found refl))

-- an access that is taken in
pub take_in_keeps : (list : Accesses) (old new : Reached) (n m : ℕ) (a : Access) (b : Bool) → 1 ≤ n → slice_get list.items (n - 1) ≡ Some a → m ≡ least_of old (cpu_number a.cpu) → n < m → IfSome (access_at list n) (λ v. b ≡ has_source_behind list old v) → b ≡ true → ((p : ℕ) → least_of new p ≡ cond (eqb (cpu_number a.cpu) p) n (least_of old p)) → (r : NumberedAccess) → IsReaching list old r → IsReaching list new r
take_in_keeps list old new n m a b least found is low any yes_ value r reaching =
    let number : length (accesses_to list (n - 1)) + 1 ≡ n = number_is list n a least found in
    let v = next_access (accesses_to list (n - 1)) a in
    let has : b ≡ has_source_behind list old (next_access (accesses_to list (n - 1)) a) = rw found at any in
    reaching_more list old new r v (found_among list n a least found) (sym has ∙ yes_) (omega (arith, number, is, low)) (λ p. value p ∙ ap (λ k. cond (eqb (cpu_number a.cpu) p) k (least_of old p)) (sym number)) reaching

-- a round that has come to access n
pub record IsRound (list : Accesses) (old now : Reached) (changed : Bool) (n : ℕ) : Type 0 where
  pub keeps : (r : NumberedAccess) → IsReaching list old r → IsReaching list now r
  pub most : total_of now ≤ total_of old
  pub falls : changed ≡ true → total_of now < total_of old
  pub closed : changed ≡ false → IsClosedTo list now n

pub round_first : (list : Accesses) (old : Reached) → IsRound list old old false 0
round_first list old = record {
  keeps = λ r reaching. reaching;
  most = omega arith;
  falls = λ e. absurd (false≢true e);
  closed = λ e m less. absurd (never m less);
} where
  never : (m : ℕ) → m < 0 → ⊥
  never m less = omega (arith, less)

-- where one more was new
pub round_new : (list : Accesses) (old now next : Reached) (changed : Bool) (n : ℕ) → ((r : NumberedAccess) → IsReaching list now r → IsReaching list next r) → total_of next < total_of now → IsRound list old now changed n → IsRound list old next true (n + 1)
round_new list old now next changed n keeps less so_far = let most = so_far.most in record {
  keeps = λ r reaching. keeps r (so_far.keeps r reaching);
  most = omega (arith, less, most);
  falls = λ e. omega (arith, less, most);
  closed = λ e. absurd (false≢true (sym e));
}

-- where it was not
pub round_same : (list : Accesses) (old now next : Reached) (changed : Bool) (n : ℕ) → next ≡ now → IfSome (access_at list (n + 1)) (IsClosedAt list next) → IsRound list old now changed n → IsRound list old next changed (n + 1)
round_same list old now next changed n same here so_far = rw same record {
  keeps = so_far.keeps;
  most = so_far.most;
  falls = so_far.falls;
  closed = λ e m less. ⊎_elim
      (λ (older : m < n). so_far.closed e m older)
      (λ (past : n ≤ m). let one : m ≡ n = omega (arith, past, less) in rw one (subst (λ z. IfSome (access_at list (n + 1)) (IsClosedAt list z)) same here))
      (cases_lt m n);
}

-- a search begins at access n
pub search_begins : (list : Accesses) (new : Reached) (n most : ℕ) (a : Access) → 1 ≤ n → slice_get list.items (n - 1) ≡ Some a → most ≡ length list.items → ((p : ℕ) → p < MAX_CPUS → least_of new p ≡ cond (eqb (cpu_number a.cpu) p) n most) → IfSome (access_at list n) (λ r. takes_bytes r ≡ true → IsReaching list new r)
search_begins list new n most a least found len value =
    let number : length (accesses_to list (n - 1)) + 1 ≡ n = number_is list n a least found in
    rw found (λ takes. reaching_first list new (next_access (accesses_to list (n - 1)) a) most (found_among list n a least found) takes (omega (arith, len)) (λ p small. value p small ∙ ap (λ k. cond (eqb (cpu_number a.cpu) p) k most) (sym number)))

-- a round keeps what is reached
pub round_keeps : (list : Accesses) (old new : Reached) (o : Option NumberedAccess) → ((r : NumberedAccess) → IsReaching list old r → IsReaching list new r) → IfSome o (λ r. takes_bytes r ≡ true → IsReaching list old r) → IfSome o (λ r. takes_bytes r ≡ true → IsReaching list new r)
round_keeps list old new None keeps so_far = tt
round_keeps list old new (Some r) keeps so_far = λ takes. keeps r (so_far takes)

-- at the end of a search its read or fetch is told
pub search_tells : (list : Accesses) (reached : Reached) (n : ℕ) (b : Bool) → 1 ≤ n → n ≤ length list.items → IfSome (access_at list n) (λ r. takes_bytes r ≡ true → IsReaching list reached r) → IsClosedTo list reached (length list.items) → IfSome (access_at list n) (λ r. b ≡ has_source_behind list reached r) → IfSome (access_at list n) (λ r. takes_bytes r ≡ true → b ≡ is_on_cycle (times_of list) (accesses_in list) r)
search_tells list reached n b least most reaching closed is =
    let back : n - 1 + 1 ≡ n = omega (arith, least) in
    by (access_at list n) (subst (λ m. (r : NumberedAccess) → access_at list m ≡ Some r → Among r (accesses_in list)) back (λ r. among_at list (n - 1) r (omega (arith, least, most)))) reaching is where
      by : (o : Option NumberedAccess) → ((r : NumberedAccess) → o ≡ Some r → Among r (accesses_in list)) → IfSome o (λ r. takes_bytes r ≡ true → IsReaching list reached r) → IfSome o (λ r. b ≡ has_source_behind list reached r) → IfSome o (λ r. takes_bytes r ≡ true → b ≡ is_on_cycle (times_of list) (accesses_in list) r)
      by None among reaching is = tt
      by (Some r) among reaching is = λ takes. is ∙ cycle_is list reached r (among r refl) takes (reaching takes) closed
