-- The access that set a lock, and what came after it.
use Rattle.std.proofs.Common.{true, false, ℕ, ◌+◌, ◌<◌, ◌≤◌, ◌≡◌, ⊎_elim, Bool, List, [], ◌∷◌, length, slice_get, suc, Some, refl, sym, ◌∙◌, arith}
use Rattle.std.specs.List.{AllByRecursion}
use Rattle.std.proofs.lemmas.Bool.{cases_Bool, or_from, eqb-true, eq-eqb, false≢true}
use Rattle.axp_base.specs.Cpus.{cpu_number}
use Rattle.axp_base.specs.Blocks.{block_of, is_allowed}
use Rattle.axp_regs.specs.declared.asks.Kind.{Kind}
use Rattle.axp_regs.specs.declared.asks.Kind.TheVariants as kind
use Rattle.axp_access.specs.declared.Access.{Access}
use Rattle.axp_access.specs.declared.Event.{Event}
use Rattle.axp_access.specs.declared.Outcome.{Outcome}
use Rattle.axp_access.specs.declared.Outcome.TheVariants as outcome
use Rattle.axp_access.specs.declared.Place.{Place}
use Rattle.axp_access.specs.declared.Place.TheVariants.{At}
use Rattle.axp_access.specs.declared.Record.{Record}
use Rattle.axp_model.specs.Records.{is_of, makes_access, line_of_turn, turns_on}
use Rattle.axp_access.specs.Kinds.{is_locked, is_conditional}
use Rattle.axp_base.specs.Lines.{line_of}
use Rattle.axp_model.specs.Turns.{turns}
use Rattle.axp_model.specs.Accesses.{accesses}
use Rattle.axp_access.specs.Numbering.{NumberedAccess, cpu_of, next_access}
use Rattle.axp_model.specs.Locks.{lock, lock_by_own}
use Rattle.axp_laws.specs.Counts.{last_other}
use Rattle.axp_laws.specs.LockLaws.{IsElsewhere}
use Rattle.axp_model.specs.Locking.{is_locking}
use Rattle.axp_laws.proofs.RunFacts.{Fits, FitsOutcome, Fitting, KnownItem}
use Rattle.axp_laws.proofs.RunKnown.{IsAddressed}
use Rattle.axp_laws.proofs.LockRegisters.{other_before}
use Rattle.axp_laws.proofs.LateReached.{fits_addressed, turned_line, last_other_most}
use Rattle.axp_laws.proofs.RunSteps.{each_map, kept}

-- the LDx_L of processor p that set the lock: none of its LDx_Ls and STx_Cs among us comes later, and
-- it stands at or above turn n
pub record Locker (us : List NumberedAccess) (p address n : ℕ) : Type 0 where
  pub lock : NumberedAccess
  pub place : ℕ
  pub at : ℕ
  pub listed : slice_get us place ≡ Some lock
  pub first : lock.number ≤ length us
  pub own : cpu_of lock ≡ p
  pub locked : is_locked lock.access.kind ≡ true
  pub block : block_of lock.access.address ≡ block_of address
  pub alone : AllByRecursion (λ w. cpu_of w ≡ p → lock.number < w.number → is_locking w.access ≡ false) us
  pub stands : lock.access.place ≡ At at
  pub seen : n ≤ at

-- one more access
locker_add : (us : List NumberedAccess) (p address n : ℕ) (w : NumberedAccess) → (cpu_of w ≡ p → is_locking w.access ≡ false) → Locker us p address n → Locker (w ∷ us) p address n
locker_add us p address n w other l = record {
  lock = l.lock;
  place = suc l.place;
  at = l.at;
  listed = l.listed;
  first = omega (arith, l.first);
  own = l.own;
  locked = l.locked;
  block = l.block;
  alone = (λ same later. other same, l.alone);
  stands = l.stands;
  seen = l.seen;
}

-- a record that is no LDx_L or STx_C of p
locker_more : (e : Event) (o : Outcome) (h : List Record) (p address n : ℕ) → FitsOutcome (cpu_number e.cpu) o h → (cpu_number e.cpu ≡ p → makes_access is_locking o ≡ false) → Locker (accesses h) p address n → Locker (accesses (record { event = e; outcome = o } ∷ h)) p address n
locker_more e (outcome.Access a) h p address n fit other l = locker_add (accesses h) p address n (next_access (accesses h) a) (λ same. other (sym fit.0 ∙ same)) l
locker_more e outcome.NoAccess h p address n fit other l = l
locker_more e (outcome.Filled b k t) h p address n fit other l = l
locker_more e (outcome.Drained m k t) h p address n fit other l = l
locker_more e (outcome.Taken k t g) h p address n fit other l = l
locker_more e outcome.Done h p address n fit other l = l
locker_more e (outcome.Polled v x t) h p address n fit other l =
    locker_add (accesses h) p address n (next_access (accesses h) (record { cpu = e.cpu; kind = kind.Poll; address = 0; size = 0; value = 0; yes = v; place = At t })) (λ same. refl) l

locked_at : (k : Kind) (p l : ℕ) (y : Bool) (at : Place) (h : List Record) → is_locked k ≡ true → Fits k p l y at h → at ≡ At (turns h)
locked_at kind.Locked p l y at h is fit = fit.0
locked_at _ p l y at h is fit = cc

-- none of these numbers is above the count
none_later : (us : List NumberedAccess) (p n : ℕ) → AllByRecursion (λ w. w.number ≤ n) us → AllByRecursion (λ w. cpu_of w ≡ p → n + 1 < w.number → is_locking w.access ≡ false) us
none_later [] p n each = tt
none_later (w ∷ us) p n each = (λ same later. absurd (omega (arith, each.0, later)), none_later us p n each.1)

pub numbers : (h : List Record) → Fitting h → AllByRecursion (λ w. w.number ≤ length (accesses h)) (accesses h)
numbers h fit = each_map (KnownItem h) (λ w. w.number ≤ length (accesses h)) (accesses h) (λ w known. known.number) (kept h fit).items

-- an LDx_L is the newest
locker_new : (e : Event) (a : Access) (h : List Record) (p address n : ℕ) → FitsOutcome (cpu_number e.cpu) (outcome.Access a) h → Fitting h → cpu_number e.cpu ≡ p → is_locked a.kind ≡ true → block_of address ≡ block_of a.address → n ≤ turns h → Locker (accesses (record { event = e; outcome = outcome.Access a } ∷ h)) p address n
locker_new e a h p address n fit before own is same less = record {
  lock = next_access (accesses h) a;
  place = 0;
  at = turns h;
  listed = refl;
  first = omega arith;
  own = fit.0 ∙ own;
  locked = is;
  block = sym same;
  alone = (λ _ later. absurd (omega (arith, later)), none_later (accesses h) p (length (accesses h)) (numbers h before));
  stands = locked_at a.kind (cpu_number e.cpu) (line_of a.address) a.yes a.place h is fit.2;
  seen = less;
}

-- an own record
locker_own : (e : Event) (o : Outcome) (h : List Record) (p address n : ℕ) → FitsOutcome (cpu_number e.cpu) o h → Fitting h → cpu_number e.cpu ≡ p → n ≤ turns h → (is_allowed address (lock p h) ≡ true → Locker (accesses h) p address n) → is_allowed address (lock_by_own o (lock p h)) ≡ true → Locker (accesses (record { event = e; outcome = o } ∷ h)) p address n
locker_own e (outcome.Access a) h p address n fit rest own less before allowed =
    ⊎_elim
    (λ (t : is_locked a.kind ≡ true). locker_new e a h p address n fit rest own t (eqb-true (block_of address) (block_of a.address) (rw t at allowed)) less)
    (λ (f : is_locked a.kind ≡ false).
    ⊎_elim
    (λ (t : is_conditional a.kind ≡ true). let never : false ≡ true = rw t at (rw f at allowed) in absurd (false≢true never))
    (λ (c : is_conditional a.kind ≡ false).
    let was : is_allowed address (lock p h) ≡ true = rw c at (rw f at allowed) in
    locker_more e (outcome.Access a) h p address n fit (λ _. or_from (is_locked a.kind) (is_conditional a.kind) f c) (before was))
    (cases_Bool (is_conditional a.kind)))
    (cases_Bool (is_locked a.kind))
locker_own e o h p address n fit rest own less before allowed = locker_more e o h p address n fit (λ _. refl) (before allowed)

-- no turn on another line
elsewhere_not : (l : ℕ) (o : Outcome) → IsAddressed o → IsElsewhere l (line_of_turn o) → turns_on l o ≡ false
elsewhere_not l o low apart =
    ⊎_elim
    (λ (t : turns_on l o ≡ true).
    let turn = turned_line l o low t in
    let there : IsElsewhere l (Some turn.0) = rw turn.1 at apart in
    absurd (there turn.2))
    (λ f. f)
    (cases_Bool (turns_on l o))

-- the address is allowed: some LDx_L set the lock, and no turn of another on the line came since
pub locker : (p address : ℕ) (h : List Record) → Fitting h → is_allowed address (lock p h) ≡ true → Locker (accesses h) p address (last_other p (line_of address) h)
locker p address [] fit allowed = cc
locker p address (r ∷ h) fit allowed =
    ⊎_elim
    (λ (own : is_of p r ≡ true).
    rw own (locker_own r.event r.outcome h p address (last_other p (line_of address) h) fit.0 fit.1 (eqb-true (cpu_number r.event.cpu) p own) (last_other_most p (line_of address) h) (locker p address h fit.1) (rw own at allowed)))
    (λ (foreign : is_of p r ≡ false).
    let both = other_before address (line_of_turn r.outcome) (lock p h) (rw foreign at allowed) in
    let none : turns_on (line_of address) r.outcome ≡ false = elsewhere_not (line_of address) r.outcome (fits_addressed (cpu_number r.event.cpu) r.outcome h fit.0) both.1 in
    let was : Locker (accesses h) p address (last_other p (line_of address) h) = locker p address h fit.1 both.0 in
    rw foreign (rw none (locker_more r.event r.outcome h p address (last_other p (line_of address) h) fit.0 (λ same. absurd (false≢true (sym foreign ∙ eq-eqb (cpu_number r.event.cpu) p same))) was)))
    (cases_Bool (is_of p r))
