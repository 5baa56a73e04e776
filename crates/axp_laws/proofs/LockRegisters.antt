-- A lock stands exactly where nothing undid it since its LDx_L.
use Rattle.std.proofs.Common.{true, false, ℕ, ◌≡◌, ◌≢◌, ◌↔◌, ⊎_elim, eqb, List, [], ◌∷◌, ◌++◌, Option, Some, None, refl, sym, ap, ◌∙◌, arith}
use Rattle.std.specs.List.{AllByRecursion}
use Rattle.std.proofs.lemmas.Bool.{cases_Bool, or_parts, or_from, eqb-true, eqb-false, eq-eqb, ne_eqb, false≢true}
use Rattle.axp_base.specs.Lines.{line_number, line_of}
use Rattle.axp_base.specs.declared.lines.Line.{Line}
use Rattle.axp_base.specs.Blocks.{block_of, line_of_block, after_write, is_allowed, lock_by_other}
use Rattle.axp_access.specs.declared.Access.{Access}
use Rattle.axp_access.specs.declared.Outcome.{Outcome}
use Rattle.axp_access.specs.declared.Outcome.TheVariants as outcome
use Rattle.axp_access.specs.declared.Record.{Record}
use Rattle.axp_model.specs.Records.{is_of, makes_access, line_of_turn}
use Rattle.axp_access.specs.Kinds.{is_locked, is_conditional}
use Rattle.axp_model.specs.Locks.{lock, lock_by_own}
use Rattle.axp_laws.specs.LockLaws.{IsElsewhere, LeavesLock, IsStillLocked}
use Rattle.axp_model.specs.Locking.{is_locking}

pub block_line : (address : ℕ) → line_of_block (block_of address) ≡ line_of address
block_line address = omega arith

-- an own record that is no LDx_L or STx_C leaves the register
own_leaves : (o : Outcome) (g : Option ℕ) → makes_access is_locking o ≡ false → lock_by_own o g ≡ g
own_leaves (outcome.Access a) g e = let both = or_parts (is_locked a.kind) (is_conditional a.kind) e in rw both.0 (rw both.1 refl)
own_leaves outcome.NoAccess g e = refl
own_leaves (outcome.Filled x y z) g e = refl
own_leaves (outcome.Drained x y z) g e = refl
own_leaves (outcome.Taken x y z) g e = refl
own_leaves outcome.Done g e = refl
own_leaves (outcome.Polled x y z) g e = refl

-- a turn elsewhere leaves it
other_leaves : (l k : ℕ) (turn : Option Line) → IsElsewhere l turn → line_of_block k ≡ l → lock_by_other turn (Some k) ≡ Some k
other_leaves l k None apart e = refl
other_leaves l k (Some line) apart e = rw (ne_eqb (line_of_block k) (line_number line) (λ same. apart (sym same ∙ e))) refl

lock_leaves : (p k : ℕ) (r : Record) (h : List Record) → LeavesLock p (line_of_block k) r → lock p h ≡ Some k → lock p (r ∷ h) ≡ Some k
lock_leaves p k r h leaves e =
    ⊎_elim
    (λ (own : is_of p r ≡ true). rw own (own_leaves r.outcome (lock p h) (leaves.own own) ∙ e))
    (λ (foreign : is_of p r ≡ false). rw foreign (rw e (other_leaves (line_of_block k) k (line_of_turn r.outcome) (leaves.other foreign) refl)))
    (cases_Bool (is_of p r))

lock_stays : (p k : ℕ) (since before : List Record) → AllByRecursion (LeavesLock p (line_of_block k)) since → lock p before ≡ Some k → lock p (since ++ before) ≡ Some k
lock_stays p k [] before quiet e = e
lock_stays p k (r ∷ since) before quiet e = lock_leaves p k r (since ++ before) quiet.0 (lock_stays p k since before quiet.1 e)

lock_set : (p : ℕ) (r : Record) (h : List Record) (a : Access) → is_of p r ≡ true → r.outcome ≡ outcome.Access a → is_locked a.kind ≡ true → lock p (r ∷ h) ≡ Some (block_of a.address)
lock_set p r h a own makes_access locked = rw own (rw makes_access (rw locked refl))

still_allows : (p address : ℕ) (h : List Record) → IsStillLocked p address h → is_allowed address (lock p h) ≡ true
still_allows p address h still =
    let line : line_of_block (block_of still.access.address) ≡ line_of address = ap line_of_block still.same ∙ block_line address in
    let quiet : AllByRecursion (LeavesLock p (line_of_block (block_of still.access.address))) still.since = rw line still.quiet in
    let stands : lock p (still.since ++ still.locking ∷ still.before) ≡ Some (block_of still.access.address) =
    lock_stays p (block_of still.access.address) still.since (still.locking ∷ still.before) quiet (lock_set p still.locking still.before still.access still.own still.made still.locked) in
    rw still.split (rw stands (eq-eqb (block_of address) (block_of still.access.address) (sym still.same)))

-- one record more
still_more : (p address : ℕ) (r : Record) (h : List Record) → LeavesLock p (line_of address) r → IsStillLocked p address h → IsStillLocked p address (r ∷ h)
still_more p address r h leaves still = record {
  since = r ∷ still.since;
  locking = still.locking;
  before = still.before;
  access = still.access;
  split = ap (λ (rest : List Record). r ∷ rest) still.split;
  own = still.own;
  made = still.made;
  locked = still.locked;
  same = still.same;
  quiet = (leaves, still.quiet);
}

-- an own record after which the address is allowed
still_own : (p address : ℕ) (r : Record) (h : List Record) (o : Outcome) → r.outcome ≡ o → is_of p r ≡ true → (is_allowed address (lock p h) ≡ true → IsStillLocked p address h) → is_allowed address (lock_by_own o (lock p h)) ≡ true → IsStillLocked p address (r ∷ h)
still_own p address r h (outcome.Access a) is own before e =
    ⊎_elim
    (λ (t : is_locked a.kind ≡ true).
    let now : eqb (block_of address) (block_of a.address) ≡ true = rw t at e in
    record { since = []; locking = r; before = h; access = a; split = refl; own = own; made = is; locked = t; same = sym (eqb-true (block_of address) (block_of a.address) now); quiet = tt })
    (λ (f : is_locked a.kind ≡ false).
    ⊎_elim
    (λ (t : is_conditional a.kind ≡ true). let never : false ≡ true = rw t at (rw f at e) in absurd (false≢true never))
    (λ (n : is_conditional a.kind ≡ false).
    let was : is_allowed address (lock p h) ≡ true = rw n at (rw f at e) in
    still_more p address r h (record { own = λ _. rw is (or_from (is_locked a.kind) (is_conditional a.kind) f n); other = λ foreign. absurd (false≢true (sym foreign ∙ own)) }) (before was))
    (cases_Bool (is_conditional a.kind)))
    (cases_Bool (is_locked a.kind))
still_own p address r h o is own before e = still_more p address r h (record { own = λ _. rw is refl; other = λ foreign. absurd (false≢true (sym foreign ∙ own)) }) (before e)

-- a write after which the address is allowed was to another line
allowed_before : (address line : ℕ) (block : Option ℕ) → is_allowed address (after_write line block) ≡ true → (is_allowed address block ≡ true) × (line ≢ line_of address)
allowed_before address line None e = cc
allowed_before address line (Some block) e =
    ⊎_elim
    (λ (t : eqb (line_of_block block) line ≡ true). let never : false ≡ true = rw t at e in absurd (false≢true never))
    (λ (f : eqb (line_of_block block) line ≡ false).
    let was : eqb (block_of address) block ≡ true = rw f at e in
    (was, λ same. eqb-false (line_of_block block) line f (ap line_of_block (sym (eqb-true (block_of address) block was)) ∙ block_line address ∙ sym same)))
    (cases_Bool (eqb (line_of_block block) line))

pub other_before : (address : ℕ) (turn : Option Line) (block : Option ℕ) → is_allowed address (lock_by_other turn block) ≡ true → (is_allowed address block ≡ true) × IsElsewhere (line_of address) turn
other_before address None block e = (e, tt)
other_before address (Some line) block e = allowed_before address (line_number line) block e

allowed_still : (p address : ℕ) (h : List Record) → is_allowed address (lock p h) ≡ true → IsStillLocked p address h
allowed_still p address [] e = cc
allowed_still p address (r ∷ h) e =
    ⊎_elim
    (λ (own : is_of p r ≡ true). still_own p address r h r.outcome refl own (allowed_still p address h) (rw own at e))
    (λ (foreign : is_of p r ≡ false).
    let both = other_before address (line_of_turn r.outcome) (lock p h) (rw foreign at e) in
    still_more p address r h (record { own = λ own. absurd (false≢true (sym foreign ∙ own)); other = λ _. both.1 }) (allowed_still p address h both.0))
    (cases_Bool (is_of p r))

pub allowed_exactly : (p address : ℕ) (h : List Record) → (is_allowed address (lock p h) ≡ true) ↔ IsStillLocked p address h
allowed_exactly p address h = (allowed_still p address h, still_allows p address h)
