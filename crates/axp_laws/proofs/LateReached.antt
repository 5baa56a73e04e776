-- A held copy that is older than a turn of another processor on its line has something late.
use Rattle.std.proofs.Common.{true, false, ℕ, ◌+◌, ◌<◌, ◌≤◌, ◌≡◌, ◌⊎◌, ⊎_elim, eqb, Bool, not, ◌&&◌, ◌||◌, List, [], ◌∷◌, ◌++◌, Option, Some, None, refl, sym, ap, ◌∙◌, subst, arith}
use Rattle.std.proofs.lemmas.Bool.{cond_both, cases_Bool, cases_lt, and_parts, or_parts, or_cases, or_left, or_right, not-true, lt-ltb, eqb-true, eq-eqb, false≢true}
use Rattle.axp_base.specs.Cpus.{cpu_number}
use Rattle.axp_base.specs.Lines.{line_number, data_bank, line_of, line_at, in_bank}
use Rattle.axp_base.specs.declared.lines.Bank.{Bank}
use Rattle.axp_base.specs.declared.lines.Line.{Line}
use Rattle.axp_base.specs.LatePairs.{is_later, has_later, late_by_other}
use Rattle.axp_regs.specs.declared.asks.Kind.{Kind}
use Rattle.axp_regs.specs.declared.asks.Kind.TheVariants as kind
use Rattle.axp_access.specs.declared.Access.{Access}
use Rattle.axp_access.specs.declared.Place.{Place}
use Rattle.axp_access.specs.declared.Outcome.{Outcome}
use Rattle.axp_access.specs.declared.Outcome.TheVariants as outcome
use Rattle.axp_access.specs.declared.Record.{Record}
use Rattle.axp_model.specs.Records.{is_of, is_turn, line_of_turn, turns_on, fills, locks, fences, drops}
use Rattle.axp_access.specs.Kinds.{is_success, is_signal}
use Rattle.axp_model.specs.Turns.{turns, stamps, stamp}
use Rattle.axp_model.specs.Entries.{buffer, buffer_after}
use Rattle.axp_model.specs.Late.{late, late_by_own, takes_away, loses_copy, held}
use Rattle.axp_laws.specs.Counts.{last_other}
use Rattle.axp_laws.specs.LateLaws.{IsReached, HasJustFenced}
use Rattle.axp_laws.proofs.RunFacts.{Fits, FitsOutcome, Fitting}
use Rattle.axp_laws.proofs.RunRecords.{line_at-number, bank_own, bank_of_line}
use Rattle.axp_laws.proofs.OrderCounts.{turns_grow, stamp_most}
use Rattle.axp_laws.proofs.RunKnown.{IsAddressed}

-- what fits has an address
pub fits_addressed : (p : ℕ) (o : Outcome) (h : List Record) → FitsOutcome p o h → IsAddressed o
fits_addressed p (outcome.Access a) h fit = fit.1.addressed
fits_addressed p outcome.NoAccess h fit = tt
fits_addressed p (outcome.Filled b k t) h fit = tt
fits_addressed p (outcome.Drained n k t) h fit = tt
fits_addressed p (outcome.Taken k t g) h fit = tt
fits_addressed p outcome.Done h fit = tt
fits_addressed p (outcome.Polled x y z) h fit = tt

-- a data bank that has a line is the line's
-- the line of a turn
abbrev pub Turning : ℕ → Outcome → Type 0
Turning l o = (line : Line) × (line_of_turn o ≡ Some line) × (line_number line ≡ l)

pub turned_line : (l : ℕ) (o : Outcome) → IsAddressed o → turns_on l o ≡ true → Turning l o
turned_line l (outcome.Access a) low e =
    let x = and_parts (is_success a) (eqb (line_of a.address) l) e in
    (line_at a.address, rw x.0 refl, line_at-number a.address low ∙ eqb-true (line_of a.address) l x.1)
turned_line l outcome.NoAccess low e = cc
turned_line l (outcome.Filled b k t) low e = cc
turned_line l (outcome.Drained n k t) low e = (k, refl, eqb-true (line_number k) l e)
turned_line l (outcome.Taken k t g) low e = cc
turned_line l outcome.Done low e = cc
turned_line l (outcome.Polled x y z) low e = cc

pub turns_on_turn : (l : ℕ) (o : Outcome) → turns_on l o ≡ true → is_turn o ≡ true
turns_on_turn l (outcome.Access a) e = or_left (is_success a) (is_signal a.kind) (and_parts (is_success a) (eqb (line_of a.address) l) e).0
turns_on_turn l outcome.NoAccess e = cc
turns_on_turn l (outcome.Filled b k t) e = cc
turns_on_turn l (outcome.Drained n k t) e = refl
turns_on_turn l (outcome.Taken k t g) e = cc
turns_on_turn l outcome.Done e = cc
turns_on_turn l (outcome.Polled x y z) e = cc

pub last_other_most : (p l : ℕ) (h : List Record) → last_other p l h ≤ turns h
last_other_most p l [] = omega arith
last_other_most p l (r ∷ h) =
    cond_both (not (is_of p r) && turns_on l r.outcome) (turns h + 1) (last_other p l h) (λ x. x ≤ turns (r ∷ h))
    (λ e. rw (turns_on_turn l r.outcome (and_parts (not (is_of p r)) (turns_on l r.outcome) e).1) (omega arith))
    (λ e. omega (arith, last_other_most p l h, turns_grow r h))

-- what is late stays so where more comes
later_append : (l s : ℕ) (q xs : List (Line × ℕ)) → has_later l s q ≡ true → has_later l s (q ++ xs) ≡ true
later_append l s [] xs e = cc
later_append l s (x ∷ q) xs e =
    ⊎_elim (λ here. or_left (is_later l s x) (has_later l s (q ++ xs)) here) (λ there. or_right (is_later l s x) (has_later l s (q ++ xs)) (later_append l s q xs there)) (or_cases (is_later l s x) (has_later l s q) e)

later_last : (l s t : ℕ) (line : Line) (q : List (Line × ℕ)) → line_number line ≡ l → s < t → has_later l s (q ++ (line, t) ∷ []) ≡ true
later_last l s t line [] same less = rw (eq-eqb (line_number line) l same, lt-ltb s t less) refl
later_last l s t line (x ∷ q) same less = or_right (is_later l s x) (has_later l s (q ++ (line, t) ∷ [])) (later_last l s t line q same less)

later_other : (l s t : ℕ) (b : Bank) (o : Option Line) (q : List (Line × ℕ)) → has_later l s q ≡ true → has_later l s (late_by_other b o t q) ≡ true
later_other l s t b None q e = e
later_other l s t b (Some k) q e = cond_both (in_bank b (line_number k)) (q ++ (k, t) ∷ []) q (λ x. has_later l s x ≡ true) (λ _. later_append l s q ((k, t) ∷ []) e) (λ _. e)

later_new : (l s t : ℕ) (line : Line) (q : List (Line × ℕ)) → line_number line ≡ l → s < t → has_later l s (late_by_other (data_bank l) (Some line) t q) ≡ true
later_new l s t line q same less =
    let mine : in_bank (data_bank l) (line_number line) ≡ true = rw same (bank_own l) in
    rw mine (later_last l s t line q same less)

none_left : (a : Bool) → (a && true) ≡ false → a ≡ false
none_left true e = e
none_left false e = refl

-- an own record by which the line stays held
own_reached : (p l s : ℕ) (o : Outcome) (h : List Record) (q : List (Line × ℕ)) → late p (data_bank l) h ≡ q → FitsOutcome p o h → (fences o && has_later l s q) ≡ false → takes_away l s o ≡ false → has_later l s q ≡ true → has_later l s (late_by_own (data_bank l) o q) ≡ true
own_reached p l s (outcome.Access a) h q is fit kept stays e = let none : fences (outcome.Access a) ≡ false = none_left (fences (outcome.Access a)) (rw e at kept) in rw none e
own_reached p l s (outcome.Taken k t g) h q is fit kept stays e =
    ⊎_elim
    (λ (mine : in_bank (data_bank l) (line_number k) ≡ true).
    let bank : data_bank (line_number k) ≡ data_bank l = bank_of_line (data_bank l) (line_number k) mine in
    let shown : q ≡ (k, t) ∷ fit.0 = sym is ∙ (rw (← bank) fit.1) in
    let rest : (is_later l s (k, t) ≡ true) ⊎ (has_later l s fit.0 ≡ true) = or_cases (is_later l s (k, t)) (has_later l s fit.0) (rw shown at e) in
    rw mine (rw shown (⊎_elim (λ here. absurd (false≢true (sym stays ∙ here))) (λ there. there) rest)))
    (λ (elsewhere : in_bank (data_bank l) (line_number k) ≡ false). rw elsewhere e)
    (cases_Bool (in_bank (data_bank l) (line_number k)))
own_reached p l s outcome.NoAccess h q is fit kept stays e = e
own_reached p l s (outcome.Filled x y z) h q is fit kept stays e = e
own_reached p l s (outcome.Drained x y z) h q is fit kept stays e = e
own_reached p l s outcome.Done h q is fit kept stays e = e
own_reached p l s (outcome.Polled x y z) h q is fit kept stays e = e

reached_foreign : (p l : ℕ) (r : Record) (h : List Record) → IsAddressed r.outcome → is_of p r ≡ false → IsReached p l h → IsReached p l (r ∷ h)
reached_foreign p l r h low foreign before e older =
    let was : held p l h ≡ true = rw foreign at e in
    rw foreign
    (⊎_elim
    (λ (here : turns_on l r.outcome ≡ true).
    let turn = turned_line l r.outcome low here in
    rw turn.1 (later_new l (stamp p l h) (turns h + 1) turn.0 (late p (data_bank l) h) turn.2 (omega (arith, stamp_most p l h))))
    (λ (none : turns_on l r.outcome ≡ false).
    let less : stamp p l h < last_other p l h = rw none at (rw foreign at older) in
    later_other l (stamp p l h) (turns h + 1) (data_bank l) (line_of_turn r.outcome) (late p (data_bank l) h) (before was less))
    (cases_Bool (turns_on l r.outcome)))

-- the stamp after the line's bytes came from the bus is not below any turn
refreshed : (p l : ℕ) (r : Record) (h : List Record) → stamps p l r ≡ true → stamp p l (r ∷ h) < last_other p l (r ∷ h) → ⊥
refreshed p l r h s older = let now : stamp p l (r ∷ h) ≡ turns (r ∷ h) = rw s refl in omega (arith, last_other_most p l (r ∷ h))

reached_own : (p l : ℕ) (r : Record) (h : List Record) → FitsOutcome (cpu_number r.event.cpu) r.outcome h → is_of p r ≡ true → IsReached p l h → IsReached p l (r ∷ h)
reached_own p l r h fit own before e older =
    ⊎_elim
    (λ (new : stamps p l r ≡ true). absurd (refreshed p l r h new older))
    (λ (none : stamps p l r ≡ false).
    let parts = or_parts (fills l r.outcome) (locks l r.outcome || turns_on l r.outcome) (rw own at none) in
    let more = or_parts (locks l r.outcome) (turns_on l r.outcome) parts.1 in
    let kept : (held p l h && not (loses_copy l (stamp p l h) (late p (data_bank l) h) r)) ≡ true = rw more.0 at (rw parts.0 at (rw own at e)) in
    let both = and_parts (held p l h) (not (loses_copy l (stamp p l h) (late p (data_bank l) h) r)) kept in
    let lost = or_parts (drops l r.event.act) ((fences r.outcome && has_later l (stamp p l h) (late p (data_bank l) h)) || takes_away l (stamp p l h) r.outcome) (not-true (loses_copy l (stamp p l h) (late p (data_bank l) h) r) both.1) in
    let two = or_parts (fences r.outcome && has_later l (stamp p l h) (late p (data_bank l) h)) (takes_away l (stamp p l h) r.outcome) lost.1 in
    let same : stamp p l (r ∷ h) ≡ stamp p l h = rw none refl in
    let there : last_other p l (r ∷ h) ≡ last_other p l h = rw own refl in
    let less : stamp p l h < last_other p l h = omega (arith, same, there) in
    let its : FitsOutcome p r.outcome h = subst (λ q. FitsOutcome q r.outcome h) (eqb-true (cpu_number r.event.cpu) p own) fit in
    rw same (rw own (own_reached p l (stamp p l h) r.outcome h (late p (data_bank l) h) refl its two.0 two.1 (before both.0 less))))
    (cases_Bool (stamps p l r))

pub reached : (p l : ℕ) (h : List Record) → Fitting h → IsReached p l h
reached p l [] fit e older = cc
reached p l (r ∷ h) fit e older =
    ⊎_elim
    (λ (own : is_of p r ≡ true). reached_own p l r h fit.0 own (reached p l h fit.1) e older)
    (λ (foreign : is_of p r ≡ false). reached_foreign p l r h (fits_addressed (cpu_number r.event.cpu) r.outcome h fit.0) foreign (reached p l h fit.1) e older)
    (cases_Bool (is_of p r))

-- after an MB or IMB
pub none_late : (p : ℕ) (b : Bank) (r : Record) (h : List Record) → HasJustFenced p r → late p b (r ∷ h) ≡ []
none_late p b r h just = rw just.own (rw just.fence refl)

barrier_waits : (k : Kind) (p l : ℕ) (y : Bool) (at : Place) (h : List Record) (a : Access) → a.kind ≡ k → fences (outcome.Access a) ≡ true → Fits k p l y at h → (buffer_after (outcome.Access a) (buffer p h)).waiting ≡ []
barrier_waits kind.Barrier p l y at h a is fence fit = rw is fit.1
barrier_waits kind.CodeBarrier p l y at h a is fence fit = rw is fit.1
barrier_waits _ p l y at h a is fence fit = let never : false ≡ true = rw is at fence in cc

fence_waits : (p : ℕ) (o : Outcome) (h : List Record) → FitsOutcome p o h → fences o ≡ true → (buffer_after o (buffer p h)).waiting ≡ []
fence_waits p (outcome.Access a) h fit fence = barrier_waits a.kind p (line_of a.address) a.yes a.place h a refl fence fit.2
fence_waits p _ h fit fence = cc

pub none_waits : (p : ℕ) (r : Record) (h : List Record) → Fitting (r ∷ h) → HasJustFenced p r → (buffer p (r ∷ h)).waiting ≡ []
none_waits p r h fit just =
    let its : FitsOutcome p r.outcome h = subst (λ q. FitsOutcome q r.outcome h) (eqb-true (cpu_number r.event.cpu) p just.own) fit.0 in
    rw just.own (fence_waits p r.outcome h its just.fence)

pub none_older : (p l : ℕ) (r : Record) (h : List Record) → Fitting (r ∷ h) → HasJustFenced p r → held p l (r ∷ h) ≡ true → last_other p l (r ∷ h) ≤ stamp p l (r ∷ h)
none_older p l r h fit just e =
    ⊎_elim
    (λ (older : stamp p l (r ∷ h) < last_other p l (r ∷ h)).
    let late_one : has_later l (stamp p l (r ∷ h)) (late p (data_bank l) (r ∷ h)) ≡ true = reached p l (r ∷ h) fit e older in
    absurd (false≢true (ap (has_later l (stamp p l (r ∷ h))) (sym (none_late p (data_bank l) r h just)) ∙ late_one)))
    (λ (younger : last_other p l (r ∷ h) ≤ stamp p l (r ∷ h)). younger)
    (cases_lt (stamp p l (r ∷ h)) (last_other p l (r ∷ h)))
