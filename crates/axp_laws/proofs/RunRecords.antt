-- A legal record shows what is kept of it.
use Rattle.std.proofs.Common.{true, false, ℕ, ◌+◌, ◌%◌, ◌*◌, ◌^◌, ◌<◌, ◌≡◌, eqb, ltb, cond, Bool, not, List, [], ◌∷◌, ◌++◌, slice_get, Option, Some, None, refl, sym, subst, arith}
use Rattle.std.specs.List.{AllByRecursion}
use Rattle.std.proofs.lemmas.Bool.{cond_both, and_parts, not-true, lt-ltb}
use Rattle.axp_base.specs.Cpus.{cpu_number}
use Rattle.axp_base.proofs.LineLemmas.{line_by-number}
use Rattle.axp_base.specs.Lines.{line_number, data_bank, line_of, line_at, in_bank}
use Rattle.axp_base.specs.declared.lines.Bank.{Bank}
use Rattle.axp_base.specs.declared.lines.Bank.TheVariants.{Even, Odd, Code}
use Rattle.axp_base.specs.declared.lines.Line.{Line}
use Rattle.axp_base.specs.declared.lines.TheConstants.{LINE_BYTES}
use Rattle.axp_base.specs.declared.processors.Cpu.{Cpu}
use Rattle.axp_base.specs.LatePairs.{others, late_by_other}
use Rattle.axp_base.specs.Blocks.{is_allowed}
use Rattle.axp_regs.specs.declared.asks.Kind.{Kind}
use Rattle.axp_regs.specs.declared.asks.Kind.TheVariants as kind
use Rattle.axp_access.specs.declared.Act.{Act}
use Rattle.axp_access.specs.declared.Act.TheVariants as act
use Rattle.axp_access.specs.declared.Event.{Event}
use Rattle.axp_access.specs.declared.Outcome.{Outcome}
use Rattle.axp_access.specs.declared.Record.{Record}
use Rattle.axp_access.specs.declared.Wanted.{Wanted}
use Rattle.axp_model.specs.Records.{is_of, line_of_turn, fences}
use Rattle.axp_model.specs.Turns.{turns}
use Rattle.axp_model.specs.Entries.{Waiting, buffer, oldest, has_closed, has_line}
use Rattle.axp_model.specs.Locks.{lock}
use Rattle.axp_model.specs.Late.{late, late_by_own, takes_from}
use Rattle.axp_access.specs.declared.Intent.{Intent}
use Rattle.axp_model.specs.Legal.{legal, is_ready, is_enabled, is_legal_act, is_timely, since_step}
use Rattle.axp_base.specs.Lists.{is_empty}
use Rattle.axp_access.specs.Acts.{is_fill}
use Rattle.axp_model.specs.Outcomes.{step_outcome_by, outcome_by, outcome_of, drain_outcome, take_outcome, fill_outcome, IsRun}
use Rattle.axp_model.specs.Processors.{Processors, IsInLine, WantsInLine, AreInLine}
use Rattle.axp_laws.proofs.RunFacts.{FitsOutcome, Fitting}

-- the line of an address that has one
pub line_at-number : (a : ℕ) → a < 2 ^ 64 → line_number (line_at a) ≡ line_of a
line_at-number a less = line_by-number (line_of a) (ltb (line_of a * LINE_BYTES) (2 ^ 64)) refl (lt-ltb (line_of a * LINE_BYTES) (2 ^ 64) (omega arith))

-- a line is of the bank that it belongs to
pub bank_own : (l : ℕ) → in_bank (data_bank l) l ≡ true
bank_own l = bank_own_by l (eqb (l % 2) 0) refl where
  bank_own_by : (l : ℕ) (b : Bool) → eqb (l % 2) 0 ≡ b → in_bank (cond b Even Odd) l ≡ true
  bank_own_by l true e = e
  bank_own_by l false e = rw e refl

pub bank_of_line : (b : Bank) (l : ℕ) → in_bank b l ≡ true → data_bank l ≡ b
bank_of_line Even l e = rw e refl
bank_of_line Odd l e = rw (not-true (eqb (l % 2) 0) e) refl
bank_of_line Code l e = cc

-- late pairs of a bank are of its lines
abbrev pub InBank : Bank → Line × ℕ → Type 0
InBank b pair = in_bank b (line_number pair.0) ≡ true

others_in : (b : Bank) (q : List (Line × ℕ)) → AllByRecursion (InBank b) q → AllByRecursion (InBank b) (others q)
others_in b [] e = tt
others_in b (x ∷ q) e = e.1

pushed_in : (b : Bank) (x : Line × ℕ) (q : List (Line × ℕ)) → AllByRecursion (InBank b) q → InBank b x → AllByRecursion (InBank b) (q ++ x ∷ [])
pushed_in b x [] e i = (i, tt)
pushed_in b x (y ∷ q) e i = (e.0, pushed_in b x q e.1 i)

other_in : (b : Bank) (t : ℕ) (o : Option Line) (q : List (Line × ℕ)) → AllByRecursion (InBank b) q → AllByRecursion (InBank b) (late_by_other b o t q)
other_in b t None q e = e
other_in b t (Some l) q e = cond_both (in_bank b (line_number l)) (q ++ (l, t) ∷ []) q (λ z. AllByRecursion (InBank b) z) (λ i. pushed_in b (l, t) q e i) (λ _. e)

own_in : (b : Bank) (o : Outcome) (q : List (Line × ℕ)) → AllByRecursion (InBank b) q → AllByRecursion (InBank b) (late_by_own b o q)
own_in b o q e =
    cond_both (fences o) [] (cond (takes_from b o) (others q) q) (λ z. AllByRecursion (InBank b) z) (λ _. tt)
    (λ _. cond_both (takes_from b o) (others q) q (λ z. AllByRecursion (InBank b) z) (λ _. others_in b q e) (λ _. e))

pub late_in : (p : ℕ) (b : Bank) (h : List Record) → AllByRecursion (InBank b) (late p b h)
late_in p b [] = tt
late_in p b (r ∷ h) =
    cond_both (is_of p r) (late_by_own b r.outcome (late p b h)) (late_by_other b (line_of_turn r.outcome) (turns h + 1) (late p b h)) (λ z. AllByRecursion (InBank b) z)
    (λ _. own_in b r.outcome (late p b h) (late_in p b h)) (λ _. other_in b (turns h + 1) (line_of_turn r.outcome) (late p b h) (late_in p b h))

empty_is : {X : Type 0} (es : List X) → is_empty es ≡ true → es ≡ []
empty_is [] e = refl
empty_is (x ∷ es) e = cc

step_fits : (k : Kind) (image : ℕ → ℕ) (armed : Bool) (c : Cpu) (a s v : ℕ) (h : List Record) → IsInLine a s → is_ready k (line_of a) (cpu_number c) h ≡ true
    → FitsOutcome (cpu_number c) (step_outcome_by k image armed c (record { kind = k; address = a; size = s; value = v }) h) h
step_fits kind.Fetch image armed c a s v h i r = (refl, i, (refl, r), λ e. cc)
step_fits kind.Read image armed c a s v h i r = (refl, i, (refl, r), λ e. cc)
step_fits kind.Write image armed c a s v h i r = (refl, i, refl, λ e. cc)
step_fits kind.Locked image armed c a s v h i r =
    (refl, i, (refl, not-true (has_line (line_of a) (buffer (cpu_number c) h).waiting) (and_parts (not (has_line (line_of a) (buffer (cpu_number c) h).waiting)) _ r).0), λ e. cc)
step_fits kind.Conditional image armed c a s v h i r =
    let both = and_parts (not (has_line (line_of a) (buffer (cpu_number c) h).waiting)) (not (has_closed (buffer (cpu_number c) h).age (buffer (cpu_number c) h).waiting)) r in (
      refl,
      i,
      (refl, not-true (has_line (line_of a) (buffer (cpu_number c) h).waiting) both.0, not-true (has_closed (buffer (cpu_number c) h).age (buffer (cpu_number c) h).waiting) both.1),
      λ e. (and_parts armed (is_allowed a (lock (cpu_number c) h)) e).1,
    )
step_fits kind.Barrier image armed c a s v h i r = (refl, i, (refl, empty_is (buffer (cpu_number c) h).waiting r), λ e. cc)
step_fits kind.CodeBarrier image armed c a s v h i r = (refl, i, (refl, empty_is (buffer (cpu_number c) h).waiting r), λ e. cc)
step_fits kind.WriteBarrier image armed c a s v h i r = (refl, i, refl, λ e. cc)
step_fits kind.Signal image armed c a s v h i r = (refl, i, (refl, not-true (has_closed (buffer (cpu_number c) h).age (buffer (cpu_number c) h).waiting) r), λ e. cc)
step_fits kind.Console image armed c a s v h i r = (refl, i, refl, λ e. cc)
step_fits kind.Poll image armed c a s v h i r = cc

drain_fits : (k p : ℕ) (h : List Record) (o : Option Waiting) → slice_get (oldest (buffer p h).waiting) k ≡ o → FitsOutcome p (drain_outcome o h) h
drain_fits k p h None e = tt
drain_fits k p h (Some w) e = (refl, (k, w, e, refl, refl))

take_fits : (p : ℕ) (b : Bank) (h : List Record) (q : List (Line × ℕ)) → late p b h ≡ q → AllByRecursion (InBank b) q → FitsOutcome p (take_outcome p q h) h
take_fits p b h [] is e = tt
take_fits p b h ((line, turn) ∷ q) is e = (q, rw (bank_of_line b (line_number line) e.0) is)

fill_fits : (p : ℕ) (o : Option Wanted) (h : List Record) → FitsOutcome p (fill_outcome o h) h
fill_fits p None h = tt
fill_fits p (Some a) h = tt

by_fits : (a : Act) (image : ℕ → ℕ) (i : Intent) (o : Option Wanted) (c : Cpu) (h : List Record) → i.wanted ≡ o → WantsInLine o → is_enabled a i (cpu_number c) h ≡ true
    → FitsOutcome (cpu_number c) (outcome_by a image i c h) h
by_fits act.Step image i None c h is inside e = rw is tt
by_fits act.Step image i (Some w) c h is inside e = rw is (step_fits w.kind image i.lock_flag c w.address w.size w.value h inside (rw is at e))
by_fits act.Fill image i o c h is inside e = fill_fits (cpu_number c) i.wanted h
by_fits (act.Drain k) image i o c h is inside e = drain_fits k (cpu_number c) h (slice_get (oldest (buffer (cpu_number c) h).waiting) k) refl
by_fits (act.Take b) image i o c h is inside e = take_fits (cpu_number c) b h (late (cpu_number c) b h) refl (late_in (cpu_number c) b h)
by_fits (act.Drop b l) image i o c h is inside e = tt
by_fits act.Poll image i o c h is inside e = (refl, refl)
by_fits act.Tick image i o c h is inside e = tt

fits : (image : ℕ → ℕ) (i : Intent) (h : List Record) (e : Event) → WantsInLine i.wanted → is_legal_act e.act i (cpu_number e.cpu) h ≡ true → FitsOutcome (cpu_number e.cpu) (outcome_by e.act image i e.cpu h) h
fits image i h e inside l =
    by_fits e.act image i i.wanted e.cpu h refl inside (and_parts (is_enabled e.act i (cpu_number e.cpu) h) (is_timely e.act i.finished (since_step is_fill (cpu_number e.cpu) h)) l).0

-- a legal event is of a processor that there is, and its act may be made
pub legal_parts : (ps : Processors) (h : List Record) (e : Event) → legal ps h e ≡ true → (ltb (cpu_number e.cpu) ps.count ≡ true) × (is_legal_act e.act (ps.intent (cpu_number e.cpu) h) (cpu_number e.cpu) h ≡ true)
unfolding legal
legal_parts ps h e l = and_parts (ltb (cpu_number e.cpu) ps.count) (is_legal_act e.act (ps.intent (cpu_number e.cpu) h) (cpu_number e.cpu) h) l

-- the records of a run fit
pub run_fits : (image : ℕ → ℕ) (ps : Processors) (h : List Record) → AreInLine ps → IsRun image ps h → Fitting h
unfolding outcome_of
run_fits image ps [] inside run = tt
run_fits image ps (r ∷ h) inside run =
    (subst (λ o. FitsOutcome (cpu_number r.event.cpu) o h) (sym run.1) (fits image (ps.intent (cpu_number r.event.cpu) h) h r.event (inside (cpu_number r.event.cpu) h) (legal_parts ps h r.event run.0).1), run_fits image ps h inside run.2)
