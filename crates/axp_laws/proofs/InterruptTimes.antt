-- Interrupts are taken between two groups of accesses.
use Rattle.std.proofs.Common.{◌≡◌, ℕ, Bool, true, false, not, ◌&&◌, ◌||◌, List, [], ◌∷◌, ◌++◌, Option, Some, None, refl, sym, ap, ◌∙◌}
use Rattle.std.specs.Prelude.{nat_lt, slice_get}
use Rattle.std.proofs.lemmas.Bool.{and_parts, not-true}
use Rattle.axp_access.specs.Acts.{is_fill, is_poll_act, is_tick}
use Rattle.axp_access.specs.declared.Act.{Act}
use Rattle.axp_access.specs.declared.Act.TheVariants as act
use Rattle.axp_access.specs.declared.Intent.{Intent}
use Rattle.axp_access.specs.declared.Record.{Record}
use Rattle.axp_access.specs.declared.Wanted.{Wanted}
use Rattle.axp_base.specs.Cpus.{cpu_number}
use Rattle.axp_base.specs.declared.lines.Line.{Line}
use Rattle.axp_base.specs.declared.processors.Cpu.{Cpu}
use Rattle.axp_model.specs.Entries.{Waiting, buffer, oldest}
use Rattle.axp_model.specs.Interrupts.{TakesInterrupt, is_interrupt}
use Rattle.axp_model.specs.Late.{late}
use Rattle.axp_model.specs.Legal.{is_enabled, is_legal_act, is_timely, legal, since_step}
use Rattle.axp_model.specs.Locks.{is_signalled}
use Rattle.axp_model.specs.Outcomes.{IsRun, drain_outcome, fill_outcome, outcome_by, outcome_of, step_outcome, step_outcome_by, take_outcome}
use Rattle.axp_model.specs.Processors.{Processors}
use Rattle.axp_model.specs.Records.{enters}
use Rattle.axp_regs.specs.declared.asks.Kind.{Kind}
use Rattle.axp_regs.specs.declared.asks.Kind.TheVariants as kind
use Rattle.axp_laws.proofs.OrderPlaces.{run_prefix}

-- only a Poll enters
step_by_enters : (k : Kind) (image : ℕ → ℕ) (armed : Bool) (c : Cpu) (w : Wanted) (h : List Record) → enters (step_outcome_by k image armed c w h) ≡ false
step_by_enters kind.Fetch image armed c w h = refl
step_by_enters _ image armed c w h = refl

step_enters : (image : ℕ → ℕ) (armed : Bool) (c : Cpu) (o : Option Wanted) (h : List Record) → enters (step_outcome image armed c o h) ≡ false
step_enters image armed c None h = refl
step_enters image armed c (Some w) h = step_by_enters w.kind image armed c w h

fill_enters : (o : Option Wanted) (h : List Record) → enters (fill_outcome o h) ≡ false
fill_enters None h = refl
fill_enters (Some w) h = refl

drain_enters : (o : Option Waiting) (h : List Record) → enters (drain_outcome o h) ≡ false
drain_enters None h = refl
drain_enters (Some e) h = refl

take_enters : (p : ℕ) (pairs : List (Line × ℕ)) (h : List Record) → enters (take_outcome p pairs h) ≡ false
take_enters p [] h = refl
take_enters p ((line, turn) ∷ pairs) h = refl

never : (b : Bool) (A : Type 0) → b ≡ false → b ≡ true → A
never true A is_not is = cc
never false A is_not is = cc

-- what allows an act that begins an interrupt
begins : (a : Act) (image : ℕ → ℕ) (i : Intent) (c : Cpu) (h : List Record) → is_enabled a i (cpu_number c) h ≡ true → (is_tick a || enters (outcome_by a image i c h)) ≡ true → (i.boundary ≡ true) × (i.takes_interrupts ≡ true)
begins act.Tick image i c h able is =
    let parts = and_parts i.boundary (i.takes_interrupts && not (since_step is_tick (cpu_number c) h)) able in
    (parts.0, (and_parts i.takes_interrupts (not (since_step is_tick (cpu_number c) h)) parts.1).0)
begins act.Poll image i c h able is =
    ((and_parts i.boundary (not (since_step is_poll_act (cpu_number c) h)) able).0, (and_parts (is_signalled (cpu_number c) h) i.takes_interrupts is).1)
begins act.Step image i c h able is = never (enters (step_outcome image i.lock_flag c i.wanted h)) _ (step_enters image i.lock_flag c i.wanted h) is
begins act.Fill image i c h able is = never (enters (fill_outcome i.wanted h)) _ (fill_enters i.wanted h) is
begins (act.Drain k) image i c h able is = never (enters (drain_outcome (slice_get (oldest (buffer (cpu_number c) h).waiting) k) h)) _ (drain_enters (slice_get (oldest (buffer (cpu_number c) h).waiting) k) h) is
begins (act.Take b) image i c h able is = never (enters (take_outcome (cpu_number c) (late (cpu_number c) b h) h)) _ (take_enters (cpu_number c) (late (cpu_number c) b h) h) is
begins (act.Drop b line) image i c h able is = cc

-- and the processor goes on: only a Drain is an act of a finished one
goes_on : (a : Act) (image : ℕ → ℕ) (i : Intent) (c : Cpu) (h : List Record) (filled : Bool) → is_timely a i.finished filled ≡ true → (is_tick a || enters (outcome_by a image i c h)) ≡ true → i.finished ≡ false
goes_on act.Step image i c h filled timely is = not-true i.finished timely
goes_on (act.Drain k) image i c h filled timely is = never (enters (drain_outcome (slice_get (oldest (buffer (cpu_number c) h).waiting) k) h)) _ (drain_enters (slice_get (oldest (buffer (cpu_number c) h).waiting) k) h) is
goes_on _ image i c h filled timely is = not-true i.finished (and_parts (not i.finished) (not filled) timely).0

legal_taken : (image : ℕ → ℕ) (ps : Processors) (r : Record) (h : List Record) → IsRun image ps (r ∷ h) → is_interrupt r ≡ true → TakesInterrupt (ps.intent (cpu_number r.event.cpu) h)
unfolding legal outcome_of
legal_taken image ps r h run is =
    let p : ℕ = cpu_number r.event.cpu in
    let i : Intent = ps.intent p h in
    let legal_act = (and_parts (nat_lt p ps.count) (is_legal_act r.event.act i p h) run.0).1 in
    let parts = and_parts (is_enabled r.event.act i p h) (is_timely r.event.act i.finished (since_step is_fill p h)) legal_act in
    let shown : (is_tick r.event.act || enters (outcome_by r.event.act image i r.event.cpu h)) ≡ true = ap (λ o. is_tick r.event.act || enters o) (sym run.1) ∙ is in
    let both = begins r.event.act image i r.event.cpu h parts.0 shown in
    record { going = goes_on r.event.act image i r.event.cpu h (since_step is_fill p h) parts.1 shown; boundary = both.0; low = both.1 }

pub taken_between : (image : ℕ → ℕ) (ps : Processors) (later : List Record) (r : Record) (h : List Record) → IsRun image ps (later ++ r ∷ h) → is_interrupt r ≡ true → TakesInterrupt (ps.intent (cpu_number r.event.cpu) h)
taken_between image ps later r h run is = legal_taken image ps r h (run_prefix image ps later (r ∷ h) run) is
