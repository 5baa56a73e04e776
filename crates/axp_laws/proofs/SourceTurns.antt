-- The turn at which a memory write stands is a turn of its processor on its line: what holds of these turns
-- holds of the places of all memory writes.
use Rattle.std.proofs.Common.{true, false, ℕ, ◌+◌, ◌≡◌, ⊎_elim, Bool, ◌&&◌, List, [], ◌∷◌, Option, Some, None, refl, sym, ◌∙◌, subst}
use Rattle.std.specs.List.{AllByRecursion}
use Rattle.std.proofs.lemmas.Bool.{cases_Bool, and_parts, eqb-true, eq-eqb, false≢true}
use Rattle.axp_base.specs.declared.processors.Cpu.{Cpu}
use Rattle.axp_regs.specs.declared.asks.Kind.{Kind}
use Rattle.axp_regs.specs.declared.asks.Kind.TheVariants as kind
use Rattle.axp_access.specs.declared.Event.{Event}
use Rattle.axp_access.specs.declared.Outcome.{Outcome}
use Rattle.axp_access.specs.declared.Outcome.TheVariants as outcome
use Rattle.axp_access.specs.declared.Place.{Place}
use Rattle.axp_access.specs.declared.Place.TheVariants.{At, Entry, Absent}
use Rattle.axp_access.specs.declared.Record.{Record}
use Rattle.axp_model.specs.Records.{is_of, turns_on, drains}
use Rattle.axp_access.specs.Kinds.{is_memory_write}
use Rattle.axp_base.specs.Lines.{line_of}
use Rattle.axp_model.specs.Turns.{turns, drained}
use Rattle.axp_model.specs.Entries.{Waiting, buffer, least_age}
use Rattle.axp_model.specs.Accesses.{accesses, times}
use Rattle.axp_access.specs.Numbering.{NumberedAccess, cpu_of}
use Rattle.axp_access.specs.Order.{Spot, spot, spot_at}
use Rattle.axp_laws.proofs.RunFacts.{Fits, FitsOutcome, Fitting, Named, waits, Known, KnownItem, RunFacts}
use Rattle.axp_laws.proofs.OrderCases.{acc}
use Rattle.axp_laws.proofs.RunKnown.{waits_has}
use Rattle.axp_laws.proofs.OrderDrains.{of_age_waits}
use Rattle.axp_laws.proofs.RunSteps.{turn_same, kept, fresh_at}

-- a statement on turns that later records leave, and that holds of each new turn of processor q on line l
pub record Settles (q l : ℕ) (Q : ℕ → List Record → Type 0) : Type 0 where
  pub stays : (t : ℕ) (r : Record) (h : List Record) → Q t h → Q t (r ∷ h)
  pub comes : (r : Record) (h : List Record) → is_of q r ≡ true → turns_on l r.outcome ≡ true → Q (turns h + 1) (r ∷ h)

-- a statement holds of a spot that is a number
abbrev pub OnPlace : (ℕ → Type 0) → Spot → Type 0
OnPlace P s = s.last ≡ false → P s.place

-- it holds of where u stands, if u is a memory write of q in line l
abbrev pub Settled : ℕ → ℕ → (ℕ → List Record → Type 0) → List Record → NumberedAccess → Type 0
Settled q l Q h u = is_memory_write u.access ≡ true → cpu_of u ≡ q → line_of u.access.address ≡ l → OnPlace (λ t. Q t h) (spot (times h) q u.access.place)

-- what a drain names is the entry of the write, and of its line
pub named_line : (q n m l g : ℕ) (h : List Record) → Named n m (buffer q h).waiting → RunFacts h → (drained h q n ≡ None → waits n l g (buffer q h).waiting ≡ true) → m ≡ l
named_line q n m l g h named kept goes =
    let es : List Waiting = (buffer q h).waiting in
    let found : waits n named.1.line.number (least_age es) es ≡ true = rw named.3 at (of_age_waits (least_age es) named.0 named.1 es named.2) in
    let none : drained h q n ≡ None = ((kept.sound q).waiting n (waits_has n named.1.line.number (least_age es) es found)).0 in
    sym named.4 ∙ ((kept.sound q).single n named.1.line.number (least_age es) l g found (goes none)).0

-- the line of a drain that names the entry of a write
drain_line : (o : Outcome) (q n l g : ℕ) (h : List Record) → FitsOutcome q o h → RunFacts h → drains n o ≡ true → (drained h q n ≡ None → waits n l g (buffer q h).waiting ≡ true) → turns_on l o ≡ true
drain_line (outcome.Drained m line turn) q n l g h fit kept d goes =
    let same : m ≡ n = eqb-true m n d in
    eq-eqb line.number l (named_line q m line.number l g h fit.1 kept (rw same goes))
drain_line (outcome.Access a) q n l g h fit kept d goes = cc
drain_line outcome.NoAccess q n l g h fit kept d goes = cc
drain_line (outcome.Filled x y z) q n l g h fit kept d goes = cc
drain_line (outcome.Taken x y z) q n l g h fit kept d goes = cc
drain_line outcome.Done q n l g h fit kept d goes = cc
drain_line (outcome.Polled x y z) q n l g h fit kept d goes = cc

-- an entry that is drained was drained before, or is now
drained_entry : (q l n g : ℕ) (Q : ℕ → List Record → Type 0) (s : Settles q l Q) (r : Record) (h : List Record) → FitsOutcome r.event.cpu.number r.outcome h → RunFacts h
    → (drained h q n ≡ None → waits n l g (buffer q h).waiting ≡ true) → OnPlace (λ t. Q t h) (spot_at (drained h q n)) → OnPlace (λ t. Q t (r ∷ h)) (spot_at (drained (r ∷ h) q n))
drained_entry q l n g Q s r h fit kept goes was =
    ⊎_elim
    (λ (now : (is_of q r && drains n r.outcome) ≡ true).
    let both = and_parts (is_of q r) (drains n r.outcome) now in
    let who : r.event.cpu.number ≡ q = eqb-true r.event.cpu.number q both.0 in
    let its : FitsOutcome q r.outcome h = subst (λ p. FitsOutcome p r.outcome h) who fit in
    rw now (λ e. s.comes r h both.0 (drain_line r.outcome q n l g h its kept both.1 goes)))
    (λ (other : (is_of q r && drains n r.outcome) ≡ false). rw other (by_option (drained h q n) was))
    (cases_Bool (is_of q r && drains n r.outcome)) where
      by_option : (o : Option ℕ) → OnPlace (λ t. Q t h) (spot_at o) → OnPlace (λ t. Q t (r ∷ h)) (spot_at o)
      by_option None old e = absurd (false≢true (sym e))
      by_option (Some t) old e = s.stays t r h (old refl)

-- an earlier write
old_place : (k : Kind) (q l g : ℕ) (at : Place) (Q : ℕ → List Record → Type 0) (s : Settles q l Q) (r : Record) (h : List Record) → FitsOutcome r.event.cpu.number r.outcome h → RunFacts h
    → Known k q l g at h → OnPlace (λ t. Q t h) (spot (times h) q at) → OnPlace (λ t. Q t (r ∷ h)) (spot (times (r ∷ h)) q at)
old_place k q l g (At t) Q s r h fit kept known was = λ e. s.stays t r h (was refl)
old_place kind.Write q l g (Entry n) Q s r h fit kept known was = drained_entry q l n g Q s r h fit kept known was
old_place kind.WriteBarrier q l g (Entry n) Q s r h fit kept known was = cc
old_place kind.CodeBarrier q l g (Entry n) Q s r h fit kept known was = absurd known.0
old_place k q l g (Entry n) Q s r h fit kept known was = absurd known
old_place k q l g Absent Q s r h fit kept known was = λ e. s.stays 0 r h (was refl)

old_settled : (q l : ℕ) (Q : ℕ → List Record → Type 0) (s : Settles q l Q) (r : Record) (h : List Record) → FitsOutcome r.event.cpu.number r.outcome h → RunFacts h → (us : List NumberedAccess)
    → AllByRecursion (KnownItem h) us → AllByRecursion (Settled q l Q h) us → AllByRecursion (Settled q l Q (r ∷ h)) us
old_settled q l Q s r h fit kept [] known was = tt
old_settled q l Q s r h fit kept (u ∷ us) known was = (
  λ w who line. old_place u.access.kind q l u.parts u.access.place Q s r h fit kept (subst (λ n. Known u.access.kind q n u.parts u.access.place h) line (subst (λ p. Known u.access.kind p (line_of u.access.address) u.parts u.access.place h) who known.0.known)) (was.0 w who line),
  old_settled q l Q s r h fit kept us known.1 was.1,
)

-- a new one: a store-conditional is the new turn, a plain write waits
new_place : (k : Kind) (c : Cpu) (a z x q l : ℕ) (y : Bool) (at : Place) (Q : ℕ → List Record → Type 0) (s : Settles q l Q) (e : Event) (h : List Record) → is_of q (record { event = e; outcome = outcome.Access (acc c k a z x y at) }) ≡ true
    → Fits k q (line_of a) y at h → (k ≡ kind.Write → (n : ℕ) → at ≡ Entry n → drained h q n ≡ None) → is_memory_write (acc c k a z x y at) ≡ true → line_of a ≡ l
    → OnPlace (λ t. Q t (record { event = e; outcome = outcome.Access (acc c k a z x y at) } ∷ h)) (spot (times (record { event = e; outcome = outcome.Access (acc c k a z x y at) } ∷ h)) q at)
new_place kind.Write c a z x q l y (Entry n) Q s e h own fit fresh w line =
    let r : Record = record { event = e; outcome = outcome.Access (acc c kind.Write a z x y (Entry n)) } in
    let none : drained (r ∷ h) q n ≡ None = turn_same r h (λ m. refl) q n ∙ fresh refl n refl in
    rw none (λ e. absurd (false≢true (sym e)))
new_place kind.Write c a z x q l y (At t) Q s e h own fit fresh w line = cc
new_place kind.Write c a z x q l y Absent Q s e h own fit fresh w line = cc
new_place kind.Conditional c a z x q l true at Q s e h own fit fresh w line =
    let r : Record = record { event = e; outcome = outcome.Access (acc c kind.Conditional a z x true at) } in
    rw fit.0 (λ _. subst (λ p. Q (turns h + 1) (record { event = e; outcome = outcome.Access (acc c kind.Conditional a z x true p) } ∷ h)) fit.0 (s.comes r h own (eq-eqb (line_of a) l line)))
new_place kind.Conditional c a z x q l false at Q s e h own fit fresh w line = absurd (false≢true w)
new_place _ c a z x q l y at Q s e h own fit fresh w line = absurd (false≢true w)

settled_by : (q l : ℕ) (Q : ℕ → List Record → Type 0) (s : Settles q l Q) (e : Event) (o : Outcome) (h : List Record) → FitsOutcome e.cpu.number o h → RunFacts h
    → AllByRecursion (Settled q l Q h) (accesses h) → AllByRecursion (Settled q l Q (record { event = e; outcome = o } ∷ h)) (accesses (record { event = e; outcome = o } ∷ h))
settled_by q l Q s e (outcome.Access a) h fit kept was = (
  λ w who line.
      let own : e.cpu.number ≡ q = sym fit.0 ∙ who in
      new_place a.kind a.cpu a.address a.size a.value q l a.yes a.place Q s e h (eq-eqb e.cpu.number q own) (subst (λ p. Fits a.kind p (line_of a.address) a.yes a.place h) own fit.2)
      (λ k n at. subst (λ p. drained h p n ≡ None) who (fresh_at h e a fit.0 fit.2 kept k n at)) w line,
  old_settled q l Q s (record { event = e; outcome = outcome.Access a }) h fit kept (accesses h) kept.items was,
)
settled_by q l Q s e (outcome.Polled v x t) h fit kept was =
    (λ w who line. absurd (false≢true w), old_settled q l Q s (record { event = e; outcome = outcome.Polled v x t }) h fit kept (accesses h) kept.items was)
settled_by q l Q s e outcome.NoAccess h fit kept was = old_settled q l Q s (record { event = e; outcome = outcome.NoAccess }) h fit kept (accesses h) kept.items was
settled_by q l Q s e (outcome.Filled x y z) h fit kept was = old_settled q l Q s (record { event = e; outcome = outcome.Filled x y z }) h fit kept (accesses h) kept.items was
settled_by q l Q s e (outcome.Drained x y z) h fit kept was = old_settled q l Q s (record { event = e; outcome = outcome.Drained x y z }) h fit kept (accesses h) kept.items was
settled_by q l Q s e (outcome.Taken x y z) h fit kept was = old_settled q l Q s (record { event = e; outcome = outcome.Taken x y z }) h fit kept (accesses h) kept.items was
settled_by q l Q s e outcome.Done h fit kept was = old_settled q l Q s (record { event = e; outcome = outcome.Done }) h fit kept (accesses h) kept.items was

-- it holds of the places of all memory writes of q in line l
pub settled : (q l : ℕ) (Q : ℕ → List Record → Type 0) → Settles q l Q → (h : List Record) → Fitting h → AllByRecursion (Settled q l Q h) (accesses h)
settled q l Q s [] fit = tt
settled q l Q s (r ∷ h) fit = settled_by q l Q s r.event r.outcome h fit.0 (kept h fit.1) (settled q l Q s h fit.1)
