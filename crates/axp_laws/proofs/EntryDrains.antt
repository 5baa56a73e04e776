-- The turns of drains.
use Rattle.std.proofs.Common.{true, false, ℕ, ◌+◌, ◌<◌, ◌≤◌, ◌≡◌, ◌↔◌, ⊎_elim, ◌&&◌, List, [], ◌∷◌, ◌++◌, Some, None, refl, sym, ap, ◌∙◌, subst, arith}
use Rattle.std.proofs.lemmas.Bool.{cases_Bool, and_parts, eqb-true, eq-eqb, false≢true}
use Rattle.axp_access.specs.declared.Event.{Event}
use Rattle.axp_access.specs.declared.Outcome.{Outcome}
use Rattle.axp_access.specs.declared.Outcome.TheVariants as outcome
use Rattle.axp_access.specs.declared.Record.{Record}
use Rattle.axp_model.specs.Records.{is_of, drains}
use Rattle.axp_model.specs.Turns.{turns, drained}
use Rattle.axp_model.specs.Entries.{Waiting, buffer, least_age, has_number}
use Rattle.axp_model.specs.Processors.{AreInLine, Processors}
use Rattle.axp_model.specs.Outcomes.{IsRun}
use Rattle.axp_laws.specs.EntryLaws.{WasDrained}
use Rattle.axp_laws.proofs.RunFacts.{FitsOutcome, Fitting, Named, RunFacts}
use Rattle.axp_laws.proofs.RunRecords.{run_fits}
use Rattle.axp_laws.proofs.OrderCounts.{turns_grow, AtMostO, drained_most}
use Rattle.axp_laws.proofs.RunKnown.{waits_has}
use Rattle.axp_laws.proofs.RunSteps.{kept}
use Rattle.axp_laws.proofs.OrderDrains.{of_age_waits}

-- an earlier drain
drained_before : (p n turn : ℕ) (r : Record) (h : List Record) → WasDrained h p n turn → WasDrained (r ∷ h) p n turn
drained_before p n turn r h was = record { later = r ∷ was.later; event = was.event; line = was.line; earlier = was.earlier; split = ap (λ g. r ∷ g) was.split; own = was.own; next = was.next }

-- a drain by the newest record
drained_now : (p n turn : ℕ) (e : Event) (o : Outcome) (h : List Record) → FitsOutcome e.cpu.number o h → e.cpu.number ≡ p → drains n o ≡ true → turns h + 1 ≡ turn → WasDrained (record { event = e; outcome = o } ∷ h) p n turn
drained_now p n turn e (outcome.Drained m l t) h fit own named at =
    record {
      later = [];
      event = e;
      line = l;
      earlier = h;
      split = ap (λ (o : Outcome). record { event = e; outcome = o } ∷ h) (ap (λ k. outcome.Drained k l t) (eqb-true m n named) ∙ ap (λ k. outcome.Drained n l k) (fit.0 ∙ at));
      own = own;
      next = sym at;
    }
drained_now p n turn e (outcome.Access a) h fit own named at = absurd (false≢true named)
drained_now p n turn e outcome.NoAccess h fit own named at = absurd (false≢true named)
drained_now p n turn e (outcome.Filled x y z) h fit own named at = absurd (false≢true named)
drained_now p n turn e (outcome.Taken x y z) h fit own named at = absurd (false≢true named)
drained_now p n turn e outcome.Done h fit own named at = absurd (false≢true named)
drained_now p n turn e (outcome.Polled x y z) h fit own named at = absurd (false≢true named)

turn_of : (m n : ℕ) → Some m ≡ Some n → m ≡ n
turn_of m n e = cc

was_drained : (p n turn : ℕ) (h : List Record) → Fitting h → drained h p n ≡ Some turn → WasDrained h p n turn
was_drained p n turn [] fit at = cc
was_drained p n turn (r ∷ h) fit at =
    ⊎_elim
    (λ (here : (is_of p r && drains n r.outcome) ≡ true).
    let both = and_parts (is_of p r) (drains n r.outcome) here in
    drained_now p n turn r.event r.outcome h fit.0 (eqb-true r.event.cpu.number p both.0) both.1 (turn_of (turns h + 1) turn (rw here at at)))
    (λ (other : (is_of p r && drains n r.outcome) ≡ false). drained_before p n turn r h (was_drained p n turn h fit.1 (rw other at at)))
    (cases_Bool (is_of p r && drains n r.outcome))

-- what is drained was not before
named_none : (p n : ℕ) (e : Event) (o : Outcome) (h : List Record) → FitsOutcome e.cpu.number o h → RunFacts h → e.cpu.number ≡ p → drains n o ≡ true → drained h p n ≡ None
named_none p n e (outcome.Drained m l t) h fit kept own named =
    let named_ : Named m l.number (buffer e.cpu.number h).waiting = fit.1 in
    let es : List Waiting = (buffer e.cpu.number h).waiting in
    let found = waits_has named_.1.number named_.1.line.number (least_age es) es (of_age_waits (least_age es) named_.0 named_.1 es named_.2) in
    let number : named_.1.number ≡ n = named_.3 ∙ eqb-true m n named in
    let has : has_number n (buffer e.cpu.number h).waiting ≡ true = rw (← number) found in
    rw (← own) ((kept.sound e.cpu.number).waiting n has).0
named_none p n e (outcome.Access a) h fit kept own named = absurd (false≢true named)
named_none p n e outcome.NoAccess h fit kept own named = absurd (false≢true named)
named_none p n e (outcome.Filled x y z) h fit kept own named = absurd (false≢true named)
named_none p n e (outcome.Taken x y z) h fit kept own named = absurd (false≢true named)
named_none p n e outcome.Done h fit kept own named = absurd (false≢true named)
named_none p n e (outcome.Polled x y z) h fit kept own named = absurd (false≢true named)

-- so the turn stays
turn_stays_one : (p n turn : ℕ) (r : Record) (h : List Record) → Fitting (r ∷ h) → drained h p n ≡ Some turn → drained (r ∷ h) p n ≡ Some turn
turn_stays_one p n turn r h fit at =
    ⊎_elim
    (λ (here : (is_of p r && drains n r.outcome) ≡ true).
    let both = and_parts (is_of p r) (drains n r.outcome) here in
    let none = named_none p n r.event r.outcome h fit.0 (kept h fit.1) (eqb-true r.event.cpu.number p both.0) both.1 in
    let never : None ≡ Some turn = sym none ∙ at in
    cc)
    (λ (other : (is_of p r && drains n r.outcome) ≡ false). rw other at)
    (cases_Bool (is_of p r && drains n r.outcome))

turn_stays : (p n turn : ℕ) (later h : List Record) → Fitting (later ++ h) → drained h p n ≡ Some turn → drained (later ++ h) p n ≡ Some turn
turn_stays p n turn [] h fit at = at
turn_stays p n turn (r ∷ later) h fit at = turn_stays_one p n turn r (later ++ h) fit (turn_stays p n turn later h fit.1 at)

drained_at : (p n turn : ℕ) (h : List Record) → Fitting h → WasDrained h p n turn → drained h p n ≡ Some turn
drained_at p n turn h fit was =
    let r : Record = record { event = was.event; outcome = outcome.Drained n was.line turn } in
    let here : drained (r ∷ was.earlier) p n ≡ Some turn = rw (eq-eqb was.event.cpu.number p was.own, eq-eqb n n refl) (ap (λ k. Some k) (sym was.next)) in
    subst (λ g. drained g p n ≡ Some turn) (sym was.split) (turn_stays p n turn was.later (r ∷ was.earlier) (subst (λ g. Fitting g) was.split fit) here)

pub turn_exactly : (image : ℕ → ℕ) (ps : Processors) (h : List Record) → AreInLine ps → IsRun image ps h → (p n turn : ℕ) → (drained h p n ≡ Some turn) ↔ WasDrained h p n turn
turn_exactly image ps h inside run p n turn =
    let fit = run_fits image ps h inside run in
    (λ at. was_drained p n turn h fit at, λ was. drained_at p n turn h fit was)

pub turn_kept : (image : ℕ → ℕ) (ps : Processors) (later h : List Record) → AreInLine ps → IsRun image ps (later ++ h) → (p n turn : ℕ) → drained h p n ≡ Some turn → drained (later ++ h) p n ≡ Some turn
turn_kept image ps later h inside run p n turn at = turn_stays p n turn later h (run_fits image ps (later ++ h) inside run) at

pub turn_most : (h : List Record) (p n turn : ℕ) → drained h p n ≡ Some turn → turn ≤ turns h
turn_most h p n turn at = subst (λ o. AtMostO (turns h) o) at (drained_most p n h)

turns_grow_on : (later h : List Record) → turns h ≤ turns (later ++ h)
turns_grow_on [] h = omega arith
turns_grow_on (r ∷ later) h = omega (arith, turns_grow_on later h, turns_grow r (later ++ h))

pub turn_later : (later h : List Record) (p n turn : ℕ) → drained h p n ≡ None → drained (later ++ h) p n ≡ Some turn → turns h < turn
turn_later [] h p n turn none at = let never : None ≡ Some turn = sym none ∙ at in cc
turn_later (r ∷ later) h p n turn none at =
    ⊎_elim
    (λ (here : (is_of p r && drains n r.outcome) ≡ true).
    let is = turn_of (turns (later ++ h) + 1) turn (rw here at at) in
    omega (arith, is, turns_grow_on later h))
    (λ (other : (is_of p r && drains n r.outcome) ≡ false). turn_later later h p n turn none (rw other at at))
    (cases_Bool (is_of p r && drains n r.outcome))
