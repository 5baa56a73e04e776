-- How far entries have come: which were written, which wait, which are drained.
use Rattle.std.proofs.Common.{true, false, ℕ, ◌+◌, ◌<◌, ◌≤◌, ◌≡◌, ◌↔◌, ⊎_elim, eqb, cond, Bool, ◌&&◌, ◌||◌, List, [], ◌∷◌, Option, Some, None, refl, sym, ap, ◌∙◌, subst, arith}
use Rattle.std.specs.Prelude.{is_some, nat_lt, nat_le}
use Rattle.std.proofs.lemmas.Bool.{cases_Bool, cases_lt, and_from, and_parts, or_cases, or_left, or_right, eqb-true, eq-eqb, le-leb, leb-true, lt-ltb, ltb-true, false≢true}
use Rattle.axp_access.specs.declared.Outcome.{Outcome}
use Rattle.axp_access.specs.declared.Outcome.TheVariants as outcome
use Rattle.axp_access.specs.declared.Place.{Place}
use Rattle.axp_access.specs.declared.Record.{Record}
use Rattle.axp_access.specs.declared.entry_states.EntryState.{EntryState}
use Rattle.axp_access.specs.declared.entry_states.EntryState.TheVariants as entry
use Rattle.axp_access.specs.Kinds.{is_plain_write}
use Rattle.axp_base.specs.Lines.{line_of}
use Rattle.axp_regs.specs.declared.asks.Kind.{Kind}
use Rattle.axp_regs.specs.declared.asks.Kind.TheVariants as kind
use Rattle.axp_model.specs.Entries.{Waiting, Buffer, buffer, buffer_after, entry_for, entry_joined, entry_or, has_number, least_age, one_if_none}
use Rattle.axp_model.specs.EntryStates.{entry_state, is_drained, is_entry, is_written, writes_entry}
use Rattle.axp_model.specs.Records.{drains, is_of}
use Rattle.axp_model.specs.Turns.{drained}
use Rattle.axp_laws.specs.EntryLaws.{IsNumbered}
use Rattle.axp_laws.proofs.EntryGroups.{has_counted, remains}
use Rattle.axp_laws.proofs.OrderDrains.{of_age_waits}
use Rattle.axp_laws.proofs.RunFacts.{Fits, FitsOutcome, Fitting, Named, SoundBuffer}
use Rattle.axp_laws.proofs.RunKnown.{joins_waits, waits_has}
use Rattle.axp_laws.proofs.RunSteps.{fresh_entry, kept}

-- an access that fits stands at an entry where it is a plain write
entry_shown : (k : Kind) (p l n : ℕ) (y : Bool) (at : Place) (h : List Record) → Fits k p l y at h → is_entry n at ≡ (is_plain_write k && eqb (entry_for l (buffer p h)) n)
entry_shown kind.Fetch p l n y at h fit = ap (is_entry n) fit.0
entry_shown kind.Read p l n y at h fit = ap (is_entry n) fit.0
entry_shown kind.Locked p l n y at h fit = ap (is_entry n) fit.0
entry_shown kind.Write p l n y at h fit = ap (is_entry n) fit
entry_shown kind.Conditional p l n y at h fit = ap (is_entry n) fit.0
entry_shown kind.Barrier p l n y at h fit = ap (is_entry n) fit.0
entry_shown kind.CodeBarrier p l n y at h fit = ap (is_entry n) fit.0
entry_shown kind.WriteBarrier p l n y at h fit = ap (is_entry n) fit
entry_shown kind.Signal p l n y at h fit = ap (is_entry n) fit.0
entry_shown kind.Console p l n y at h fit = ap (is_entry n) fit
entry_shown kind.Poll p l n y at h fit = ap (is_entry n) fit

-- the entries written are those numbered from 1 to the number made
abbrev pub Exactly : Bool → ℕ → ℕ → Type 0
Exactly written made n = (written ≡ true) ↔ IsNumbered made n

-- a write into an entry that waits, or into the next
exactly_joined : (o : Option ℕ) (b : Buffer) (l n : ℕ) (was : Bool) → entry_joined l b.age b.waiting ≡ o → ((m : ℕ) → has_number m b.waiting ≡ true → IsNumbered b.made m) → Exactly was b.made n
    → Exactly (eqb (entry_or o (b.made + 1)) n || was) (b.made + one_if_none o) n
exactly_joined None b l n was joined counted is = (
  λ written.
      ⊎_elim
      (λ (here : eqb (b.made + 1) n ≡ true). let same = eqb-true (b.made + 1) n here in (omega (arith, same), omega (arith, same)))
      (λ (old : was ≡ true). let numbered = is.0 old in (numbered.0, omega (arith, numbered.1)))
      (or_cases (eqb (b.made + 1) n) was written),
  λ numbered.
      ⊎_elim
      (λ (new : b.made < n). or_left (eqb (b.made + 1) n) was (eq-eqb (b.made + 1) n (omega (arith, new, numbered.1))))
      (λ (old : n ≤ b.made). or_right (eqb (b.made + 1) n) was (is.1 (numbered.0, old)))
      (cases_lt b.made n),
)
exactly_joined (Some m) b l n was joined counted is =
    let waits : IsNumbered b.made m = counted m (waits_has m l b.age b.waiting (joins_waits l b.age m b.waiting joined)) in (
      λ written.
          ⊎_elim
          (λ (here : eqb m n ≡ true). let same = eqb-true m n here in (omega (arith, same, waits.0), omega (arith, same, waits.1)))
          (λ (old : was ≡ true). let numbered = is.0 old in (numbered.0, omega (arith, numbered.1)))
          (or_cases (eqb m n) was written),
      λ numbered. or_right (eqb m n) was (is.1 (numbered.0, omega (arith, numbered.1))),
    )

exactly_write : (plain : Bool) (b : Buffer) (l n : ℕ) (was : Bool) → ((m : ℕ) → has_number m b.waiting ≡ true → IsNumbered b.made m) → Exactly was b.made n
    → Exactly ((plain && eqb (entry_for l b) n) || was) (cond plain (b.made + one_if_none (entry_joined l b.age b.waiting)) b.made) n
exactly_write true b l n was counted is = exactly_joined (entry_joined l b.age b.waiting) b l n was refl counted is
exactly_write false b l n was counted is = is

exactly_own : (p n : ℕ) (o : Outcome) (h : List Record) (was : Bool) → FitsOutcome p o h → Exactly was (buffer p h).made n → Exactly (writes_entry n o || was) (buffer_after o (buffer p h)).made n
exactly_own p n (outcome.Access a) h was fit is =
    rw (entry_shown a.kind p (line_of a.address) n a.yes a.place h fit.2)
    (exactly_write (is_plain_write a.kind) (buffer p h) (line_of a.address) n was (λ m has. has_counted p m h has) is)
exactly_own p n (outcome.Drained m k t) h was fit is = is
exactly_own p n outcome.NoAccess h was fit is = is
exactly_own p n (outcome.Filled x y z) h was fit is = is
exactly_own p n (outcome.Taken x y z) h was fit is = is
exactly_own p n outcome.Done h was fit is = is
exactly_own p n (outcome.Polled x y z) h was fit is = is

pub written_exactly : (p n : ℕ) (h : List Record) → Fitting h → Exactly (is_written p n h) (buffer p h).made n
written_exactly p n [] fit = (λ written. absurd (false≢true written), λ numbered. absurd (omega (arith, numbered.0, numbered.1)))
written_exactly p n (r ∷ h) fit =
    ⊎_elim
    (λ (own : is_of p r ≡ true).
    let fits : FitsOutcome p r.outcome h = subst (λ q. FitsOutcome q r.outcome h) (eqb-true r.event.cpu.number p own) fit.0 in
    rw own (exactly_own p n r.outcome h (is_written p n h) fits (written_exactly p n h fit.1)))
    (λ (foreign : is_of p r ≡ false). rw foreign (written_exactly p n h fit.1))
    (cases_Bool (is_of p r))

-- a drain names an entry that waits
pub named_waits : (p n : ℕ) (o : Outcome) (h : List Record) → FitsOutcome p o h → drains n o ≡ true → has_number n (buffer p h).waiting ≡ true
named_waits p n (outcome.Drained m l t) h fit named =
    let is : Named m l.number (buffer p h).waiting = fit.1 in
    let es : List Waiting = (buffer p h).waiting in
    let found = waits_has is.1.number is.1.line.number (least_age es) es (of_age_waits (least_age es) is.0 is.1 es is.2) in
    let number : is.1.number ≡ n = is.3 ∙ eqb-true m n named in
    subst (λ k. has_number k es ≡ true) number found
named_waits p n (outcome.Access a) h fit named = absurd (false≢true named)
named_waits p n outcome.NoAccess h fit named = absurd (false≢true named)
named_waits p n (outcome.Filled x y z) h fit named = absurd (false≢true named)
named_waits p n (outcome.Taken x y z) h fit named = absurd (false≢true named)
named_waits p n outcome.Done h fit named = absurd (false≢true named)
named_waits p n (outcome.Polled x y z) h fit named = absurd (false≢true named)

-- so it was written
pub drained_written : (p n : ℕ) (h : List Record) → Fitting h → is_drained p n h ≡ true → is_written p n h ≡ true
drained_written p n [] fit named = absurd (false≢true named)
drained_written p n (r ∷ h) fit named =
    or_right (is_of p r && writes_entry n r.outcome) (is_written p n h)
    (⊎_elim
    (λ (here : (is_of p r && drains n r.outcome) ≡ true).
    let both = and_parts (is_of p r) (drains n r.outcome) here in
    let fits : FitsOutcome p r.outcome h = subst (λ q. FitsOutcome q r.outcome h) (eqb-true r.event.cpu.number p both.0) fit.0 in
    (written_exactly p n h fit.1).1 (has_counted p n h (named_waits p n r.outcome h fits both.1)))
    (λ (before : is_drained p n h ≡ true). drained_written p n h fit.1 before)
    (or_cases (is_of p r && drains n r.outcome) (is_drained p n h) named))

-- a drain that named it gave it its turn
pub drained_some : (p n : ℕ) (h : List Record) → is_drained p n h ≡ is_some (drained h p n)
drained_some p n [] = refl
drained_some p n (r ∷ h) =
    ⊎_elim
    (λ (here : (is_of p r && drains n r.outcome) ≡ true). rw here refl)
    (λ (other : (is_of p r && drains n r.outcome) ≡ false). rw other (drained_some p n h))
    (cases_Bool (is_of p r && drains n r.outcome))

none_of : (o : Option ℕ) → is_some o ≡ false → o ≡ None
none_of None none = refl
none_of (Some t) none = cc

-- what waits was written, and no drain named it; of the other entries made, each is drained
abbrev pub state_by : Bool → Bool → EntryState
state_by waits made = cond waits entry.Waiting (cond made entry.Drained entry.Unwritten)

abbrev pub is_made : ℕ → ℕ → Bool
is_made made n = nat_lt 0 n && nat_le n made

made_of : (made n : ℕ) → IsNumbered made n → is_made made n ≡ true
made_of made n numbered = and_from (nat_lt 0 n) (nat_le n made) (lt-ltb 0 n (omega (arith, numbered.0))) (le-leb n made numbered.1)

numbered_of : (made n : ℕ) → is_made made n ≡ true → IsNumbered made n
numbered_of made n is = let both = and_parts (nat_lt 0 n) (nat_le n made) is in (omega (arith, ltb-true 0 n both.0), leb-true n made both.1)

pub state_shown : (p n : ℕ) (h : List Record) → Fitting h → state_by (has_number n (buffer p h).waiting) (is_made (buffer p h).made n) ≡ entry_state p n h
state_shown p n h fit =
    let b : Buffer = buffer p h in
    let written = written_exactly p n h fit in
    ⊎_elim
    (λ (waits : has_number n b.waiting ≡ true).
    let none : is_drained p n h ≡ false = drained_some p n h ∙ ap (λ o. is_some o) (((kept h fit).sound p).waiting n waits).0 in
    rw (waits, none, written.1 (has_counted p n h waits)) refl)
    (λ (gone : has_number n b.waiting ≡ false).
    ⊎_elim
    (λ (made : is_made b.made n ≡ true).
    ⊎_elim
    (λ (left : is_drained p n h ≡ true). rw (gone, made, left) refl)
    (λ (stays : is_drained p n h ≡ false).
    let numbered = numbered_of b.made n made in
    let waits = remains p n h numbered.0 numbered.1 (none_of (drained h p n) (sym (drained_some p n h) ∙ stays)) in
    absurd (false≢true (sym gone ∙ waits)))
    (cases_Bool (is_drained p n h)))
    (λ (never : is_made b.made n ≡ false).
    let unwritten : is_written p n h ≡ false =
    ⊎_elim (λ (is : is_written p n h ≡ true). absurd (false≢true (sym never ∙ made_of b.made n (written.0 is)))) (λ (not_ : is_written p n h ≡ false). not_) (cases_Bool (is_written p n h)) in
    let undrained : is_drained p n h ≡ false =
    ⊎_elim (λ (is : is_drained p n h ≡ true). absurd (false≢true (sym unwritten ∙ drained_written p n h fit is))) (λ (not_ : is_drained p n h ≡ false). not_) (cases_Bool (is_drained p n h)) in
    rw (gone, never, unwritten, undrained) refl)
    (cases_Bool (is_made b.made n)))
    (cases_Bool (has_number n b.waiting))

-- the states, by what they say
state_waits : (waits made : Bool) → (state_by waits made ≡ entry.Waiting) ↔ (waits ≡ true)
state_waits true made = (λ _. refl, λ _. refl)
state_waits false true = (λ is. cc, λ is. absurd (false≢true is))
state_waits false false = (λ is. cc, λ is. absurd (false≢true is))

state_drained : (left written : Bool) → (cond left entry.Drained (cond written entry.Waiting entry.Unwritten) ≡ entry.Drained) ↔ (left ≡ true)
state_drained true written = (λ _. refl, λ _. refl)
state_drained false true = (λ is. cc, λ is. absurd (false≢true is))
state_drained false false = (λ is. cc, λ is. absurd (false≢true is))

pub waiting_exactly : (p n : ℕ) (h : List Record) → Fitting h → (entry_state p n h ≡ entry.Waiting) ↔ (has_number n (buffer p h).waiting ≡ true)
waiting_exactly p n h fit =
    subst (λ s. (s ≡ entry.Waiting) ↔ (has_number n (buffer p h).waiting ≡ true)) (state_shown p n h fit) (state_waits (has_number n (buffer p h).waiting) (is_made (buffer p h).made n))

pub drained_exactly : (h : List Record) (p n : ℕ) → (entry_state p n h ≡ entry.Drained) ↔ (is_some (drained h p n) ≡ true)
drained_exactly h p n = subst (λ b. (entry_state p n h ≡ entry.Drained) ↔ (b ≡ true)) (drained_some p n h) (state_drained (is_drained p n h) (is_written p n h))

-- a drain names an entry that waits
pub drains_waiting : (r : Record) (h : List Record) → Fitting (r ∷ h) → (n : ℕ) → drains n r.outcome ≡ true → entry_state r.event.cpu.number n h ≡ entry.Waiting
drains_waiting r h fit n named = (waiting_exactly r.event.cpu.number n h fit.1).1 (named_waits r.event.cpu.number n r.outcome h fit.0 named)

-- the entry of a write has no turn yet
fresh_written : (p n : ℕ) (o : Outcome) (h : List Record) → FitsOutcome p o h → SoundBuffer (buffer p h) (drained h p) → writes_entry n o ≡ true → drained h p n ≡ None
fresh_written p n (outcome.Access a) h fit sound written =
    let both = and_parts (is_plain_write a.kind) (eqb (entry_for (line_of a.address) (buffer p h)) n) (sym (entry_shown a.kind p (line_of a.address) n a.yes a.place h fit.2) ∙ written) in
    subst (λ m. drained h p m ≡ None) (eqb-true (entry_for (line_of a.address) (buffer p h)) n both.1) (fresh_entry p (line_of a.address) h sound)
fresh_written p n (outcome.Drained m l t) h fit sound written = absurd (false≢true written)
fresh_written p n outcome.NoAccess h fit sound written = absurd (false≢true written)
fresh_written p n (outcome.Filled x y z) h fit sound written = absurd (false≢true written)
fresh_written p n (outcome.Taken x y z) h fit sound written = absurd (false≢true written)
fresh_written p n outcome.Done h fit sound written = absurd (false≢true written)
fresh_written p n (outcome.Polled x y z) h fit sound written = absurd (false≢true written)

pub writes_undrained : (r : Record) (h : List Record) → Fitting (r ∷ h) → (n : ℕ) → writes_entry n r.outcome ≡ true → entry_state r.event.cpu.number n h ≡ entry.Drained → ⊥
writes_undrained r h fit n written left =
    let p : ℕ = r.event.cpu.number in
    let none = fresh_written p n r.outcome h fit.0 ((kept h fit.1).sound p) written in
    false≢true (sym (ap (λ o. is_some o) none) ∙ (drained_exactly h p n).0 left)
