-- No memory write that has a place stands above the last turn of others on its line.
use Rattle.std.proofs.Common.{true, false, ℕ, ◌+◌, ◌≤◌, ◌≡◌, ◌≢◌, ⊎_elim, not, ◌&&◌, List, [], ◌∷◌, Option, None, refl, sym, ◌∙◌, subst, arith}
use Rattle.std.specs.List.{AllByRecursion}
use Rattle.std.proofs.lemmas.Bool.{cond_both, cases_Bool, and_parts, eqb-true, eq-eqb, ne_eqb, false≢true}
use Rattle.axp_base.specs.Cpus.{cpu_number}
use Rattle.axp_base.specs.Lines.{line_number, line_of}
use Rattle.axp_regs.specs.declared.asks.Kind.{Kind}
use Rattle.axp_regs.specs.declared.asks.Kind.TheVariants as kind
use Rattle.axp_access.specs.declared.Access.{Access}
use Rattle.axp_access.specs.declared.Event.{Event}
use Rattle.axp_access.specs.declared.Outcome.{Outcome}
use Rattle.axp_access.specs.declared.Outcome.TheVariants as outcome
use Rattle.axp_access.specs.declared.Place.{Place}
use Rattle.axp_access.specs.declared.Place.TheVariants.{At, Entry, Absent}
use Rattle.axp_access.specs.declared.Record.{Record}
use Rattle.axp_model.specs.Records.{is_of, drains, turns_on}
use Rattle.axp_access.specs.Kinds.{is_memory_write}
use Rattle.axp_model.specs.Turns.{turns, drained}
use Rattle.axp_model.specs.Entries.{Waiting, buffer, least_age, entry_for}
use Rattle.axp_model.specs.Accesses.{accesses, times}
use Rattle.axp_access.specs.Numbering.{NumberedAccess, cpu_of}
use Rattle.axp_access.specs.Order.{Spot, spot, spot_at}
use Rattle.axp_laws.specs.Counts.{last_other}
use Rattle.axp_laws.proofs.RunFacts.{Fits, FitsOutcome, Fitting, Known, KnownItem, RunFacts, SoundBuffer, waits, Named, Goes}
use Rattle.axp_laws.proofs.RunKnown.{waits_has}
use Rattle.axp_laws.proofs.OrderDrains.{entry_write, of_age_waits}
use Rattle.axp_laws.proofs.LateReached.{last_other_most}
use Rattle.axp_laws.proofs.RunSteps.{kept, fresh_at, turn_same}

-- a place that is not last of all is no more than n
abbrev pub Bound : ℕ → Spot → Type 0
Bound n s = s.last ≡ false → s.place ≤ n

abbrev pub Seen : List Record → NumberedAccess → Type 0
Seen h w = (p : ℕ) → cpu_of w ≢ p → is_memory_write w.access ≡ true → Bound (last_other p (line_of w.access.address) h) (spot (times h) (cpu_of w) w.access.place)

last_other_grows : (p l : ℕ) (r : Record) (h : List Record) → last_other p l h ≤ last_other p l (r ∷ h)
last_other_grows p l r h = cond_both (not (is_of p r) && turns_on l r.outcome) (turns h + 1) (last_other p l h) (λ x. last_other p l h ≤ x) (λ _. omega (arith, last_other_most p l h)) (λ _. omega arith)

last_other_new : (p l : ℕ) (r : Record) (h : List Record) → is_of p r ≡ false → turns_on l r.outcome ≡ true → last_other p l (r ∷ h) ≡ turns h + 1
last_other_new p l r h foreign on = rw foreign (rw on refl)

-- the entry that a drain names is of its line
drain_line : (o : Outcome) (q n l g : ℕ) (h : List Record) → FitsOutcome q o h → SoundBuffer (buffer q h) (drained h q) → drains n o ≡ true → (drained h q n ≡ None → waits n l g (buffer q h).waiting ≡ true) → turns_on l o ≡ true
drain_line (outcome.Drained m line t) q n l g h fit sound e goes =
    let named : Named m (line_number line) (buffer q h).waiting = fit.1 in
    let es : List Waiting = (buffer q h).waiting in
    let found : waits named.1.number (line_number named.1.line) (least_age es) es ≡ true = of_age_waits (least_age es) named.0 named.1 es named.2 in
    let number : named.1.number ≡ n = named.3 ∙ eqb-true m n e in
    let here : waits n (line_number named.1.line) (least_age es) es ≡ true = rw number at found in
    let none : drained h q n ≡ None = (sound.waiting n (waits_has n (line_number named.1.line) (least_age es) es here)).0 in
    let same : l ≡ line_number named.1.line = (sound.single n l g (line_number named.1.line) (least_age es) (goes none) here).0 in
    eq-eqb (line_number line) l (sym named.4 ∙ sym same)
drain_line _ q n l g h fit sound e goes = cc

other_cpu : (p q : ℕ) (r : Record) → is_of q r ≡ true → q ≢ p → is_of p r ≡ false
other_cpu p q r own apart = ne_eqb (cpu_number r.event.cpu) p (λ e. apart (sym (eqb-true (cpu_number r.event.cpu) q own) ∙ e))

bound_more : (m n : ℕ) (s : Spot) → m ≤ n → Bound m s → Bound n s
bound_more m n s less bound last = omega (arith, bound last)

-- an access that was seen, after one more record
seen_spot : (p q l g : ℕ) (k : Kind) (at : Place) (r : Record) (h : List Record) → FitsOutcome (cpu_number r.event.cpu) r.outcome h → SoundBuffer (buffer q h) (drained h q) → Known k q l g at h → q ≢ p → Bound (last_other p l h) (spot (times h) q at) → Bound (last_other p l (r ∷ h)) (spot (times (r ∷ h)) q at)
seen_spot p q l g k (At t) r h fit sound known apart bound = bound_more (last_other p l h) (last_other p l (r ∷ h)) (spot (times h) q (At t)) (last_other_grows p l r h) bound
seen_spot p q l g k Absent r h fit sound known apart bound = bound_more (last_other p l h) (last_other p l (r ∷ h)) (spot (times h) q Absent) (last_other_grows p l r h) bound
seen_spot p q l g k (Entry n) r h fit sound known apart bound =
    ⊎_elim
    (λ (named : (is_of q r && drains n r.outcome) ≡ true).
    let both = and_parts (is_of q r) (drains n r.outcome) named in
    let write : k ≡ kind.Write = entry_write k q l g n h known in
    let goes : Goes q l g (Entry n) h = rw write at known in
    let its : FitsOutcome q r.outcome h = subst (λ c. FitsOutcome c r.outcome h) (eqb-true (cpu_number r.event.cpu) q both.0) fit in
    let on : turns_on l r.outcome ≡ true = drain_line r.outcome q n l g h its sound both.1 goes in
    let now : last_other p l (r ∷ h) ≡ turns h + 1 = last_other_new p l r h (other_cpu p q r both.0 apart) on in
    rw now (rw named (λ _. omega arith)))
    (λ (other : (is_of q r && drains n r.outcome) ≡ false).
    rw other (bound_more (last_other p l h) (last_other p l (r ∷ h)) (spot (times h) q (Entry n)) (last_other_grows p l r h) bound))
    (cases_Bool (is_of q r && drains n r.outcome))

pub seen_step : (r : Record) (h : List Record) → FitsOutcome (cpu_number r.event.cpu) r.outcome h → RunFacts h → (w : NumberedAccess) → KnownItem h w → Seen h w → Seen (r ∷ h) w
seen_step r h fit whole w known seen p apart write =
    seen_spot p (cpu_of w) (line_of w.access.address) w.parts w.access.kind w.access.place r h fit (whole.sound (cpu_of w)) known.known apart (seen p apart write)

-- a new access
entry_waits : (o : Option ℕ) (n : ℕ) → o ≡ None → Bound n (spot_at o)
entry_waits o n none = rw none (λ last. absurd (false≢true (sym last)))

new_spot : (p q : ℕ) (k : Kind) (e : Event) (a : Access) (h : List Record) → FitsOutcome q (outcome.Access a) h → RunFacts h → cpu_number e.cpu ≡ q → q ≢ p → a.kind ≡ k → is_memory_write a ≡ true → Fits k q (line_of a.address) a.yes a.place h
    → Bound (last_other p (line_of a.address) (record { event = e; outcome = outcome.Access a } ∷ h)) (spot (times (record { event = e; outcome = outcome.Access a } ∷ h)) q a.place)
new_spot p q kind.Write e a h fit whole own apart is write place =
    let r : Record = record { event = e; outcome = outcome.Access a } in
    let none : drained h q (entry_for (line_of a.address) (buffer q h)) ≡ None =
    subst (λ c. drained h c (entry_for (line_of a.address) (buffer q h)) ≡ None) fit.0 (fresh_at h e a (fit.0 ∙ sym own) (rw own fit.2) whole is (entry_for (line_of a.address) (buffer q h)) place) in
    rw place (entry_waits (drained (r ∷ h) q (entry_for (line_of a.address) (buffer q h))) (last_other p (line_of a.address) (r ∷ h)) (turn_same r h (λ n. refl) q (entry_for (line_of a.address) (buffer q h)) ∙ none))
new_spot p q kind.Conditional e a h fit whole own apart is write place =
    let r : Record = record { event = e; outcome = outcome.Access a } in
    let success : a.yes ≡ true = rw is at write in
    let on : turns_on (line_of a.address) (outcome.Access a) ≡ true = rw is (rw success (eq-eqb (line_of a.address) (line_of a.address) refl)) in
    let now : last_other p (line_of a.address) (r ∷ h) ≡ turns h + 1 = last_other_new p (line_of a.address) r h (ne_eqb (cpu_number e.cpu) p (λ same. apart (sym own ∙ same))) on in
    rw now (rw place.0 (rw success (λ _. omega arith)))
new_spot p q _ e a h fit whole own apart is write place = let never : false ≡ true = rw is at write in absurd (false≢true never)

-- each memory write of a history
pub each_both : {X : Type 0} (K P Q : X → Type 0) (xs : List X) → ((x : X) → K x → P x → Q x) → AllByRecursion K xs → AllByRecursion P xs → AllByRecursion Q xs
each_both K P Q [] f k e = tt
each_both K P Q (x ∷ xs) f k e = (f x k.0 e.0, each_both K P Q xs f k.1 e.1)

seen_more : (e : Event) (o : Outcome) (h : List Record) → FitsOutcome (cpu_number e.cpu) o h → RunFacts h → AllByRecursion (Seen (record { event = e; outcome = o } ∷ h)) (accesses h) → AllByRecursion (Seen (record { event = e; outcome = o } ∷ h)) (accesses (record { event = e; outcome = o } ∷ h))
seen_more e (outcome.Access a) h fit whole each =
    let its : FitsOutcome (cpu_number a.cpu) (outcome.Access a) h = subst (λ q. FitsOutcome q (outcome.Access a) h) (sym fit.0) fit in
    (λ p apart write. new_spot p (cpu_number a.cpu) a.kind e a h its whole (sym fit.0) apart refl write its.2, each)
seen_more e outcome.NoAccess h fit whole each = each
seen_more e (outcome.Filled b k t) h fit whole each = each
seen_more e (outcome.Drained m k t) h fit whole each = each
seen_more e (outcome.Taken k t g) h fit whole each = each
seen_more e outcome.Done h fit whole each = each
seen_more e (outcome.Polled v x t) h fit whole each = (λ p apart write. absurd (false≢true write), each)

pub seen : (h : List Record) → Fitting h → AllByRecursion (Seen h) (accesses h)
seen [] fit = tt
seen (r ∷ h) fit =
    let whole = kept h fit.1 in
    seen_more r.event r.outcome h fit.0 whole (each_both (KnownItem h) (Seen h) (Seen (r ∷ h)) (accesses h) (seen_step r h fit.0 whole) whole.items (seen h fit.1))
