-- No later write is a source of an earlier read or fetch.
use Rattle.std.proofs.Common.{true, false, ℕ, ◌+◌, ◌≡◌, List, [], ◌∷◌, length, Some, None, refl, ap, ◌∙◌, arith}
use Rattle.axp_base.specs.declared.lines.Line.{Line}
use Rattle.axp_access.specs.declared.Place.TheVariants.{At}
use Rattle.axp_access.specs.declared.Access.{Access}
use Rattle.axp_access.specs.declared.Event.{Event}
use Rattle.axp_access.specs.declared.Outcome.{Outcome}
use Rattle.axp_access.specs.declared.Outcome.TheVariants as outcome
use Rattle.axp_access.specs.declared.Record.{Record}
use Rattle.axp_model.specs.Records.{drains, access_in}
use Rattle.axp_base.specs.Lines.{line_of}
use Rattle.axp_model.specs.Entries.{buffer}
use Rattle.axp_model.specs.Accesses.{times, accesses}
use Rattle.axp_access.specs.Numbering.{next_access, NumberedAccess, write_barriers_in}
use Rattle.axp_model.specs.Sources.{can_give, takes_bytes}
use Rattle.axp_laws.proofs.RunFacts.{Fits, FitsOutcome, Fitting, KnownItem, RunFacts, Named}
use Rattle.axp_model.specs.Issue.{AllPairs}
use Rattle.std.specs.List.{AllByRecursion}
use Rattle.axp_laws.proofs.RunSteps.{pairs_map, turn_same, naming_of, kept, fresh_at, poll_access}
use Rattle.axp_laws.proofs.SourceStays.{same_gives}
use Rattle.axp_laws.proofs.SourceValues.{place_of, new_unseen, gives_eq, before_eq}

-- v, earlier, has nothing of u
abbrev pub Unseen : List Record → NumberedAccess → NumberedAccess → Type 0
Unseen h v u = takes_bytes v ≡ true → (b : ℕ) → can_give (times h) b v u ≡ false

abbrev pub NoLaterSource : List Record → Type 0
NoLaterSource h = AllPairs (Unseen h) (accesses h)

each_from : (P Q : NumberedAccess → Type 0) (us : List NumberedAccess) → ((u : NumberedAccess) → P u → Q u) → AllByRecursion P us → AllByRecursion Q us
each_from P Q [] f p = tt
each_from P Q (u ∷ us) f p = (f u p.0, each_from P Q us f p.1)

causes_access : (e : Event) (o : Outcome) (a : Access) (h : List Record) → access_in e.cpu o ≡ Some a → ((n : ℕ) → drains n o ≡ false) → a.cpu.number ≡ e.cpu.number → Fits a.kind e.cpu.number (line_of a.address) a.yes a.place h → RunFacts h → NoLaterSource h → NoLaterSource (record { event = e; outcome = o } ∷ h)
causes_access e o a h shown none same fit kept was =
    let r : Record = record { event = e; outcome = o } in
    let turn = turn_same r h none in
    let listed : accesses (r ∷ h) ≡ next_access (accesses h) a ∷ accesses h = rw shown refl in
    rw listed (
      each_from (KnownItem h) (λ v. Unseen (r ∷ h) v (next_access (accesses h) a)) (accesses h) (λ v kv x b.
          let at = place_of h v kv x in
          gives_eq (times h) (times (r ∷ h)) b (next_access (accesses h) a) v (before_eq (times h) (times (r ∷ h)) (next_access (accesses h) a) v turn)
          ∙ new_unseen a.kind h e.cpu.number b at.0 0 (length (accesses h) + 1) (write_barriers_in a.cpu.number (accesses h)) a.cpu a.address a.size a.value a.yes a.place v same fit (λ n w vat. fresh_at h e a same fit kept w n vat) at.1 at.2 (omega (arith, kv.number))) kept.items,
      pairs_map (KnownItem h) (Unseen h) (Unseen (r ∷ h)) (accesses h) (λ v u kv ku ok x b. gives_eq (times h) (times (r ∷ h)) b u v (before_eq (times h) (times (r ∷ h)) u v turn) ∙ ok x b) kept.items was,
    )

causes_quiet : (e : Event) (o : Outcome) (h : List Record) → access_in e.cpu o ≡ None → ((n : ℕ) → drains n o ≡ false) → RunFacts h → NoLaterSource h → NoLaterSource (record { event = e; outcome = o } ∷ h)
causes_quiet e o h shown none kept was =
    let r : Record = record { event = e; outcome = o } in
    let listed : accesses (r ∷ h) ≡ accesses h = rw shown refl in
    rw listed (pairs_map (KnownItem h) (Unseen h) (Unseen (r ∷ h)) (accesses h) (λ v u kv ku ok x b. gives_eq (times h) (times (r ∷ h)) b u v (before_eq (times h) (times (r ∷ h)) u v (turn_same r h none)) ∙ ok x b) kept.items was)

causes_drain : (e : Event) (n t : ℕ) (l : Line) (h : List Record) → Named n l.number (buffer e.cpu.number h).waiting → RunFacts h → NoLaterSource h → NoLaterSource (record { event = e; outcome = outcome.Drained n l t } ∷ h)
causes_drain e n t l h named kept was =
    let r : Record = record { event = e; outcome = outcome.Drained n l t } in
    pairs_map (KnownItem h) (Unseen h) (Unseen (r ∷ h)) (accesses h) (λ v u kv ku ok x b. let at = place_of h v kv x in same_gives h e.cpu.number n at.0 b (times (r ∷ h)) u v (naming_of e n t l h named kept) at.1 at.2 ∙ ok x b) kept.items was

causes_by : (e : Event) (o : Outcome) (h : List Record) → FitsOutcome e.cpu.number o h → RunFacts h → NoLaterSource h → NoLaterSource (record { event = e; outcome = o } ∷ h)
causes_by e (outcome.Access a) h fit kept was = causes_access e (outcome.Access a) a h refl (λ n. refl) fit.0 fit.2 kept was
causes_by e outcome.NoAccess h fit kept was = causes_quiet e outcome.NoAccess h refl (λ n. refl) kept was
causes_by e (outcome.Filled b l t) h fit kept was = causes_quiet e (outcome.Filled b l t) h refl (λ n. refl) kept was
causes_by e (outcome.Drained n l t) h fit kept was = causes_drain e n t l h fit.1 kept was
causes_by e (outcome.Taken l t g) h fit kept was = causes_quiet e (outcome.Taken l t g) h refl (λ n. refl) kept was
causes_by e outcome.Done h fit kept was = causes_quiet e outcome.Done h refl (λ n. refl) kept was
causes_by e (outcome.Polled v x t) h fit kept was = causes_access e (outcome.Polled v x t) (poll_access e v t) h refl (λ n. refl) refl (ap (λ z. At z) fit.0) kept was

pub no_later_source : (h : List Record) → Fitting h → NoLaterSource h
no_later_source [] fit = tt
no_later_source (r ∷ h) fit = causes_by r.event r.outcome h fit.0 (kept h fit.1) (no_later_source h fit.1)
