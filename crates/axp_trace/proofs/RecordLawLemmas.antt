-- A line is read as a record exactly where it is its text.
use Rattle.std.proofs.Common.{◌≡◌, ℕ, ◌-◌, ◌<◌, ◌&&◌, ◌↔◌, true, List, [], ◌∷◌, length, take, Option, Some, None, IfSome, refl, sym, ap, ◌∙◌, ⊎_elim, subst}
use Rattle.std.specs.Str.{bytes_eq}
use Rattle.std.proofs.lemmas.Bool.{cases_Bool, and_parts, and_from}
use Rattle.std.proofs.lemmas.Slice.Eq.{bytes_eq-Decides}
use Rattle.axp_base.specs.Cpus.{cpu_number}
use Rattle.axp_access.specs.declared.Event.{Event}
use Rattle.axp_access.specs.declared.Outcome.{Outcome}
use Rattle.axp_access.specs.declared.Record.{Record}
use Rattle.axp_access.specs.Spelling.{IsNamed, IsOutcomeOf, Spells}
use Rattle.axp_trace.specs.Fields.{words_of, cut_at}
use Rattle.axp_trace.specs.Lines.{event_text, outcome_text, line_text}
use Rattle.axp_trace.specs.Reading.{event_of}
use Rattle.axp_trace.specs.Records.{outcome_in, record_by, recorded, record_in, is_target_below, record_if, record_of, IsRecord}
use Rattle.axp_trace.proofs.ColonLemmas.{record_cut, before_blank}
use Rattle.axp_trace.proofs.MeantLemmas.{outcome_read}
use Rattle.axp_trace.proofs.ReadBackLemmas.{event_is_text, event_back}
use Rattle.axp_trace.proofs.RecordLemmas.{outcome_back}

-- the event is one of the list's, and the outcome is its
pub record IsMeant (cpus : ℕ) (r : Record) : Type 0 where
  pub spelled : Spells r.event r.outcome
  pub cpu : cpu_number r.event.cpu < cpus

by_meant : (cpus : ℕ) (e : Event) (o : Option Outcome) → IsNamed e.act → cpu_number e.cpu < cpus → IfSome o (IsOutcomeOf e.act e) → IfSome (record_by e o) (IsMeant cpus)
by_meant cpus e None named below h = tt
by_meant cpus e (Some o) named below h = record { spelled = (named, h); cpu = below }

recorded_meant : (cpus : ℕ) (e : Option Event) (words : List (List ℕ)) → IfSome e (λ e. (cpu_number e.cpu < cpus) × IsNamed e.act) → IfSome (recorded e words) (IsMeant cpus)
recorded_meant cpus None words h = tt
recorded_meant cpus (Some e) [] h = tt
recorded_meant cpus (Some e) (before ∷ words) h = by_meant cpus e (outcome_in e.cpu e.act words) h.1 h.0 (outcome_read e.act e words)

event_meant : (cpus : ℕ) (line : List ℕ) → IfSome (event_of cpus line) (λ e. (cpu_number e.cpu < cpus) × IsNamed e.act)
event_meant cpus line = by (event_of cpus line) refl
  where
    by : (o : Option Event) → event_of cpus line ≡ o → IfSome o (λ e. (cpu_number e.cpu < cpus) × IsNamed e.act)
    by None h = tt
    by (Some e) h = let told = (event_is_text cpus line e).0 h in (told.1, told.2)

-- what both sides of the colon mean is printed
pub record_meant : (cpus : ℕ) (p : Option (List ℕ × List ℕ)) → IfSome (record_in cpus p) (IsMeant cpus)
record_meant cpus None = tt
record_meant cpus (Some p) = recorded_meant cpus (event_of cpus (take (length p.0 - 1) p.0)) (words_of p.1) (event_meant cpus (take (length p.0 - 1) p.0))

-- a record's text means the record
record_in_back : (cpus : ℕ) (r : Record) → IsRecord cpus r → record_in cpus (cut_at 58 (line_text r.event r.outcome)) ≡ Some r
record_in_back cpus r h =
    ap (record_in cpus) (record_cut r.event r.outcome)
    ∙ ap (λ t. recorded (event_of cpus t) ([] ∷ words_of (outcome_text r.outcome))) (before_blank (event_text r.event))
    ∙ ap (λ e. recorded e ([] ∷ words_of (outcome_text r.outcome))) (event_back cpus r.event h.cpu h.spelled.0)
    ∙ ap (record_by r.event) (outcome_back r.event.act r.event r.outcome h.spelled.1)

kept_record : (cpus : ℕ) (line : List ℕ) (o : Option Record) (r : Record) → record_if cpus line o ≡ Some r → (line ≡ line_text r.event r.outcome) × ((is_target_below cpus r.outcome ≡ true) × (o ≡ Some r))
kept_record cpus line None r h = cc
kept_record cpus line (Some g) r h = ⊎_elim
    (λ yes.
    let same : Some g ≡ Some r = rw yes at h in
    let it : g ≡ r = cc in
    let parts = and_parts (is_target_below cpus g.outcome) (bytes_eq (line_text g.event g.outcome) line) yes in
    rw (← it) (sym ((bytes_eq-Decides (line_text g.event g.outcome) line).0 parts.1), (parts.0, refl)))
    (λ no. let other : None ≡ Some r = rw no at h in cc)
    (cases_Bool (is_target_below cpus g.outcome && bytes_eq (line_text g.event g.outcome) line))

pub record_back : (cpus : ℕ) (r : Record) → IsRecord cpus r → record_of cpus (line_text r.event r.outcome) ≡ Some r
unfolding record_of
record_back cpus r h =
    let line = line_text r.event r.outcome in
    let same : bytes_eq (line_text r.event r.outcome) (line_text r.event r.outcome) ≡ true = (bytes_eq-Decides (line_text r.event r.outcome) (line_text r.event r.outcome)).1 refl in
    ap (record_if cpus (line_text r.event r.outcome)) (record_in_back cpus r h)
    ∙ rw (and_from (is_target_below cpus r.outcome) (bytes_eq (line_text r.event r.outcome) (line_text r.event r.outcome)) h.target same) refl

pub record_is_text : (cpus : ℕ) (line : List ℕ) (r : Record) → (record_of cpus line ≡ Some r) ↔ ((line ≡ line_text r.event r.outcome) × IsRecord cpus r)
unfolding record_of
record_is_text cpus line r = (
  λ h. let kept = kept_record cpus line (record_in cpus (cut_at 58 line)) r h in
      let meant : IsMeant cpus r = subst (λ o. IfSome o (IsMeant cpus)) kept.1.1 (record_meant cpus (cut_at 58 line)) in
      (kept.0, record { spelled = meant.spelled; cpu = meant.cpu; target = kept.1.0 }),
  λ h. ap (record_of cpus) h.0 ∙ record_back cpus r h.1,
)
