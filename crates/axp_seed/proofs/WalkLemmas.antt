-- From event to event through a seeded run.
use Rattle.std.proofs.Common.{◌≡◌, ℕ, zero, suc, ◌+◌, ◌-◌, ◌*◌, ◌≤◌, ◌<◌, true, ◌∷◌, length, Option, Some, None, refl, sym, ap, ◌∙◌, subst, arith}
use Rattle.axp_access.specs.declared.Record.{Record}
use Rattle.axp_base.specs.declared.processors.TheConstants.{MAX_CPUS}
use Rattle.axp_machine.specs.Runs.{IsRun, Seen, is_complete}
use Rattle.axp_seed.proofs.NextLemmas.{stays}
use Rattle.axp_seed.specs.Seeds.{Seeded, behind, behind_record, end_of, most_events, next_record, seeded_after}
use Rattle.axp_world.proofs.CountEvents.{played_is_short}
use Rattle.axp_world.specs.declared.lengths.TheConstants.{EVENTS_PER_STEP}

-- ---- so many events after others

pub after_more : (k j : ℕ) (s : Seeded) → seeded_after (k + j) s ≡ seeded_after j (seeded_after k s)
unfolding seeded_after
after_more zero j s = let none : 0 + j ≡ j = omega arith in ap (λ n. seeded_after n s) none
after_more (suc k) j s = let one : suc k + j ≡ suc (k + j) = omega arith in ap (λ n. seeded_after n s) one ∙ after_more k j (behind s)

after_one : (s : Seeded) → seeded_after 1 s ≡ behind s
unfolding seeded_after
after_one s = refl

after_none : (s : Seeded) → seeded_after 0 s ≡ s
unfolding seeded_after
after_none s = refl

-- a complete machine stays
pub after_end : (n : ℕ) (s : Seeded) → is_complete s.machine ≡ true → seeded_after n s ≡ s
unfolding seeded_after
after_end zero s complete = refl
after_end (suc n) s complete = ap (seeded_after n) (sym (stays s complete)) ∙ after_end n s complete

-- ---- what an event leaves as it was

pub record Keeps (m m' : Seen) : Type 0 where
  pub image : m'.image ≡ m.image
  pub cpus : m'.cpus ≡ m.cpus
  pub budget : m'.budget ≡ m.budget

pub next_keeps : (s : Seeded) (o : Option Record) → Keeps s.machine (behind_record s o).machine
next_keeps s None = record { image = refl; cpus = refl; budget = refl }
next_keeps s (Some r) = record { image = refl; cpus = refl; budget = refl }

pub after_keeps : (n : ℕ) (s : Seeded) → Keeps s.machine (seeded_after n s).machine
unfolding seeded_after behind
after_keeps zero s = record { image = refl; cpus = refl; budget = refl }
after_keeps (suc n) s =
    let one : Keeps s.machine (behind_record s (next_record s)).machine = next_keeps s (next_record s) in
    let more : Keeps (behind_record s (next_record s)).machine (seeded_after n (behind_record s (next_record s))).machine = after_keeps n (behind_record s (next_record s)) in
    record { image = more.image ∙ one.image; cpus = more.cpus ∙ one.cpus; budget = more.budget ∙ one.budget }

-- ---- the walk from a first moment to this one

pub record Walks (first s : Seeded) : Type 0 where
  pub made : ℕ
  pub at : s ≡ seeded_after made first
  pub count : length s.machine.records ≡ length first.machine.records + made
  pub few : made ≤ most_events first.machine

pub walk_first : (s : Seeded) → Walks s s
walk_first s = record { made = 0; at = sym (after_none s); count = omega arith; few = omega arith }

-- the machine behind the next record
pub record IsNextTo (first s s' : Seeded) (r : Record) : Type 0 where
  pub records : s'.machine.records ≡ r ∷ s.machine.records
  pub walk : Walks first s'
  pub short : length s'.machine.records ≤ most_events first.machine

pub next_to : (first s s' : Seeded) (r : Record) → Walks first s → Some r ≡ next_record s → s' ≡ behind s → IsRun s'.machine → s.machine.cpus ≤ MAX_CPUS → IsNextTo first s s' r
unfolding behind
next_to first s s' r walk shows after run cpus =
    let records : s'.machine.records ≡ r ∷ s.machine.records = ap (λ (x : Seeded). x.machine.records) after ∙ rw (← shows) refl in
    let one : s' ≡ seeded_after (walk.made + 1) first = after ∙ sym (after_one s) ∙ ap (seeded_after 1) walk.at ∙ sym (after_more walk.made 1 first) in
    let long : length s'.machine.records ≡ length s.machine.records + 1 = ap length records ∙ omega arith in
    let kept : Keeps first.machine s'.machine = subst (λ (x : Seeded). Keeps first.machine x.machine) (sym one) (after_keeps (walk.made + 1) first) in
    let same : s'.machine.cpus ≡ s.machine.cpus = ap (λ (x : Seeded). x.machine.cpus) after ∙ (next_keeps s (next_record s)).cpus in
    let short : length s'.machine.records ≤ most_events first.machine =
    subst (λ k. length s'.machine.records ≤ EVENTS_PER_STEP * k * first.machine.budget) kept.cpus
    (subst (λ k. length s'.machine.records ≤ EVENTS_PER_STEP * s'.machine.cpus * k) kept.budget
    (played_is_short s'.machine.image s'.machine.cpus s'.machine.budget s'.machine.records (subst (λ k. k ≤ MAX_CPUS) (sym same) cpus) run)) in
    record {
      records = records;
      walk = record { made = walk.made + 1; at = one; count = omega (arith, long, walk.count); few = omega (arith, long, walk.count, short) };
      short = short;
    }

-- so fewer events may follow
pub walk_smaller : (first s s' : Seeded) (r : Record) → Walks first s → Some r ≡ next_record s → s' ≡ behind s → IsRun s'.machine → s.machine.cpus ≤ MAX_CPUS
    → most_events first.machine - length s'.machine.records < most_events first.machine - length s.machine.records
walk_smaller first s s' r walk shows after run cpus =
    let next : IsNextTo first s s' r = next_to first s s' r walk shows after run cpus in
    let long : length s'.machine.records ≡ length s.machine.records + 1 = ap length next.records ∙ omega arith in
    omega (arith, long, next.short)

-- where no event follows, this is the end
pub walk_end : (first s : Seeded) → Walks first s → is_complete s.machine ≡ true → s.machine ≡ end_of first
unfolding end_of
walk_end first s walk complete =
    let rest : ℕ = most_events first.machine - walk.made in
    let whole : walk.made + rest ≡ most_events first.machine = omega (arith, walk.few) in
    ap (λ (x : Seeded). x.machine)
    (sym (after_end rest s complete)
    ∙ ap (seeded_after rest) walk.at
    ∙ sym (after_more walk.made rest first)
    ∙ ap (λ j. seeded_after j first) whole)

-- the last call of a run leaves it as it was
pub walk_left : (first s s' : Seeded) → Walks first s → is_complete s.machine ≡ true → s' ≡ behind s → s'.machine ≡ end_of first
walk_left first s s' walk complete after = ap (λ (x : Seeded). x.machine) (after ∙ sym (stays s complete)) ∙ walk_end first s walk complete
