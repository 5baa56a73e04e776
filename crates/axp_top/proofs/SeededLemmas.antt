-- From event to event through a seeded run.
use Rattle.std.proofs.Common.{◌≡◌, ℕ, zero, suc, ◌+◌, ◌-◌, ◌≤◌, true, List, [], ◌∷◌, ◌++◌, Option, Some, None, refl, sym, ap, ◌∙◌, subst, append_assoc, append-nil, arith}
use Rattle.axp_access.specs.declared.Record.{Record}
use Rattle.axp_base.specs.declared.processors.TheConstants.{MAX_CPUS}
use Rattle.axp_machine.specs.Runs.{IsRun, Seen, is_complete}
use Rattle.axp_seed.proofs.WalkLemmas.{IsNextTo, Keeps, Walks, after_keeps, after_more, next_to, walk_end, walk_first}
use Rattle.axp_seed.specs.Seeds.{Seeded, behind, behind_record, end_of, most_events, next_record, seeded_after}
use Rattle.axp_top.proofs.PrintingLemmas.{printed_none, printed_then, stopped_longer, stopped_then}
use Rattle.axp_top.specs.Outside.{SinkState}
use Rattle.axp_top.specs.Printing.{Printed, Stopped}
use Rattle.axp_top.specs.SeededRuns.{whole_answer}
use Rattle.axp_top.specs.Texts.{Lines, header_text, record_lines, record_text, right_header, tail}
use Rattle.axp_top.specs.declared.printing.Stop.{Stop}
use Rattle.axp_trace.specs.Lines.{line_text, with_feed}

-- ---- the lines that an event adds

-- of the next record
abbrev lines_of_next : Option Record → Lines
lines_of_next None = []
lines_of_next (Some r) = record_text r ∷ []

next_lines : (s : Seeded) (o : Option Record) → record_lines (behind_record s o).machine.records ≡ record_lines s.machine.records ++ lines_of_next o
next_lines s None = sym (append-nil (record_lines s.machine.records))
next_lines s (Some r) = refl

-- the lines of the next so many records
more_lines : ℕ → Seeded → Lines
more_lines zero s = []
more_lines (suc n) s = lines_of_next (next_record s) ++ more_lines n (behind s)

behind_lines : (s : Seeded) → record_lines (behind s).machine.records ≡ record_lines s.machine.records ++ lines_of_next (next_record s)
unfolding behind
behind_lines s = next_lines s (next_record s)

after_lines : (n : ℕ) (s : Seeded) → record_lines (seeded_after n s).machine.records ≡ record_lines s.machine.records ++ more_lines n s
unfolding seeded_after more_lines
after_lines zero s = sym (append-nil (record_lines s.machine.records))
after_lines (suc n) s =
    after_lines n (behind s)
    ∙ ap (λ (t : Lines). t ++ more_lines n (behind s)) (behind_lines s)
    ∙ append_assoc (record_lines s.machine.records) (lines_of_next (next_record s)) (more_lines n (behind s))

-- ---- the walk: a line was printed for each record so far

pub record Seeds (b n : SinkState) (first s : Seeded) : Type 0 where
  pub walk : Walks first s
  pub printed : Printed b n (record_lines s.machine.records)

pub seeds_first : (b : SinkState) (s : Seeded) → s.machine.records ≡ [] → Seeds b b s s
seeds_first b s none = record { walk = walk_first s; printed = subst (λ (h : List Record). Printed b b (record_lines h)) (sym none) (printed_none b) }

line_of : (h : List Record) (r : Record) (items : List ℕ) → items ≡ line_text r.event r.outcome → record_lines h ++ with_feed items ∷ [] ≡ record_lines (r ∷ h)
line_of h r items is = ap (λ (t : List ℕ). record_lines h ++ with_feed t ∷ []) is

pub seeds_on : (b k n : SinkState) (first s s' : Seeded) (r : Record) (items : List ℕ) → Seeds b k first s → Some r ≡ next_record s → s' ≡ behind s → IsRun s'.machine → s.machine.cpus ≤ MAX_CPUS
    → items ≡ line_text r.event r.outcome → Printed k n (with_feed items ∷ []) → Seeds b n first s'
seeds_on b k n first s s' r items is shows after run cpus text prints =
    let next : IsNextTo first s s' r = next_to first s s' r is.walk shows after run cpus in
    record {
      walk = next.walk;
      printed = subst (λ (h : List Record). Printed b n (record_lines h)) (sym next.records)
          (subst (Printed b n) (line_of s.machine.records r items text) (printed_then b k n (record_lines s.machine.records) (with_feed items ∷ []) is.printed prints));
    }

-- the lines so far begin those of the end
end_lines : (first s : Seeded) (walk : Walks first s) → record_lines (end_of first).records ≡ record_lines s.machine.records ++ more_lines (most_events first.machine - walk.made) s
unfolding end_of
end_lines first s walk =
    let rest : ℕ = most_events first.machine - walk.made in
    let whole : walk.made + rest ≡ most_events first.machine = omega (arith, walk.few) in
    ap (λ j. record_lines (seeded_after j first).machine.records) (sym whole)
    ∙ ap (λ (x : Seeded). record_lines x.machine.records) (after_more walk.made rest first ∙ ap (seeded_after rest) (sym walk.at))
    ∙ after_lines rest s

pub seeds_stop : (b k n : SinkState) (first s s' : Seeded) (r : Record) (items : List ℕ) (x : Stop) → Seeds b k first s → Some r ≡ next_record s → s' ≡ behind s → IsRun s'.machine → s.machine.cpus ≤ MAX_CPUS
    → items ≡ line_text r.event r.outcome → Stopped k n (with_feed items ∷ []) x → Stopped b n (record_lines (end_of first).records) x
seeds_stop b k n first s s' r items x is shows after run cpus text stops =
    let next : IsNextTo first s s' r = next_to first s s' r is.walk shows after run cpus in
    let front : record_lines s.machine.records ++ with_feed items ∷ [] ≡ record_lines s'.machine.records = line_of s.machine.records r items text ∙ ap record_lines (sym next.records) in
    subst (λ (t : Lines). Stopped b n t x) (sym (end_lines first s' next.walk))
    (stopped_longer b n (record_lines s'.machine.records) (more_lines (most_events first.machine - next.walk.made) s') x
    (subst (λ (t : Lines). Stopped b n t x) front (stopped_then b k n (record_lines s.machine.records) (with_feed items ∷ []) x is.printed stops)))

pub seeds_printed : (b n : SinkState) (first s : Seeded) → Seeds b n first s → is_complete s.machine ≡ true → Printed b n (record_lines (end_of first).records)
seeds_printed b n first s is complete = subst (λ (m : Seen). Printed b n (record_lines m.records)) (walk_end first s is.walk complete) is.printed

-- ---- the whole text

end_header : (first : Seeded) → header_text (end_of first) ≡ header_text first.machine
unfolding end_of
end_header first =
    let kept : Keeps first.machine (seeded_after (most_events first.machine) first).machine = after_keeps (most_events first.machine) first in
    rw (kept.image, kept.cpus, kept.budget) refl

-- the first line, the records and the tail
whole_text : (first : Seeded) (items : List ℕ) → items ≡ right_header first.machine → (with_feed items ∷ []) ++ (record_lines (end_of first).records ++ tail (end_of first)) ≡ (whole_answer (end_of first)).lines
whole_text first items is = ap (λ (t : List ℕ). t ∷ (record_lines (end_of first).records ++ tail (end_of first))) (ap with_feed is ∙ sym (end_header first))

abbrev Rest : Seeded → Lines
Rest first = record_lines (end_of first).records ++ tail (end_of first)

pub header_stops : (b n : SinkState) (first : Seeded) (items : List ℕ) (x : Stop) → items ≡ right_header first.machine → Stopped b n (with_feed items ∷ []) x → Stopped b n (whole_answer (end_of first)).lines x
header_stops b n first items x is stops = subst (λ (t : Lines). Stopped b n t x) (whole_text first items is) (stopped_longer b n (with_feed items ∷ []) (Rest first) x stops)

pub records_stop : (b k n : SinkState) (first : Seeded) (items : List ℕ) (x : Stop) → items ≡ right_header first.machine → Printed b k (with_feed items ∷ []) → Stopped k n (record_lines (end_of first).records) x → Stopped b n (whole_answer (end_of first)).lines x
records_stop b k n first items x is prints stops =
    subst (λ (t : Lines). Stopped b n t x) (whole_text first items is) (stopped_then b k n (with_feed items ∷ []) (Rest first) x prints (stopped_longer k n (record_lines (end_of first).records) (tail (end_of first)) x stops))

pub tail_stops : (b j k n : SinkState) (first : Seeded) (items : List ℕ) (m : Seen) (x : Stop) → items ≡ right_header first.machine → Printed b j (with_feed items ∷ []) → Printed j k (record_lines (end_of first).records) → m ≡ end_of first → Stopped k n (tail m) x → Stopped b n (whole_answer (end_of first)).lines x
tail_stops b j k n first items m x is prints records ends stops =
    subst (λ (t : Lines). Stopped b n t x) (whole_text first items is)
    (stopped_then b j n (with_feed items ∷ []) (Rest first) x prints (stopped_then j k n (record_lines (end_of first).records) (tail (end_of first)) x records (subst (λ (e : Seen). Stopped k n (tail e) x) ends stops)))

pub all_printed : (b j k n : SinkState) (first : Seeded) (items : List ℕ) (m : Seen) → items ≡ right_header first.machine → Printed b j (with_feed items ∷ []) → Printed j k (record_lines (end_of first).records) → m ≡ end_of first → Printed k n (tail m) → Printed b n (whole_answer (end_of first)).lines
all_printed b j k n first items m is prints records ends tails =
    subst (Printed b n) (whole_text first items is)
    (printed_then b j n (with_feed items ∷ []) (Rest first) prints (printed_then j k n (record_lines (end_of first).records) (tail (end_of first)) records (subst (λ (e : Seen). Printed k n (tail e)) ends tails)))
