-- The answer to a file shows a run that keeps the constraints of shared memory, and why it ended.
use Rattle.std.proofs.Common.{◌≡◌, ◌≤◌, ℕ, ◌+◌, ◌&&◌, Bool, true, false, cond, eqb, List, [], ◌∷◌, ◌++◌, length, map, reverse, Option, Some, None, Ok, Err, Result, IfSome, refl, sym, ap, ◌∙◌, subst, inl, inr, append_assoc}
use Rattle.std.specs.Prelude.{nat_lt, not, option_map}
use Rattle.std.specs.Str.{bytes_eq}
use Rattle.std.proofs.lemmas.Bool.{and_parts, eqb-true}
use Rattle.std.proofs.lemmas.List.{reverse-append}
use Rattle.std.proofs.lemmas.Slice.Eq.{bytes_eq-Decides}
use Rattle.axp_access.specs.declared.Event.{Event}
use Rattle.axp_access.specs.declared.Outcome.{Outcome}
use Rattle.axp_access.specs.declared.Record.{Record}
use Rattle.axp_access.specs.declared.tail_items.TailItem.{TailItem}
use Rattle.axp_cpu.specs.declared.refusals.NotLegal.{NotLegal}
use Rattle.axp_asm.specs.Sources.{assembled}
use Rattle.axp_image.specs.Contents.{AreBytes, Contents, IsValid}
use Rattle.axp_image.specs.Faults.{Fault, first_fault}
use Rattle.axp_image.specs.Grammar.{image_of}
use Rattle.axp_image.proofs.ValidityLemmas.{image_says}
use Rattle.axp_machine.specs.Runs.{Seen, IsRun, answer_of, events_of, is_complete, processors_of, started, with_record}
use Rattle.axp_machine.specs.Tails.{tail_items}
use Rattle.axp_machine.proofs.RunLemmas.{keeps_constraints, refused_exactly}
use Rattle.axp_model.specs.Legal.{legal}
use Rattle.axp_trace.specs.declared.headers.Header.{Header}
use Rattle.axp_trace.specs.declared.lines.TraceLine.{TraceLine}
use Rattle.axp_trace.specs.declared.lines.TraceLine.TheVariants.{Bare, Full, Tail}
use Rattle.axp_trace.specs.Files.{lines_of}
use Rattle.axp_trace.specs.Lines.{line_text, tail_line}
use Rattle.axp_trace.specs.Reading.{header_of}
use Rattle.axp_trace.specs.Records.{record_of}
use Rattle.axp_trace.specs.Tails.{tail_of}
use Rattle.axp_trace.specs.TraceLines.{full_by, line_by, line_of}
use Rattle.axp_top.specs.declared.limits.TheConstants.{MAX_IMAGE_BYTES, MAX_TRACE_BYTES}
use Rattle.axp_top.specs.Answers as answers
use Rattle.axp_base.specs.declared.processors.TheConstants.{MAX_CPUS}
use Rattle.axp_seed.proofs.CompletionLemmas.{Ends, ends}
use Rattle.axp_seed.specs.Seeds.{end_of, seeded_start}
use Rattle.axp_top.specs.SeededRuns.{seeded_answer}
use Rattle.axp_top.specs.Answers.{answer_by, answer_if_told, answer_of_files, answer_of_image, answer_of_trace, answer_over, answer_with, image_name, trace_told_by, first_bad, image_in, image_told, no_image, too_long, trace_told}
use Rattle.axp_top.specs.Lawful.{AreRight, EventsEnd, IsCause, IsLawful, IsLawfulCheck, IsLawfulOver, IsLawfulReplay, ShowsImage, ShowsSeeded, ShowsSummary, IsNotLegal, RefusesAll, ShowsRun, event_in, event_shown, image_of_file, image_over, lines_of_file}
use Rattle.axp_top.specs.declared.trace_tasks.TraceTask.{TraceTask}
use Rattle.axp_top.specs.declared.trace_tasks.TraceTask.TheVariants as tasks
use Rattle.axp_top.specs.Checks.{checked_answer}
use Rattle.axp_top.specs.Replays.{Answer, FileLine, Front, LineResult, OfTail, Recorded, Refused, answer_of_front, answer_of_header, answer_of_lines, answer_of_run, bad_trace, complete_ending, differs, ending_by, event_result, front_of, incomplete, is_in_order, is_other_memory, is_tail_line, next_line, not_legal, or_else, other_memory, refused_line, refused_or_whole, result_by, result_of, shown_result, tail_refusal}
use Rattle.axp_elf.specs.Executables as executables
use Rattle.axp_elf.specs.Faults as elf_faults
use Rattle.axp_top.specs.ImageFiles.{answer_of_source, asm_answer_by, elf_answer_by, source_answer, source_limit, source_name, too_long_source}
use Rattle.axp_summary.proofs.RoundLemmas.{whole_run}
use Rattle.axp_top.specs.SummaryTexts.{summary_answer}
use Rattle.axp_top.specs.Words.{Asm, Elf, From, Gen, ImageOrder, Listing, Order, Over, Seed, SourceOrder, Traced}

-- ---- a line whose event is done

-- its record is its event's answer, and of a trace the line shows it
record RecordedBy (h : Header) (m : Seen) (l : FileLine) (r : Record) : Type 0 where
  gave : answer_of m r.event ≡ Ok r.outcome
  shows : event_in h l ≡ Some r.event
  right : h.full ≡ true → l ≡ Some (line_text r.event r.outcome)

-- a line of a list is none of a trace
full_is_no_bare : (full : Bool) (cpus : ℕ) (line : List ℕ) (e : Event) → line_by full cpus line ≡ Some (Bare e) → full ≡ true → ⊥
full_is_no_bare true cpus line e is full = by (record_of cpus line) (tail_of cpus line) is where
  tail_no_bare : (b : Bool) → cond b (Some Tail) None ≡ Some (Bare e) → ⊥
  tail_no_bare true is = cc
  tail_no_bare false is = cc

  by : (o : Option Record) (i : Option TailItem) → full_by o i ≡ Some (Bare e) → ⊥
  by (Some r) i is = cc
  by None None is = cc
  by None (Some i) is = cc
full_is_no_bare false cpus line e is full = cc

bare_no_full : (h : Header) (line : List ℕ) (e : Event) → line_of h line ≡ Some (Bare e) → h.full ≡ true → ⊥
unfolding line_of
bare_no_full h line e is full = full_is_no_bare h.full h.cpus line e is full

bare_recorded : (h : Header) (m : Seen) (line : List ℕ) (e : Event) (a : Result Outcome NotLegal) (r : Record) → line_of h line ≡ Some (Bare e) → answer_of m e ≡ a → event_result m e a ≡ Recorded r → RecordedBy h m (Some line) r
bare_recorded h m line e (Ok o) r reads gave is =
    let same : record { event = e; outcome = o } ≡ r = cc in
    subst (RecordedBy h m (Some line)) same (record { gave = gave; shows = ap event_shown reads; right = λ full. absurd (bare_no_full h line e reads full) })
bare_recorded h m line e (Err x) r reads gave is = cc

right_recorded : (n : ℕ) (line : List ℕ) (x r : Record) (same : Bool) → bytes_eq (line_text x.event x.outcome) line ≡ same → cond same (Recorded x) (Refused (differs n line (line_text x.event x.outcome))) ≡ Recorded r → (x ≡ r) × (line ≡ line_text x.event x.outcome)
right_recorded n line x r true eq is = (cc, sym ((bytes_eq-Decides (line_text x.event x.outcome) line).0 eq))
right_recorded n line x r false eq is = cc

shown_recorded : (h : Header) (m : Seen) (line : List ℕ) (e : Event) (given : Outcome) (a : Result Outcome NotLegal) (r : Record) → line_of h line ≡ Some (Full e given) → answer_of m e ≡ a → shown_result m line e a ≡ Recorded r → RecordedBy h m (Some line) r
shown_recorded h m line e given (Ok o) r reads gave is =
    let parts = right_recorded (next_line m) line (record { event = e; outcome = o }) r (bytes_eq (line_text e o) line) refl is in
    subst (RecordedBy h m (Some line)) parts.0 (record { gave = gave; shows = ap event_shown reads; right = λ full. ap Some parts.1 })
shown_recorded h m line e given (Err x) r reads gave is = cc

full_recorded : (h : Header) (m : Seen) (line : List ℕ) (e : Event) (o : Outcome) (ordered : Bool) (r : Record) → line_of h line ≡ Some (Full e o) → cond ordered (shown_result m line e (answer_of m e)) (refused_line m) ≡ Recorded r → RecordedBy h m (Some line) r
full_recorded h m line e o true r reads is = shown_recorded h m line e o (answer_of m e) r reads refl is
full_recorded h m line e o false r reads is = cc

line_recorded : (h : Header) (m : Seen) (line : List ℕ) (l : Option TraceLine) (r : Record) → line_of h line ≡ l → result_by m line l ≡ Recorded r → RecordedBy h m (Some line) r
line_recorded h m line None r reads is = cc
line_recorded h m line (Some (Bare e)) r reads is = bare_recorded h m line e (answer_of m e) r reads refl is
line_recorded h m line (Some (Full e o)) r reads is = full_recorded h m line e o (is_in_order m e o) r reads is
line_recorded h m line (Some Tail) r reads is = cc

recorded_by : (h : Header) (m : Seen) (l : FileLine) (r : Record) → result_of h m l ≡ Recorded r → RecordedBy h m l r
recorded_by h m None r is = cc
recorded_by h m (Some line) r is = line_recorded h m line (line_of h line) r refl is

record_runs : (m : Seen) (r : Record) → answer_of m r.event ≡ Ok r.outcome → IsRun m → IsRun (with_record m r)
unfolding answer_of
record_runs m r gave run = (gave, run)

-- ---- a line that begins the tail

right_no_tail : (n : ℕ) (line : List ℕ) (x : Record) (same : Bool) → cond same (Recorded x) (Refused (differs n line (line_text x.event x.outcome))) ≡ OfTail → ⊥
right_no_tail n line x true is = cc
right_no_tail n line x false is = cc

shown_no_tail : (m : Seen) (line : List ℕ) (e : Event) (a : Result Outcome NotLegal) → shown_result m line e a ≡ OfTail → ⊥
shown_no_tail m line e (Ok o) is = right_no_tail (next_line m) line (record { event = e; outcome = o }) (bytes_eq (line_text e o) line) is
shown_no_tail m line e (Err x) is = cc

full_no_tail : (m : Seen) (line : List ℕ) (e : Event) (ordered : Bool) → cond ordered (shown_result m line e (answer_of m e)) (refused_line m) ≡ OfTail → ⊥
full_no_tail m line e true is = shown_no_tail m line e (answer_of m e) is
full_no_tail m line e false is = cc

event_no_tail : (m : Seen) (e : Event) (a : Result Outcome NotLegal) → event_result m e a ≡ OfTail → ⊥
event_no_tail m e (Ok o) is = cc
event_no_tail m e (Err x) is = cc

line_of_tail : (m : Seen) (line : List ℕ) (l : Option TraceLine) → result_by m line l ≡ OfTail → l ≡ Some Tail
line_of_tail m line None is = cc
line_of_tail m line (Some (Bare e)) is = absurd (event_no_tail m e (answer_of m e) is)
line_of_tail m line (Some (Full e o)) is = absurd (full_no_tail m line e (is_in_order m e o) is)
line_of_tail m line (Some Tail) is = refl

tail_begins : (h : Header) (m : Seen) (l : FileLine) (ls : List FileLine) → result_of h m l ≡ OfTail → EventsEnd h (l ∷ ls)
tail_begins h m None ls is = cc
tail_begins h m (Some line) ls is = line_of_tail m line (line_of h line) is

-- ---- a line that is refused

-- it is outside the grammar, or another than the right one, or its event is not legal
data Why (h : Header) (m : Seen) (l : FileLine) (a : Answer) : Type 0 where
  IsBad : (n : ℕ) → a ≡ bad_trace n → Why h m l a
  IsOther : (n : ℕ) (given right : List ℕ) → a ≡ differs n given right → Why h m l a
  IsForbidden : IsNotLegal h m l → a ≡ not_legal (length m.records + 1) → Why h m l a

not_true : (b : Bool) → true ≡ not b → b ≡ false
not_true true is = cc
not_true false is = refl

forbidden : (h : Header) (m : Seen) (l : FileLine) (e : Event) (x : NotLegal) (a : Answer) → event_in h l ≡ Some e → answer_of m e ≡ Err x → IsValid m.image → IsRun m → not_legal (length m.records + 1) ≡ a → Why h m l a
forbidden h m l e x a shows gave valid run is = IsForbidden (record { event = e; read = shows; refused = not_true (legal (processors_of m) m.records e) (refused_exactly m e (Err x) (sym gave) valid run) }) (sym is)

bare_why : (h : Header) (m : Seen) (line : List ℕ) (e : Event) (r : Result Outcome NotLegal) (a : Answer) → line_of h line ≡ Some (Bare e) → answer_of m e ≡ r → event_result m e r ≡ Refused a → IsValid m.image → IsRun m → Why h m (Some line) a
bare_why h m line e (Ok o) a reads gave is valid run = cc
bare_why h m line e (Err x) a reads gave is valid run = forbidden h m (Some line) e x a (ap event_shown reads) gave valid run cc

right_why : (h : Header) (m : Seen) (l : FileLine) (n : ℕ) (line : List ℕ) (x : Record) (same : Bool) (a : Answer) → cond same (Recorded x) (Refused (differs n line (line_text x.event x.outcome))) ≡ Refused a → Why h m l a
right_why h m l n line x true a is = cc
right_why h m l n line x false a is = let same : differs n line (line_text x.event x.outcome) ≡ a = cc in IsOther n line (line_text x.event x.outcome) (sym same)

shown_why : (h : Header) (m : Seen) (line : List ℕ) (e : Event) (given : Outcome) (r : Result Outcome NotLegal) (a : Answer) → line_of h line ≡ Some (Full e given) → answer_of m e ≡ r → shown_result m line e r ≡ Refused a → IsValid m.image → IsRun m → Why h m (Some line) a
shown_why h m line e given (Ok o) a reads gave is valid run = right_why h m (Some line) (next_line m) line (record { event = e; outcome = o }) (bytes_eq (line_text e o) line) a is
shown_why h m line e given (Err x) a reads gave is valid run = forbidden h m (Some line) e x a (ap event_shown reads) gave valid run cc

bad_why : (h : Header) (m : Seen) (l : FileLine) (a : Answer) → refused_line m ≡ Refused a → Why h m l a
bad_why h m l a is = let same : bad_trace (next_line m) ≡ a = cc in IsBad (next_line m) (sym same)

full_why : (h : Header) (m : Seen) (line : List ℕ) (e : Event) (o : Outcome) (ordered : Bool) (a : Answer) → line_of h line ≡ Some (Full e o) → cond ordered (shown_result m line e (answer_of m e)) (refused_line m) ≡ Refused a → IsValid m.image → IsRun m → Why h m (Some line) a
full_why h m line e o true a reads is valid run = shown_why h m line e o (answer_of m e) a reads refl is valid run
full_why h m line e o false a reads is valid run = bad_why h m (Some line) a is

line_why : (h : Header) (m : Seen) (line : List ℕ) (l : Option TraceLine) (a : Answer) → line_of h line ≡ l → result_by m line l ≡ Refused a → IsValid m.image → IsRun m → Why h m (Some line) a
line_why h m line None a reads is valid run = bad_why h m (Some line) a is
line_why h m line (Some (Bare e)) a reads is valid run = bare_why h m line e (answer_of m e) a reads refl is valid run
line_why h m line (Some (Full e o)) a reads is valid run = full_why h m line e o (is_in_order m e o) a reads is valid run
line_why h m line (Some Tail) a reads is valid run = cc

why : (h : Header) (m : Seen) (l : FileLine) (a : Answer) → result_of h m l ≡ Refused a → IsValid m.image → IsRun m → Why h m l a
why h m None a is valid run = bad_why h m None a is
why h m (Some line) a is valid run = line_why h m line (line_of h line) a refl is valid run

why_cause : (h : Header) (m : Seen) (l : FileLine) (ls : List FileLine) (a : Answer) → result_of h m l ≡ Refused a → Why h m l a → IsCause h m (l ∷ ls) a a.status
why_cause h m l ls a is (IsBad n same) = subst (λ (x : Answer). result_of h m l ≡ Refused x → IsCause h m (l ∷ ls) x x.status) (sym same) (λ e. inl e) is
why_cause h m l ls a is (IsOther n given right same) = subst (λ (x : Answer). result_of h m l ≡ Refused x → IsCause h m (l ∷ ls) x x.status) (sym same) (λ e. inl e) is
why_cause h m l ls a is (IsForbidden never same) = subst (λ (x : Answer). IsCause h m (l ∷ ls) x x.status) (sym same) (never, refl)

-- ---- the tail is refused

data TailWhy (a : Answer) : Type 0 where
  IsBadTail : (n : ℕ) → a ≡ bad_trace n → TailWhy a
  IsOtherTail : (n : ℕ) (given right : List ℕ) → a ≡ differs n given right → TailWhy a

some_same : (x a : Answer) → Some x ≡ Some a → x ≡ a
some_same x a is = cc

item_why : (n : ℕ) (line right : List ℕ) (tailed same : Bool) (o : Option Answer) (a : Answer) → or_else (cond tailed (cond same None (Some (differs n line right))) (Some (bad_trace n))) o ≡ Some a → (o ≡ Some a → TailWhy a) → TailWhy a
item_why n line right true true o a is next = next is
item_why n line right true false o a is next = IsOtherTail n line right (sym (some_same (differs n line right) a is))
item_why n line right false same o a is next = IsBadTail n (sym (some_same (bad_trace n) a is))

tail_why : (h : Header) (n : ℕ) (items : List TailItem) (ls : List FileLine) (a : Answer) → tail_refusal h n items ls ≡ Some a → TailWhy a
unfolding tail_refusal
tail_why h n [] [] a is = cc
tail_why h n [] (l ∷ ls) a is = IsBadTail n (sym (some_same (bad_trace n) a is))
tail_why h n (i ∷ items) [] a is = IsBadTail n (sym (some_same (bad_trace n) a is))
tail_why h n (i ∷ items) (None ∷ ls) a is = IsBadTail n (sym (some_same (bad_trace n) a is))
tail_why h n (i ∷ items) (Some line ∷ ls) a is = item_why n line (tail_line i) (is_tail_line (line_of h line)) (bytes_eq (tail_line i) line) (tail_refusal h (n + 1) items ls) a is (λ rest. tail_why h (n + 1) items ls a rest)

-- ---- the front of a file

-- the lines of all up to the rest lead from a machine to another
record LeadsTo (h : Header) (start : Seen) (all rest : List FileLine) (m : Seen) : Type 0 where
  pub done : List FileLine
  pub parted : all ≡ reverse done ++ rest
  pub events : map (event_in h) done ≡ map Some (events_of m.records)
  pub right : AreRight h.full done m.records
  pub run : IsRun m
  pub image : m.image ≡ start.image
  pub cpus : m.cpus ≡ start.cpus
  pub budget : m.budget ≡ start.budget

-- by why a front ended, and the lines behind it
abbrev IsReason : Header → Seen → Option Answer → List FileLine → Type 0
IsReason h m None rest = EventsEnd h rest
IsReason h m (Some a) [] = ⊥
IsReason h m (Some a) (l ∷ ls) = result_of h m l ≡ Refused a

record EndsAt (h : Header) (start : Seen) (all : List FileLine) (f : Front) : Type 0 where
  pub leads : LeadsTo h start all f.rest f.machine
  pub reason : IsReason h f.machine f.refused f.rest

further : (line : FileLine) (done rest : List FileLine) → reverse done ++ line ∷ rest ≡ reverse (line ∷ done) ++ rest
further line done rest = sym (append_assoc (reverse done) (line ∷ []) rest) ∙ ap (λ (xs : List FileLine). xs ++ rest) (sym (reverse-append (line ∷ []) done))

leads_on : (h : Header) (start m : Seen) (all ls : List FileLine) (l : FileLine) (r : Record) → result_of h m l ≡ Recorded r → LeadsTo h start all (l ∷ ls) m → LeadsTo h start all ls (with_record m r)
leads_on h start m all ls l r is on =
    let by : RecordedBy h m l r = recorded_by h m l r is in
    record {
      done = l ∷ on.done;
      parted = on.parted ∙ further l on.done ls;
      events = rw by.shows (ap (λ (es : List (Option Event)). Some r.event ∷ es) on.events);
      right = λ full. rw (by.right full) (ap (λ (xs : List FileLine). Some (line_text r.event r.outcome) ∷ xs) (on.right full));
      run = record_runs m r by.gave on.run;
      image = on.image;
      cpus = on.cpus;
      budget = on.budget;
    }

ends_by : (h : Header) (start m : Seen) (all : List FileLine) (l : FileLine) (ls : List FileLine) (r : LineResult) → result_of h m l ≡ r → LeadsTo h start all (l ∷ ls) m
    → ((x : Record) → LeadsTo h start all ls (with_record m x) → EndsAt h start all (front_of h (with_record m x) ls)) → EndsAt h start all (front_of h m (l ∷ ls))
unfolding front_of
ends_by h start m all l ls (Recorded r) is on next = rw is (next r (leads_on h start m all ls l r is on))
ends_by h start m all l ls OfTail is on next = rw is (record { leads = on; reason = tail_begins h m l ls is })
ends_by h start m all l ls (Refused a) is on next = rw is (record { leads = on; reason = is })

ends_at : (h : Header) (start m : Seen) (all ls : List FileLine) → LeadsTo h start all ls m → EndsAt h start all (front_of h m ls)
unfolding front_of
ends_at h start m all [] on = record { leads = on; reason = tt }
ends_at h start m all (l ∷ ls) on = ends_by h start m all l ls (result_of h m l) refl on (λ x more. ends_at h start (with_record m x) all ls more)

-- ---- the whole answer

tail_cause : (h : Header) (m : Seen) (l : FileLine) (ls : List FileLine) (a : Answer) → EventsEnd h (l ∷ ls) → is_complete m ≡ true → tail_refusal h (next_line m) (tail_items m) (l ∷ ls) ≡ Some a → TailWhy a → IsCause h m (l ∷ ls) a a.status
tail_cause h m l ls a begins complete is (IsBadTail n same) =
    subst (λ (x : Answer). tail_refusal h (next_line m) (tail_items m) (l ∷ ls) ≡ Some x → IsCause h m (l ∷ ls) x x.status) (sym same) (λ e. inr (record { begins = begins; complete = complete; refused = e })) is
tail_cause h m l ls a begins complete is (IsOtherTail n given right same) =
    subst (λ (x : Answer). tail_refusal h (next_line m) (tail_items m) (l ∷ ls) ≡ Some x → IsCause h m (l ∷ ls) x x.status) (sym same) (λ e. inr (record { begins = begins; complete = complete; refused = e })) is

whole_cause : (h : Header) (m : Seen) (l : FileLine) (ls : List FileLine) (o : Option Answer) → EventsEnd h (l ∷ ls) → is_complete m ≡ true → tail_refusal h (next_line m) (tail_items m) (l ∷ ls) ≡ o
    → IsCause h m (l ∷ ls) (refused_or_whole m o) (refused_or_whole m o).status
whole_cause h m l ls None begins complete is = (complete, (begins, is))
whole_cause h m l ls (Some a) begins complete is = tail_cause h m l ls a begins complete is (tail_why h (next_line m) (tail_items m) (l ∷ ls) a is)

complete_cause : (h : Header) (m : Seen) (rest : List FileLine) → EventsEnd h rest → is_complete m ≡ true → IsCause h m rest (complete_ending h m rest) (complete_ending h m rest).status
complete_cause h m [] begins complete = (complete, (tt, tt))
complete_cause h m (l ∷ ls) begins complete = whole_cause h m l ls (tail_refusal h (next_line m) (tail_items m) (l ∷ ls)) begins complete refl

events_cause : (h : Header) (m : Seen) (rest : List FileLine) (complete : Bool) → is_complete m ≡ complete → EventsEnd h rest
    → (let e : Answer = cond complete (complete_ending h m rest) (incomplete (length m.records)) in IsCause h m rest e e.status)
events_cause h m rest true is begins = complete_cause h m rest begins is
events_cause h m rest false is begins = (is, (begins, refl))

cause_of : (h : Header) (m : Seen) (refused : Option Answer) (rest : List FileLine) → IsReason h m refused rest → IsValid m.image → IsRun m → IsCause h m rest (ending_by h m rest refused) (ending_by h m rest refused).status
cause_of h m None rest reason valid run = events_cause h m rest (is_complete m) refl reason
cause_of h m (Some a) [] reason valid run = absurd reason
cause_of h m (Some a) (l ∷ ls) reason valid run = why_cause h m l ls a reason (why h m l a reason valid run)

run_lawful : (image : Contents) (first : List ℕ) (h : Header) (ls : List FileLine) (f : Front) → IsValid image → header_of first ≡ Some h → (h.full ≡ true → h.memory ≡ image.size) → EndsAt h (started image h.cpus h.budget) ls f
    → ShowsRun image (Some first ∷ ls) (answer_of_front h f)
run_lawful image first h ls f valid is memory end =
    let here : IsValid f.machine.image = subst IsValid (sym end.leads.image) valid in
    record {
      header = h;
      machine = f.machine;
      ended = ending_by h f.machine f.rest f.refused;
      shown = refl;
      over = end.leads.image;
      cpus = end.leads.cpus;
      budget = end.leads.budget;
      first = first;
      done = end.leads.done;
      rest = f.rest;
      parted = ap (λ (xs : List FileLine). Some first ∷ xs) end.leads.parted;
      read = is;
      memory = memory;
      events = end.leads.events;
      right = end.leads.right;
      run = end.leads.run;
      constraints = keeps_constraints f.machine here end.leads.run;
      cause = cause_of h f.machine f.refused f.rest end.reason here end.leads.run;
    }

same_memory : (full same : Bool) → (full && not same) ≡ false → full ≡ true → same ≡ true
same_memory true true is full = refl
same_memory true false is full = cc
same_memory false same is full = cc

start_lawful : (image : Contents) (first : List ℕ) (h : Header) (ls : List FileLine) (other : Bool) → IsValid image → header_of first ≡ Some h → is_other_memory h (started image h.cpus h.budget) ≡ other
    → IsLawfulReplay image (Some first ∷ ls) (cond other (other_memory (started image h.cpus h.budget) first) (answer_of_run h (started image h.cpus h.budget) ls))
start_lawful image first h ls true valid is other =
    let parts = and_parts h.full (not (eqb h.memory image.size)) other in
    inr (inl (record { header = h; start = started image h.cpus h.budget; over = refl; first = first; more = ls; parted = refl; read = is; full = parts.0; other = not_true (eqb h.memory image.size) (sym parts.1); shown = refl }))
start_lawful image first h ls false valid is other =
    let start : Seen = started image h.cpus h.budget in
    inr (inr (run_lawful image first h ls (front_of h start ls) valid is (λ full. eqb-true h.memory image.size (same_memory h.full (eqb h.memory image.size) other full))
    (ends_at h start start ls ls (record { done = []; parted = refl; events = refl; right = λ full. refl; run = tt; image = refl; cpus = refl; budget = refl }))))

header_lawful : (image : Contents) (first : List ℕ) (h : Option Header) (ls : List FileLine) → IsValid image → header_of first ≡ h → IsLawfulReplay image (Some first ∷ ls) (answer_of_header image first h ls)
header_lawful image first None ls valid is = inl refl
header_lawful image first (Some h) ls valid is = start_lawful image first h ls (is_other_memory h (started image h.cpus h.budget)) valid is refl

lines_lawful : (image : Contents) (ls : List FileLine) → IsValid image → IsLawfulReplay image ls (answer_of_lines image ls)
lines_lawful image [] valid = inl refl
lines_lawful image (None ∷ ls) valid = inl refl
lines_lawful image (Some first ∷ ls) valid = header_lawful image first (header_of first) ls valid refl

limited : (image : Contents) (ls : List FileLine) (long : Bool) (a : Answer) → IsLawfulReplay image ls a → IsLawfulReplay image ls (cond long too_long a)
limited image ls true a is = inl refl
limited image ls false a is = is

check_limited : (image : Contents) (ls : List FileLine) (long : Bool) → IsLawfulCheck image ls (cond long too_long (checked_answer image ls))
check_limited image ls true = inl refl
check_limited image ls false = inr refl

trace_lawful : (task : TraceTask) (i t : List ℕ) (image : Contents) (bytes : List ℕ) → IsValid image → IsLawfulOver (Traced task i t) image (lines_of bytes) (answer_of_trace task image bytes)
trace_lawful tasks.Check i t image bytes valid = check_limited image (lines_of bytes) (nat_lt MAX_TRACE_BYTES (length bytes))
trace_lawful tasks.Replay i t image bytes valid = limited image (lines_of bytes) (nat_lt MAX_TRACE_BYTES (length bytes)) (answer_of_lines image (lines_of bytes)) (lines_lawful image (lines_of bytes) valid)

fault_at_once : (f : Option Fault) → RefusesAll (first_bad f)
fault_at_once None = refl
fault_at_once (Some f) = refl

long_at_once : (long : Bool) (a : Answer) → RefusesAll a → RefusesAll (cond long too_long a)
long_at_once true a is = refl
long_at_once false a is = is

no_image_at_once : (bytes : List ℕ) → RefusesAll (no_image bytes)
no_image_at_once bytes = long_at_once (nat_lt MAX_IMAGE_BYTES (length bytes)) (first_bad (first_fault bytes)) (fault_at_once (first_fault bytes))

-- over the end of a seeded run
seeded_lawful : (image : Contents) (cpus budget seed : ℕ) → IsValid image → cpus ≤ MAX_CPUS → ShowsSeeded image cpus budget seed (seeded_answer image cpus budget seed)
unfolding end_of
seeded_lawful image cpus budget seed valid few =
    let last : Ends image cpus budget (end_of (seeded_start image cpus budget seed)) = ends image cpus budget seed valid few in
    record {
      machine = end_of (seeded_start image cpus budget seed);
      shown = refl;
      seeded = refl;
      over = last.over.0;
      cpus_are = last.over.1;
      budget_is = last.over.2;
      complete = last.complete;
      run = last.run;
      constraints = keeps_constraints (end_of (seeded_start image cpus budget seed)) (subst IsValid (sym last.over.0) valid) last.run;
    }

-- of a source
elf_lawful : (f : Option elf_faults.Fault) (c : Contents) → ShowsImage (elf_answer_by f c)
elf_lawful (Some f) c = inl refl
elf_lawful None c = inr (c, refl)

asm_lawful : (r : Result Contents ℕ) → ShowsImage (asm_answer_by r)
asm_lawful (Ok c) = inr (c, refl)
asm_lawful (Err line) = inl refl

of_source_lawful : (source : SourceOrder) (bytes : List ℕ) → ShowsImage (answer_of_source source bytes)
of_source_lawful (Elf path memory stack table) bytes = elf_lawful (elf_faults.first_fault bytes memory) (executables.image_in bytes memory stack table)
of_source_lawful (Asm path) bytes = asm_lawful (assembled bytes)

long_or : (long : Bool) (a : Answer) → ShowsImage a → ShowsImage (cond long too_long_source a)
long_or true a is = inl refl
long_or false a is = is

source_lawful : (source : SourceOrder) (bytes : List ℕ) → ShowsImage (source_answer source bytes)
source_lawful source bytes = long_or (nat_lt (source_limit source) (length bytes)) (answer_of_source source bytes) (of_source_lawful source bytes)

source_told_lawful : (source : SourceOrder) (told : Option (List ℕ)) → IfSome (option_map (source_answer source) told) ShowsImage
source_told_lawful source None = tt
source_told_lawful source (Some bytes) = source_lawful source bytes

-- over the rounds of a summary
summary_lawful : (number : ℕ) → ShowsSummary number (summary_answer number)
summary_lawful number = record { shown = refl; rounds = whole_run number }

with_lawful : (order : ImageOrder) (image : Contents) (bytes : List ℕ) → IsValid image → IsLawful (Some (Over order)) (Some image) (lines_of bytes) (answer_with order image bytes)
with_lawful (Traced task i t) image bytes valid = trace_lawful task i t image bytes valid
with_lawful (Seed i cpus budget seed) image bytes valid = λ few. seeded_lawful image cpus budget seed valid few
with_lawful (Listing i) image bytes valid = refl

by_lawful : (order : ImageOrder) (first : List ℕ) (image : Option Contents) (bytes : List ℕ) → IfSome image IsValid → IsLawful (Some (Over order)) image (lines_of bytes) (answer_by order first image bytes)
by_lawful order first None bytes valid = no_image_at_once first
by_lawful order first (Some image) bytes valid = with_lawful order image bytes valid

-- over the lists that were handed over
pub over_lawful : (order : Option Order) (image trace : List ℕ) → IfSome (image_over order image) IsValid → IsLawful order (image_over order image) (lines_of trace) (answer_over order image trace)
over_lawful None image trace valid = refl
over_lawful (Some (Gen number)) image trace valid = summary_lawful number
over_lawful (Some (From source)) image trace valid = source_lawful source image
over_lawful (Some (Over order)) image trace valid = by_lawful order image (image_in image) trace valid

-- ---- a file's image is valid

in_limit : (long : Bool) (bytes : List ℕ) → AreBytes bytes → IfSome (cond long None (image_of bytes)) IsValid
in_limit true bytes all = tt
in_limit false bytes all = read (image_of bytes) refl
  where
    read : (o : Option Contents) → image_of bytes ≡ o → IfSome o IsValid
    read None is = tt
    read (Some c) is = image_says bytes c all is

pub valid_in : (bytes : List ℕ) → AreBytes bytes → IfSome (image_in bytes) IsValid
valid_in bytes all = in_limit (nat_lt MAX_IMAGE_BYTES (length bytes)) bytes all

-- ---- over the lists that are told

told_if_lawful : (order : ImageOrder) (image : Contents) (trace : Option (List ℕ)) → IsValid image → IfSome (answer_if_told order image trace) (IsLawful (Some (Over order)) (Some image) (lines_of_file trace))
told_if_lawful (Traced task i t) image None valid = tt
told_if_lawful (Traced task i t) image (Some bytes) valid = trace_lawful task i t image bytes valid
told_if_lawful (Seed i cpus budget seed) image trace valid = λ few. seeded_lawful image cpus budget seed valid few
told_if_lawful (Listing i) image trace valid = refl

image_lawful : (order : ImageOrder) (first : List ℕ) (image : Option Contents) (trace : Option (List ℕ)) → IfSome image IsValid → IfSome (answer_of_image order first image trace) (IsLawful (Some (Over order)) image (lines_of_file trace))
image_lawful order first None trace valid = no_image_at_once first
image_lawful order first (Some image) trace valid = told_if_lawful order image trace valid

files_lawful : (order : ImageOrder) (image trace : Option (List ℕ)) → IfSome image AreBytes → IfSome (answer_of_files order image trace) (IsLawful (Some (Over order)) (image_of_file image) (lines_of_file trace))
files_lawful order None trace all = tt
files_lawful order (Some bytes) trace all = image_lawful order bytes (image_in bytes) trace (valid_in bytes all)

pub told_lawful : (order : Option Order) (told : List ℕ → Option (List ℕ)) → IfSome (image_told order told) AreBytes → IfSome (answers.answer_of order told) (IsLawful order (image_of_file (image_told order told)) (lines_of_file (trace_told order told)))
told_lawful None told all = refl
told_lawful (Some (Gen number)) told all = summary_lawful number
told_lawful (Some (From source)) told all = source_told_lawful source (told (source_name source))
told_lawful (Some (Over order)) told all = files_lawful order (told (image_name order)) (trace_told_by order told) all
