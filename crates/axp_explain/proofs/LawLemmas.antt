-- A file whose answer is that an event is not legal has a reason: the walk to the reason passes the same lines as the answer.
use Rattle.std.proofs.Common.{◌≡◌, ℕ, ◌+◌, Bool, true, false, cond, List, [], ◌∷◌, Option, Some, None, is_some, refl, sym, ◌∙◌}
use Rattle.std.specs.Prelude.{Result, Ok, Err}
use Rattle.std.specs.Str.{bytes_eq}
use Rattle.axp_access.specs.declared.Event.{Event}
use Rattle.axp_access.specs.declared.Outcome.{Outcome}
use Rattle.axp_access.specs.declared.Record.{Record}
use Rattle.axp_access.specs.declared.tail_items.TailItem.{TailItem}
use Rattle.axp_cpu.specs.declared.refusals.NotLegal.{NotLegal}
use Rattle.axp_explain.specs.Reasons.{by_answer, by_event, behind, event_in, reason_among, reason_behind, reason_of_lines}
use Rattle.axp_image.specs.Contents.{Contents, IsValid}
use Rattle.axp_machine.proofs.RunLemmas.{refused_exactly}
use Rattle.axp_machine.specs.Runs.{Seen, IsRun, after_answer, after_event, answer_of, is_complete, processors_of, started, with_record}
use Rattle.axp_machine.specs.Tails.{tail_items}
use Rattle.axp_top.specs.Replays.{Answer, FileLine, Front, LineResult, Recorded, Refused, answer_of_header, answer_of_lines, answer_of_run, by_result, complete_ending, differs, ending_of, event_result, front_of, incomplete, is_in_order, is_other_memory, is_tail_line, next_line, or_else, other_memory, refused_line, refused_or_whole, result_by, shown_result, tail_refusal, bad_trace}
use Rattle.axp_top.specs.declared.status.Status.{Status}
use Rattle.axp_top.specs.declared.status.Status.TheVariants as status
use Rattle.axp_trace.specs.Lines.{line_text, tail_line}
use Rattle.axp_trace.specs.Reading.{header_of}
use Rattle.axp_trace.specs.TraceLines.{line_of}
use Rattle.axp_trace.specs.declared.headers.Header.{Header}
use Rattle.axp_trace.specs.declared.lines.TraceLine.{TraceLine}
use Rattle.axp_trace.specs.declared.lines.TraceLine.TheVariants.{Bare, Full, Tail}
use Rattle.axp_world.proofs.RunReasons.{reason_exactly}
use Rattle.axp_world.specs.Reasons.{reason}

-- ---- an end at which no event is refused

-- a status that refuses an event
abbrev forbids : Status → Bool
forbids (status.NotLegal n) = true
forbids _ = false

allowed : (s : Status) (n : ℕ) → forbids s ≡ false → s ≡ status.NotLegal n → ⊥
allowed (status.NotLegal k) n none is = cc
allowed s n none is = cc

-- a tail may be refused, but for no event
abbrev forbids_in : Option Answer → Bool
forbids_in None = false
forbids_in (Some a) = forbids a.status

item_allowed : (n : ℕ) (line right : List ℕ) (tailed same : Bool) (o : Option Answer) → forbids_in o ≡ false → forbids_in (or_else (cond tailed (cond same None (Some (differs n line right))) (Some (bad_trace n))) o) ≡ false
item_allowed n line right true true o next = next
item_allowed n line right true false o next = refl
item_allowed n line right false same o next = refl

tail_allowed : (h : Header) (n : ℕ) (items : List TailItem) (ls : List FileLine) → forbids_in (tail_refusal h n items ls) ≡ false
unfolding tail_refusal
tail_allowed h n [] [] = refl
tail_allowed h n [] (l ∷ ls) = refl
tail_allowed h n (i ∷ items) [] = refl
tail_allowed h n (i ∷ items) (None ∷ ls) = refl
tail_allowed h n (i ∷ items) (Some line ∷ ls) = item_allowed n line (tail_line i) (is_tail_line (line_of h line)) (bytes_eq (tail_line i) line) (tail_refusal h (n + 1) items ls) (tail_allowed h (n + 1) items ls)

whole_allowed : (m : Seen) (o : Option Answer) → forbids_in o ≡ false → forbids (refused_or_whole m o).status ≡ false
whole_allowed m None none = refl
whole_allowed m (Some a) none = none

complete_allowed : (h : Header) (m : Seen) (rest : List FileLine) → forbids (complete_ending h m rest).status ≡ false
complete_allowed h m [] = refl
complete_allowed h m (l ∷ ls) = whole_allowed m (tail_refusal h (next_line m) (tail_items m) (l ∷ ls)) (tail_allowed h (next_line m) (tail_items m) (l ∷ ls))

-- where the events end
end_allowed : (h : Header) (m : Seen) (rest : List FileLine) (complete : Bool) (count : ℕ) → forbids (cond complete (complete_ending h m rest) (incomplete count)).status ≡ false
end_allowed h m rest true count = complete_allowed h m rest
end_allowed h m rest false count = refl

-- ---- a line

-- where the lines behind a front end
abbrev ends_in : Header → Front → Status
ends_in h f = (ending_of h f).status

-- the front by what comes of its first line
abbrev front_by : Header → Seen → List FileLine → List FileLine → LineResult → Front
front_by h m all ls x = by_result x (λ r. front_of h (with_record m r) ls) (record { machine = m; refused = None; rest = all }) (λ a. record { machine = m; refused = Some a; rest = all })

-- the lines behind have a reason, over each run with one record more
abbrev Goes : Header → Seen → List FileLine → ℕ → Type 0
Goes h m ls n = (r : Record) → IsRun (with_record m r) → ends_in h (front_of h (with_record m r) ls) ≡ status.NotLegal n → is_some (reason_among h (with_record m r) ls) ≡ true

record_runs : (m : Seen) (e : Event) (o : Outcome) → answer_of m e ≡ Ok o → IsRun m → IsRun (with_record m (record { event = e; outcome = o }))
unfolding answer_of
record_runs m e o gave run = (gave, run)

-- an event that is refused has a reason
refused_has : (m : Seen) (e : Event) (x : NotLegal) → answer_of m e ≡ Err x → IsValid m.image → IsRun m → is_some (reason (processors_of m) m.records e) ≡ true
refused_has m e x gave valid run = reason_exactly (processors_of m) m.records e ∙ sym (refused_exactly m e (Err x) (sym gave) valid run)

bare_has : (h : Header) (m : Seen) (all ls : List FileLine) (n : ℕ) (e : Event) (a : Result Outcome NotLegal) → answer_of m e ≡ a → IsValid m.image → IsRun m → Goes h m ls n
    → ends_in h (front_by h m all ls (event_result m e a)) ≡ status.NotLegal n → is_some (by_answer m e a (reason_among h (after_answer m e a) ls)) ≡ true
bare_has h m all ls n e (Ok o) gave valid run goes is = goes (record { event = e; outcome = o }) (record_runs m e o gave run) is
bare_has h m all ls n e (Err x) gave valid run goes is = refused_has m e x gave valid run

right_has : (h : Header) (m : Seen) (all ls : List FileLine) (n k : ℕ) (line : List ℕ) (e : Event) (o : Outcome) (same : Bool) → answer_of m e ≡ Ok o → IsRun m → Goes h m ls n
    → ends_in h (front_by h m all ls (cond same (Recorded (record { event = e; outcome = o })) (Refused (differs k line (line_text e o))))) ≡ status.NotLegal n
    → is_some (reason_among h (with_record m (record { event = e; outcome = o })) ls) ≡ true
right_has h m all ls n k line e o true gave run goes is = goes (record { event = e; outcome = o }) (record_runs m e o gave run) is
right_has h m all ls n k line e o false gave run goes is = absurd (allowed (status.Differs k) n refl is)

shown_has : (h : Header) (m : Seen) (all ls : List FileLine) (n : ℕ) (line : List ℕ) (e : Event) (a : Result Outcome NotLegal) → answer_of m e ≡ a → IsValid m.image → IsRun m → Goes h m ls n
    → ends_in h (front_by h m all ls (shown_result m line e a)) ≡ status.NotLegal n → is_some (by_answer m e a (reason_among h (after_answer m e a) ls)) ≡ true
shown_has h m all ls n line e (Ok o) gave valid run goes is = right_has h m all ls n (next_line m) line e o (bytes_eq (line_text e o) line) gave run goes is
shown_has h m all ls n line e (Err x) gave valid run goes is = refused_has m e x gave valid run

full_has : (h : Header) (m : Seen) (all ls : List FileLine) (n : ℕ) (line : List ℕ) (e : Event) (ordered : Bool) → IsValid m.image → IsRun m → Goes h m ls n
    → ends_in h (front_by h m all ls (cond ordered (shown_result m line e (answer_of m e)) (refused_line m))) ≡ status.NotLegal n
    → is_some (by_answer m e (answer_of m e) (reason_among h (after_answer m e (answer_of m e)) ls)) ≡ true
full_has h m all ls n line e true valid run goes is = shown_has h m all ls n line e (answer_of m e) refl valid run goes is
full_has h m all ls n line e false valid run goes is = absurd (allowed (status.BadTrace (next_line m)) n refl is)

line_has : (h : Header) (m : Seen) (all ls : List FileLine) (n : ℕ) (line : List ℕ) (l : Option TraceLine) → IsValid m.image → IsRun m → Goes h m ls n
    → ends_in h (front_by h m all ls (result_by m line l)) ≡ status.NotLegal n → is_some (by_event m (event_in l) (reason_among h (behind m (event_in l)) ls)) ≡ true
unfolding after_event
line_has h m all ls n line None valid run goes is = absurd (allowed (status.BadTrace (next_line m)) n refl is)
line_has h m all ls n line (Some (Bare e)) valid run goes is = bare_has h m all ls n e (answer_of m e) refl valid run goes is
line_has h m all ls n line (Some (Full e o)) valid run goes is = full_has h m all ls n line e (is_in_order m e o) valid run goes is
line_has h m all ls n line (Some Tail) valid run goes is = absurd (allowed _ n (end_allowed h m all (is_complete m) _) is)

-- ---- all lines

among_has : (h : Header) (m : Seen) (ls : List FileLine) (n : ℕ) → IsValid m.image → IsRun m → ends_in h (front_of h m ls) ≡ status.NotLegal n → is_some (reason_among h m ls) ≡ true
unfolding front_of reason_among
among_has h m [] n valid run is = absurd (allowed _ n (end_allowed h m [] (is_complete m) _) is)
among_has h m (None ∷ ls) n valid run is = absurd (allowed (status.BadTrace (next_line m)) n refl is)
among_has h m (Some line ∷ ls) n valid run is =
    line_has h m (Some line ∷ ls) ls n line (line_of h line) valid run (λ r more ends. among_has h (with_record m r) ls n valid more ends) is

start_has : (h : Header) (m : Seen) (first : List ℕ) (ls : List FileLine) (n : ℕ) (other : Bool) → IsValid m.image → IsRun m → (let a : Answer = cond other (other_memory m first) (answer_of_run h m ls) in a.status) ≡ status.NotLegal n → is_some (reason_among h m ls) ≡ true
start_has h m first ls n true valid run is = absurd (allowed (status.Differs 1) n refl is)
start_has h m first ls n false valid run is = among_has h m ls n valid run is

header_has : (image : Contents) (first : List ℕ) (h : Option Header) (ls : List FileLine) (n : ℕ) → IsValid image → (answer_of_header image first h ls).status ≡ status.NotLegal n → is_some (reason_behind image h ls) ≡ true
header_has image first None ls n valid is = absurd (allowed (status.BadTrace 1) n refl is)
header_has image first (Some h) ls n valid is = start_has h (started image h.cpus h.budget) first ls n (is_other_memory h (started image h.cpus h.budget)) valid tt is

pub lines_have : (image : Contents) (ls : List FileLine) (n : ℕ) → IsValid image → (answer_of_lines image ls).status ≡ status.NotLegal n → is_some (reason_of_lines image ls) ≡ true
lines_have image [] n valid is = absurd (allowed (status.BadTrace 1) n refl is)
lines_have image (None ∷ ls) n valid is = absurd (allowed (status.BadTrace 1) n refl is)
lines_have image (Some first ∷ ls) n valid is = header_has image first (header_of first) ls n valid is
