-- From how the work ended to what each status says.
use Rattle.std.proofs.Common.{◌≡◌, ◌⊎◌, ⊎_elim, ℕ, zero, suc, ◌+◌, ◌<◌, Bool, true, false, cond, List, [], ◌∷◌, ◌++◌, length, Option, Some, None, Result, Ok, Err, IfSome, refl, sym, ap, ◌∙◌, subst, inl, inr, append_assoc, arith}
use Rattle.std.specs.Prelude.{nat_lt}
use Rattle.std.specs.List.{concat}
use Rattle.std.specs.Str.{bytes_eq}
use Rattle.std.proofs.lemmas.List.Folds.{concat-append}
use Rattle.axp_access.specs.declared.Event.{Event}
use Rattle.axp_access.specs.declared.Outcome.{Outcome}
use Rattle.axp_access.specs.declared.Record.{Record}
use Rattle.axp_access.specs.declared.tail_items.TailItem.{TailItem}
use Rattle.axp_cpu.specs.declared.refusals.NotLegal.{NotLegal}
use Rattle.axp_asm.specs.Listings.{listing}
use Rattle.axp_asm.specs.Sources.{assembled}
use Rattle.axp_image.specs.Contents.{Contents, byte_in}
use Rattle.axp_image.specs.Spelling.{spelling}
use Rattle.axp_image.specs.Faults.{Fault, first_fault}
use Rattle.axp_io.specs.Causes.{AppendsFront, Ask, Rose, raised}
use Rattle.axp_io.proofs.Fronts.{front_none, rose_by_one}
use Rattle.axp_machine.specs.Runs.{Seen, answer_of, is_complete, started, with_record}
use Rattle.axp_machine.specs.Tails.{tail_items}
use Rattle.axp_trace.specs.declared.headers.Header.{Header}
use Rattle.axp_trace.specs.declared.lines.TraceLine.{TraceLine}
use Rattle.axp_trace.specs.declared.lines.TraceLine.TheVariants.{Bare, Full, Tail}
use Rattle.axp_trace.specs.Files.{lines_of}
use Rattle.axp_trace.specs.Lines.{line_text, tail_line}
use Rattle.axp_trace.specs.Reading.{header_of}
use Rattle.axp_trace.specs.TraceLines.{line_of}
use Rattle.axp_top.specs.declared.limits.TheConstants.{MAX_IMAGE_BYTES, MAX_TRACE_BYTES}
use Rattle.axp_top.specs.declared.printing.Stop.TheVariants as stop
use Rattle.axp_top.specs.declared.status.Status.{Status}
use Rattle.axp_top.specs.declared.status.Status.TheVariants as status
use Rattle.axp_seed.specs.Seeds.{end_of, seeded_start}
use Rattle.axp_top.specs.SeededRuns.{whole_answer}
use Rattle.axp_top.specs.Answers.{answer_by, answer_of_trace, answer_to_lines, answer_over, answer_with, more_asks, asks_by, asks_of, first_bad, image_in, no_image, read_fault, too_long, usage}
use Rattle.axp_top.specs.Lawful.{image_over}
use Rattle.axp_top.specs.Outside.{Outside, SinkState}
use Rattle.axp_top.specs.Printing.{Ends, LacksAt, Stopped, StopsAt, after_puts, stop_of}
use Rattle.axp_check.specs.declared.Verdict.{Verdict}
use Rattle.axp_check.specs.declared.Verdict.TheVariants.{Consistent, Violated}
use Rattle.axp_check.specs.Verdicts.{verdict}
use Rattle.axp_history.specs.Shown.{list_of}
use Rattle.axp_history.specs.Traces.{BadLine, Records, Shown, trace_shown}
use Rattle.axp_top.specs.declared.trace_tasks.TraceTask.{TraceTask}
use Rattle.axp_top.specs.declared.trace_tasks.TraceTask.TheVariants as tasks
use Rattle.axp_top.specs.Checks.{answer_of_shown, verdict_answer}
use Rattle.axp_top.specs.Replays.{Answer, FileLine, LineResult, OfTail, Recorded, Refused, answer_in_one_line, answer_of_header, answer_of_lines, answer_of_run, answer_of_start, bad_trace, complete_ending, differs, ending_by, ending_of, event_result, front_of, incomplete, is_in_order, is_other_memory, is_tail_line, item_refusal, next_line, not_legal, or_else, other_memory, refused_line, refused_or_whole, result_by, result_of, shown_result, tail_refusal}
use Rattle.axp_top.specs.Serving.{Course}
use Rattle.axp_top.specs.Statuses.{AsksFailed, AsksFront, AsksInTurn, AsksNeeded, DeskCount, PutsEach, PutsLines, Settles, SinkCount}
use Rattle.axp_top.specs.Texts.{Lines, header_text, record_lines, right_header, tail}
use Rattle.axp_summary.specs.Summaries.{summary_of}
use Rattle.axp_elf.specs.Executables as executables
use Rattle.axp_elf.specs.Faults as elf_faults
use Rattle.axp_top.specs.ImageFiles.{answer_of_source, asm_answer_by, elf_answer_by, source_answer, source_ask, source_limit}
use Rattle.axp_top.specs.SummaryTexts.{all_count_lines, events_text, summary_answer, title_text}
use Rattle.axp_top.specs.Words.{Asm, Elf, From, Gen, ImageOrder, Listing, Order, Over, Seed, SourceOrder, Traced}

-- ---- answers

-- an answer is no read fault, and has a line
pub record IsAnswer (a : Answer) : Type 0 where
  pub differs : status.ReadFault ≡ a.status → ⊥
  pub some : 0 < length a.lines

-- the status is one of the edge's
abbrev is_of_edge : Status → Bool
is_of_edge status.ReadFault = true
is_of_edge status.WriteFault = true
is_of_edge status.Memory = true
is_of_edge _ = false

no_fault : (s : Status) → is_of_edge s ≡ false → status.ReadFault ≡ s → ⊥
no_fault s is e = let never : true ≡ false = ap is_of_edge e ∙ is in cc

-- and no other stops the work
no_stop : (s : Status) → is_of_edge s ≡ false → stop_of s ≡ None
no_stop status.ReadFault is = cc
no_stop status.WriteFault is = cc
no_stop status.Memory is = cc
no_stop s is = refl

one_is : (s : Status) (line : List ℕ) → is_of_edge s ≡ false → IsAnswer (answer_in_one_line s line)
one_is s line is = record { differs = no_fault s is; some = omega arith }

-- no ending of a run is one
abbrev pub IsEnding : Answer → Type 0
IsEnding a = is_of_edge a.status ≡ false

event_ending : (m : Seen) (line : List ℕ) (e : Event) (r : Result Outcome NotLegal) (a : Answer) → shown_result m line e r ≡ Refused a → IsEnding a
event_ending m line e (Ok o) a is = by (bytes_eq (line_text e o) line) is where
  by : (same : Bool) → cond same (Recorded (record { event = e; outcome = o })) (Refused (differs (next_line m) line (line_text e o))) ≡ Refused a → IsEnding a
  by true is = cc
  by false is = let same : differs (next_line m) line (line_text e o) ≡ a = cc in subst IsEnding same refl
event_ending m line e (Err x) a is = let same : not_legal (length m.records + 1) ≡ a = cc in subst IsEnding same refl

full_ending : (m : Seen) (line : List ℕ) (e : Event) (o : Outcome) (ordered : Bool) (a : Answer) → cond ordered (shown_result m line e (answer_of m e)) (refused_line m) ≡ Refused a → IsEnding a
full_ending m line e o true a is = event_ending m line e (answer_of m e) a is
full_ending m line e o false a is = let same : bad_trace (next_line m) ≡ a = cc in subst IsEnding same refl

bare_ending : (m : Seen) (e : Event) (r : Result Outcome NotLegal) (a : Answer) → event_result m e r ≡ Refused a → IsEnding a
bare_ending m e (Ok o) a is = cc
bare_ending m e (Err x) a is = let same : not_legal (length m.records + 1) ≡ a = cc in subst IsEnding same refl

line_ending : (m : Seen) (line : List ℕ) (l : Option TraceLine) (a : Answer) → result_by m line l ≡ Refused a → IsEnding a
line_ending m line None a is = let same : bad_trace (next_line m) ≡ a = cc in subst IsEnding same refl
line_ending m line (Some (Bare e)) a is = bare_ending m e (answer_of m e) a is
line_ending m line (Some (Full e o)) a is = full_ending m line e o (is_in_order m e o) a is
line_ending m line (Some Tail) a is = cc

pub result_ending : (h : Header) (m : Seen) (l : FileLine) (a : Answer) → result_of h m l ≡ Refused a → IsEnding a
result_ending h m None a is = let same : bad_trace (next_line m) ≡ a = cc in subst IsEnding same refl
result_ending h m (Some line) a is = line_ending m line (line_of h line) a is

-- a front's refusal
front_ending_by : (h : Header) (m : Seen) (l : FileLine) (ls : List FileLine) (r : LineResult) → result_of h m l ≡ r → ((x : Record) → IfSome (front_of h (with_record m x) ls).refused IsEnding) → IfSome (front_of h m (l ∷ ls)).refused IsEnding
unfolding front_of
front_ending_by h m l ls (Recorded x) is next = rw is (next x)
front_ending_by h m l ls OfTail is next = rw is tt
front_ending_by h m l ls (Refused a) is next = rw is (result_ending h m l a is)

front_ending : (h : Header) (m : Seen) (ls : List FileLine) → IfSome (front_of h m ls).refused IsEnding
unfolding front_of
front_ending h m [] = tt
front_ending h m (l ∷ ls) = front_ending_by h m l ls (result_of h m l) refl (λ x. front_ending h (with_record m x) ls)

-- the tail's
item_ending : (h : Header) (n : ℕ) (line right : List ℕ) (tailed same : Bool) → IfSome (cond tailed (cond same None (Some (differs n line right))) (Some (bad_trace n))) IsEnding
item_ending h n line right true true = tt
item_ending h n line right true false = refl
item_ending h n line right false same = refl

or_ending : (o p : Option Answer) → IfSome o IsEnding → IfSome p IsEnding → IfSome (or_else o p) IsEnding
or_ending None p first next = next
or_ending (Some a) p first next = first

tail_ending : (h : Header) (n : ℕ) (items : List TailItem) (ls : List FileLine) → IfSome (tail_refusal h n items ls) IsEnding
unfolding tail_refusal
tail_ending h n [] [] = tt
tail_ending h n [] (l ∷ ls) = refl
tail_ending h n (i ∷ items) [] = refl
tail_ending h n (i ∷ items) (None ∷ ls) = refl
tail_ending h n (i ∷ items) (Some line ∷ ls) =
    or_ending (item_refusal h n line (tail_line i)) (tail_refusal h (n + 1) items ls) (item_ending h n line (tail_line i) (is_tail_line (line_of h line)) (bytes_eq (tail_line i) line)) (tail_ending h (n + 1) items ls)

whole_or : (m : Seen) (o : Option Answer) → IfSome o IsEnding → IsEnding (refused_or_whole m o)
whole_or m None is = refl
whole_or m (Some a) is = is

complete_is : (h : Header) (m : Seen) (ls : List FileLine) → IsEnding (complete_ending h m ls)
complete_is h m [] = refl
complete_is h m (l ∷ ls) = whole_or m (tail_refusal h (next_line m) (tail_items m) (l ∷ ls)) (tail_ending h (next_line m) (tail_items m) (l ∷ ls))

events_are : (m : Seen) (complete : Bool) (a : Answer) → IsEnding a → IsEnding (cond complete a (incomplete (length m.records)))
events_are m true a is = is
events_are m false a is = refl

ending_is : (h : Header) (m : Seen) (rest : List FileLine) (o : Option Answer) → IfSome o IsEnding → IsEnding (ending_by h m rest o)
ending_is h m rest (Some a) is = is
ending_is h m rest None is = events_are m (is_complete m) (complete_ending h m rest) (complete_is h m rest)

headed : (x : List ℕ) (xs ys : Lines) → 0 < length ((x ∷ xs) ++ ys)
headed x xs ys = omega arith

pub run_ending : (h : Header) (m : Seen) (ls : List FileLine) → IsEnding (answer_of_run h m ls)
run_ending h m ls = ending_is h (front_of h m ls).machine (front_of h m ls).rest (front_of h m ls).refused (front_ending h m ls)

run_is : (h : Header) (m : Seen) (ls : List FileLine) → IsAnswer (answer_of_run h m ls)
run_is h m ls = record { differs = no_fault (answer_of_run h m ls).status (run_ending h m ls); some = headed (header_text (front_of h m ls).machine) (record_lines (front_of h m ls).machine.records) (ending_of h (front_of h m ls)).lines }

start_ending : (h : Header) (m : Seen) (first : List ℕ) (ls : List FileLine) (other : Bool) → IsEnding (cond other (other_memory m first) (answer_of_run h m ls))
start_ending h m first ls true = refl
start_ending h m first ls false = run_ending h m ls

-- so no answer to a file stops the work
pub start_plain : (h : Header) (m : Seen) (first : List ℕ) (ls : List FileLine) → stop_of (answer_of_start h m first ls).status ≡ None
start_plain h m first ls = no_stop (answer_of_start h m first ls).status (start_ending h m first ls (is_other_memory h m))

start_is : (h : Header) (m : Seen) (first : List ℕ) (ls : List FileLine) (other : Bool) → IsAnswer (cond other (other_memory m first) (answer_of_run h m ls))
start_is h m first ls true = record { differs = no_fault (status.Differs 1) refl; some = headed (header_text m) (record_lines m.records) (differs 1 first (right_header m)).lines }
start_is h m first ls false = run_is h m ls

header_is : (image : Contents) (first : List ℕ) (h : Option Header) (ls : List FileLine) → IsAnswer (answer_of_header image first h ls)
header_is image first None ls = one_is (status.BadTrace 1) _ refl
header_is image first (Some h) ls = start_is h (started image h.cpus h.budget) first ls (is_other_memory h (started image h.cpus h.budget))

lines_are : (image : Contents) (ls : List FileLine) → IsAnswer (answer_of_lines image ls)
lines_are image [] = one_is (status.BadTrace 1) _ refl
lines_are image (None ∷ ls) = one_is (status.BadTrace 1) _ refl
lines_are image (Some first ∷ ls) = header_is image first (header_of first) ls

long_is : IsAnswer too_long
long_is = one_is status.TooLong _ refl

by_length : (long : Bool) (a : Answer) → IsAnswer a → IsAnswer (cond long too_long a)
by_length true a is = long_is
by_length false a is = is

verdict_is : (v : Verdict) → IsAnswer (verdict_answer v)
verdict_is Consistent = record { differs = no_fault status.Done refl; some = omega arith }
verdict_is (Violated rule first second) = one_is (status.Violated rule first second) _ refl

shown_is : (image : Contents) (shown : Shown) → IsAnswer (answer_of_shown image shown)
shown_is image (Records h) = verdict_is (verdict (byte_in image.segments) (list_of 0 h))
shown_is image (BadLine n) = one_is (status.BadTrace n) _ refl

to_lines_is : (task : TraceTask) (image : Contents) (ls : List FileLine) → IsAnswer (answer_to_lines task image ls)
to_lines_is tasks.Replay image ls = lines_are image ls
to_lines_is tasks.Check image ls = shown_is image (trace_shown ls)

pub trace_is : (task : TraceTask) (image : Contents) (bytes : List ℕ) → IsAnswer (answer_of_trace task image bytes)
trace_is task image bytes = by_length (nat_lt MAX_TRACE_BYTES (length bytes)) (answer_to_lines task image (lines_of bytes)) (to_lines_is task image (lines_of bytes))

fault_is : (f : Option Fault) → IsAnswer (first_bad f)
fault_is None = long_is
fault_is (Some f) = one_is (status.BadImage f.0 f.1) _ refl

no_image_is : (bytes : List ℕ) → IsAnswer (no_image bytes)
no_image_is bytes = by_length (nat_lt MAX_IMAGE_BYTES (length bytes)) (first_bad (first_fault bytes)) (fault_is (first_fault bytes))

-- the whole text of a seeded run
whole_is : (m : Seen) → IsAnswer (whole_answer m)
whole_is m = record { differs = no_fault status.Done refl; some = headed (header_text m) (record_lines m.records) (tail m) }

-- one piece, and all is done
piece_is : (piece : List ℕ) → IsAnswer (record { status = status.Done; lines = piece ∷ [] })
piece_is piece = record { differs = no_fault status.Done refl; some = omega arith }

pub with_is : (order : ImageOrder) (image : Contents) (bytes : List ℕ) → IsAnswer (answer_with order image bytes)
with_is (Traced task i t) image bytes = trace_is task image bytes
with_is (Seed i cpus budget seed) image bytes = whole_is (end_of (seeded_start image cpus budget seed))
with_is (Listing i) image bytes = piece_is (listing image)

pub answer_is : (order : ImageOrder) (first : List ℕ) (image : Option Contents) (bytes : List ℕ) → IsAnswer (answer_by order first image bytes)
answer_is order first None bytes = no_image_is first
answer_is order first (Some image) bytes = with_is order image bytes

summary_is : (number : ℕ) → IsAnswer (summary_answer number)
summary_is number = record { differs = no_fault status.Done refl; some = headed (title_text number (summary_of number)) (all_count_lines (summary_of number)) (events_text (summary_of number) ∷ []) }

elf_is : (f : Option elf_faults.Fault) (c : Contents) → IsAnswer (elf_answer_by f c)
elf_is (Some f) c = one_is (status.BadElf f.0 f.1) _ refl
elf_is None c = piece_is (spelling c)

asm_is : (r : Result Contents ℕ) → IsAnswer (asm_answer_by r)
asm_is (Ok c) = piece_is (spelling c)
asm_is (Err line) = one_is (status.BadSource line) _ refl

of_source_is : (source : SourceOrder) (bytes : List ℕ) → IsAnswer (answer_of_source source bytes)
of_source_is (Elf path memory stack table) bytes = elf_is (elf_faults.first_fault bytes memory) (executables.image_in bytes memory stack table)
of_source_is (Asm path) bytes = asm_is (assembled bytes)

pub source_is : (source : SourceOrder) (bytes : List ℕ) → IsAnswer (source_answer source bytes)
source_is source bytes = by_length (nat_lt (source_limit source) (length bytes)) (answer_of_source source bytes) (of_source_is source bytes)

usage_is : IsAnswer usage
usage_is = one_is status.Usage _ refl

pub over_is : (order : Option Order) (first trace : List ℕ) → IsAnswer (answer_over order first trace)
over_is None first trace = usage_is
over_is (Some (Gen number)) first trace = summary_is number
over_is (Some (From source)) first trace = source_is source first
over_is (Some (Over order)) first trace = answer_is order first (image_in first) trace

-- ---- the text

-- where a line was not taken whole, a front of the text was
stops_front : (b n : SinkState) (xs : Lines) (part : List ℕ) → StopsAt b n xs part → AppendsFront b.taken n.taken (concat xs)
stops_front b n xs part stops = (
  concat stops.whole ++ part,
  stops.missing ++ concat stops.others,
  ap concat stops.parted ∙ concat-append stops.whole (stops.line ∷ stops.others) ∙ ap (λ (t : List ℕ). concat stops.whole ++ (t ++ concat stops.others)) stops.cut ∙ simp append_assoc,
  stops.text,
)

lacks_front : (b n : SinkState) (xs : Lines) → LacksAt b n xs → AppendsFront b.taken n.taken (concat xs)
lacks_front b n xs lacks = (
  concat lacks.whole,
  concat lacks.others,
  ap concat lacks.parted ∙ concat-append lacks.whole lacks.others,
  lacks.text,
)

unmoved_front : (b n : SinkState) (text : List ℕ) → n ≡ b → AppendsFront b.taken n.taken text
unmoved_front b n text same = subst (λ (x : SinkState). AppendsFront b.taken x.taken text) (sym same) (front_none b.taken text)

-- a front for want of memory
unfound_front : (b n : SinkState) (xs : Lines) → (n ≡ b) ⊎ Stopped b n xs stop.Memory → AppendsFront b.taken n.taken (concat xs)
unfound_front b n xs (inl same) = unmoved_front b n (concat xs) same
unfound_front b n xs (inr stops) = ⊎_elim (λ h. stops_front b n xs [] h) (λ h. lacks_front b n xs h) stops.0

pub settles : (b n : Outside) (a : Answer) (asks : List Ask) (s : Status) → IsAnswer a → Course b n a asks s → Settles b n a s
settles b n a asks status.ReadFault is (inl h) = absurd (is.differs h.ends.0)
settles b n a asks status.WriteFault is (inl h) = inl (stops_front b.sink n.sink a.lines h.ends.0.0 h.ends.0.1)
settles b n a asks status.Memory is (inl h) = inl (unfound_front b.sink n.sink a.lines h.ends)
settles b n a asks status.ReadFault is (inr h) = (refl, h.ends.1.text)
settles b n a asks status.WriteFault is (inr h) = inr (stops_front b.sink n.sink read_fault.lines h.ends.0.0 h.ends.0.1, rose_by_one _ _ h.count)
settles b n a asks status.Memory is (inr h) = inr (unfound_front b.sink n.sink read_fault.lines h.ends, rose_by_one _ _ h.count)
settles b n a asks s is (inl h) = (h.ends.0, h.ends.1.text)
settles b n a asks s is (inr h) = let e : s ≡ status.ReadFault = h.ends.0 in cc

-- ---- the puts

puts_some : (b n : SinkState) (xs : Lines) (k : ℕ) → k ≡ length xs → 0 < k → n.puts ≡ after_puts b.puts k → n.puts ≡ raised b.puts k
puts_some b n xs zero count some puts = let none : 0 < 0 = some in omega arith
puts_some b n xs (suc k) count some puts = puts

puts_lines : (b n : SinkState) (xs : Lines) → 0 < length xs → n.puts ≡ after_puts b.puts (length xs) → PutsLines b n xs
puts_lines b n xs some puts = puts_some b n xs (length xs) refl some puts

-- memory was not found, for a put or for a line
lacks_each : (b n : Outside) (a : Answer) → (n.sink ≡ b.sink) ⊎ Stopped b.sink n.sink a.lines stop.Memory → PutsEach b n a status.Memory
lacks_each b n a (inl same) = inl same
lacks_each b n a (inr stops) = inr (⊎_elim (λ h. inl (inl h)) (λ h. inr (inl h)) stops.0)

lacks_fault : (b n : Outside) (a : Answer) → Rose b.desk.faults n.desk.faults → (n.sink ≡ b.sink) ⊎ Stopped b.sink n.sink read_fault.lines stop.Memory → PutsEach b n a status.Memory
lacks_fault b n a rose (inl same) = inl same
lacks_fault b n a rose (inr stops) = inr (⊎_elim (λ h. inl (inr (h, rose))) (λ h. inr (inr (h, rose))) stops.0)

pub puts_each : (b n : Outside) (a : Answer) (asks : List Ask) (s : Status) → IsAnswer a → Course b n a asks s → PutsEach b n a s
puts_each b n a asks status.ReadFault is (inl h) = absurd (is.differs h.ends.0)
puts_each b n a asks status.WriteFault is (inl h) = (h.ends.0.0, inl h.ends.0.1)
puts_each b n a asks status.Memory is (inl h) = lacks_each b n a h.ends
puts_each b n a asks status.ReadFault is (inr h) = puts_lines b.sink n.sink read_fault.lines (omega arith) h.ends.1.each
puts_each b n a asks status.WriteFault is (inr h) = (h.ends.0.0, inr (h.ends.0.1, rose_by_one _ _ h.count))
puts_each b n a asks status.Memory is (inr h) = lacks_fault b n a (rose_by_one _ _ h.count) h.ends
puts_each b n a asks s is (inl h) = puts_lines b.sink n.sink a.lines is.some h.ends.1.each
puts_each b n a asks s is (inr h) = let e : s ≡ status.ReadFault = h.ends.0 in cc

-- ---- the counts of faults

unfound_count : (b n : SinkState) (xs : Lines) → (n ≡ b) ⊎ Stopped b n xs stop.Memory → n.faults ≡ b.faults
unfound_count b n xs (inl same) = ap (λ (x : SinkState). x.faults) same
unfound_count b n xs (inr stops) = stops.1

ends_count : (b n : SinkState) (a : Answer) (s : Status) → Ends b n a s → SinkCount b.faults n.faults s
ends_count b n a status.WriteFault h = h.1
ends_count b n a status.Memory h = unfound_count b n a.lines h
ends_count b n a s h = h.1.count

pub sink_count : (b n : Outside) (a : Answer) (asks : List Ask) (s : Status) → Course b n a asks s → SinkCount b.sink.faults n.sink.faults s
sink_count b n a asks s (inl h) = ends_count b.sink n.sink a s h.ends
sink_count b n a asks s (inr h) = ends_count b.sink n.sink read_fault s h.ends

pub desk_count : (b n : Outside) (a : Answer) (asks : List Ask) (s : Status) → IsAnswer a → Course b n a asks s → DeskCount b.desk.faults n.desk.faults s
desk_count b n a asks status.ReadFault is (inl h) = absurd (is.differs h.ends.0)
desk_count b n a asks status.WriteFault is (inl h) = inl h.count
desk_count b n a asks status.Memory is (inl h) = inl h.count
desk_count b n a asks status.ReadFault is (inr h) = h.count
desk_count b n a asks status.WriteFault is (inr h) = inr h.count
desk_count b n a asks status.Memory is (inr h) = inr h.count
desk_count b n a asks s is (inl h) = h.count
desk_count b n a asks s is (inr h) = let e : s ≡ status.ReadFault = h.ends.0 in cc

-- ---- the asks

-- those up to one that failed are a front
failed_front : (before now asks : List Ask) → AsksFailed before now asks → AsksFront before now asks
failed_front before now asks h = (h.good ++ h.failed ∷ [], h.rest, h.parted ∙ sym (append_assoc h.good (h.failed ∷ []) h.rest), h.made)

front_further : (before now asks more : List Ask) → AsksFront before now asks → AsksFront before now (asks ++ more)
front_further before now asks more h = (h.0, h.1 ++ more, ap (λ (xs : List Ask). xs ++ more) h.2 ∙ append_assoc h.0 h.1 more, h.3)

failed_further : (before now asks more : List Ask) → AsksFailed before now asks → AsksFailed before now (asks ++ more)
failed_further before now asks more h = record {
  good = h.good;
  failed = h.failed;
  rest = h.rest ++ more;
  parted = ap (λ (xs : List Ask). xs ++ more) h.parted ∙ append_assoc h.good (h.failed ∷ h.rest) more;
  made = h.made;
}

pub asks_needed : (b n : Outside) (a : Answer) (asks : List Ask) (s : Status) → IsAnswer a → Course b n a asks s → AsksNeeded b.desk n.desk asks s
asks_needed b n a asks status.ReadFault is (inl h) = absurd (is.differs h.ends.0)
asks_needed b n a asks status.WriteFault is (inl h) = inl (h.all (λ e. cc))
asks_needed b n a asks status.Memory is (inl h) = h.some
asks_needed b n a asks status.ReadFault is (inr h) = h.failed
asks_needed b n a asks status.WriteFault is (inr h) = inr (h.failed, rose_by_one _ _ h.count)
asks_needed b n a asks status.Memory is (inr h) = failed_front b.desk.asks n.desk.asks asks h.failed
asks_needed b n a asks s is (inl h) = h.all (λ e. cc)
asks_needed b n a asks s is (inr h) = let e : s ≡ status.ReadFault = h.ends.0 in cc

-- a front, whatever the course was
course_front : (b n : Outside) (a : Answer) (asks : List Ask) (s : Status) → Course b n a asks s → AsksFront b.desk.asks n.desk.asks asks
course_front b n a asks s (inl h) = h.some
course_front b n a asks s (inr h) = failed_front b.desk.asks n.desk.asks asks h.failed

-- where all is asked for that the command may ask for
turn_all : (b n : Outside) (a : Answer) (asks : List Ask) (s : Status) → IsAnswer a → Course b n a asks s → AsksInTurn b.desk.asks n.desk.asks asks s
turn_all b n a asks (status.BadImage kind offset) is h = course_front b n a asks (status.BadImage kind offset) h
turn_all b n a asks status.TooLong is h = course_front b n a asks status.TooLong h
turn_all b n a asks status.WriteFault is h = course_front b n a asks status.WriteFault h
turn_all b n a asks status.Memory is h = course_front b n a asks status.Memory h
turn_all b n a asks s is h = asks_needed b n a asks s is h

-- a file is refused, and more might have been asked for
abbrev is_of_file : Status → Bool
is_of_file (status.BadImage kind offset) = true
is_of_file status.TooLong = true
is_of_file _ = false

fault_of_file : (f : Option Fault) → is_of_file (first_bad f).status ≡ true
fault_of_file None = refl
fault_of_file (Some f) = refl

long_of_file : (long : Bool) (a : Answer) → is_of_file a.status ≡ true → is_of_file (let x : Answer = cond long too_long a in x.status) ≡ true
long_of_file true a is = refl
long_of_file false a is = is

no_image_of_file : (bytes : List ℕ) → is_of_file (no_image bytes).status ≡ true
no_image_of_file bytes = long_of_file (nat_lt MAX_IMAGE_BYTES (length bytes)) (first_bad (first_fault bytes)) (fault_of_file (first_fault bytes))

turn_first : (b n : Outside) (a : Answer) (asks more : List Ask) (s : Status) → is_of_file a.status ≡ true → Course b n a asks s → AsksInTurn b.desk.asks n.desk.asks (asks ++ more) s
turn_first b n a asks more (status.BadImage kind offset) is h = front_further b.desk.asks n.desk.asks asks more (course_front b n a asks (status.BadImage kind offset) h)
turn_first b n a asks more status.TooLong is h = front_further b.desk.asks n.desk.asks asks more (course_front b n a asks status.TooLong h)
turn_first b n a asks more status.WriteFault is h = front_further b.desk.asks n.desk.asks asks more (course_front b n a asks status.WriteFault h)
turn_first b n a asks more status.Memory is h = front_further b.desk.asks n.desk.asks asks more (course_front b n a asks status.Memory h)
turn_first b n a asks more status.ReadFault is (inr h) = failed_further b.desk.asks n.desk.asks asks more h.failed
turn_first b n a asks more status.ReadFault is (inl h) = let never : false ≡ true = ap is_of_file h.ends.0 ∙ is in cc
turn_first b n a asks more s is (inl h) = let never : false ≡ true = ap is_of_file h.ends.0 ∙ is in cc
turn_first b n a asks more s is (inr h) = let e : s ≡ status.ReadFault = h.ends.0 in cc

turn_by : (b n : Outside) (order : ImageOrder) (bytes : List ℕ) (image : Option Contents) (trace : List ℕ) (s : Status) → Course b n (answer_by order bytes image trace) (asks_by (Some (Over order)) image) s → AsksInTurn b.desk.asks n.desk.asks (asks_of (Some (Over order))) s
turn_by b n order bytes None trace s h = turn_first b n (no_image bytes) _ (more_asks order) s (no_image_of_file bytes) h
turn_by b n order bytes (Some image) trace s h = turn_all b n (answer_with order image trace) _ s (with_is order image trace) h

pub asks_in_turn : (b n : Outside) (order : Option Order) (image trace : List ℕ) (s : Status) → Course b n (answer_over order image trace) (asks_by order (image_over order image)) s → AsksInTurn b.desk.asks n.desk.asks (asks_of order) s
asks_in_turn b n None image trace s h = turn_all b n usage [] s usage_is h
asks_in_turn b n (Some (Gen number)) image trace s h = turn_all b n (summary_answer number) [] s (summary_is number) h
asks_in_turn b n (Some (From source)) image trace s h = turn_all b n (source_answer source image) (source_ask source ∷ []) s (source_is source image) h
asks_in_turn b n (Some (Over order)) image trace s h = turn_by b n order image (image_in image) trace s h
