-- What `replay` prints of an event list, or of a trace that it compares with the right one. The earliest line
-- decides; of one line grammar comes first, then legality, then difference.
use Rattle.std.specs.Prelude.{ℕ, ◌+◌, ◌==◌, Bool, not, ◌&&◌, List, [], ◌∷◌, ◌++◌, length, Option, Some, None, Result, Ok, Err, if◌then◌else◌}
use Rattle.std.specs.List.{concat}
use Rattle.std.specs.Str.{bytes_eq}
use Rattle.axp_access.specs.declared.Event.{Event}
use Rattle.axp_access.specs.declared.Outcome.{Outcome}
use Rattle.axp_access.specs.declared.Record.{Record}
use Rattle.axp_access.specs.declared.tail_items.TailItem.{TailItem}
use Rattle.axp_base.specs.Cpus.{cpu_number}
use Rattle.axp_cpu.specs.declared.refusals.NotLegal.{NotLegal}
use Rattle.axp_image.specs.Contents.{Contents}
use Rattle.axp_machine.specs.Runs.{Seen, started, answer_of, with_record, is_complete}
use Rattle.axp_machine.specs.Tails.{tail_items}
use Rattle.axp_trace.specs.declared.headers.Header.{Header}
use Rattle.axp_trace.specs.declared.lines.TraceLine.{TraceLine}
use Rattle.axp_trace.specs.declared.lines.TraceLine.TheVariants.{Bare, Full, Tail}
use Rattle.axp_trace.specs.Lines.{with_feed, bad_trace_line, differs_line, given_line, incomplete_line, line_text, not_legal_line, right_line, tail_line}
use Rattle.axp_trace.specs.Reading.{header_of}
use Rattle.axp_trace.specs.TraceLines.{line_of}
pub use Rattle.axp_history.specs.Entries.{is_undrained, is_waiting, names_well}
pub use Rattle.axp_history.specs.Traces.{FileLine, is_tail_line}
use Rattle.axp_top.specs.declared.status.Status.{Status}
use Rattle.axp_top.specs.declared.status.Status.TheVariants as status
use Rattle.axp_top.specs.Texts.{Lines, lines, right_header, tail, record_text}

-- how the work ends, and the lines that are printed
pub record Answer : Type 0 where
  pub status : Status
  pub lines : Lines

-- all that is printed
abbrev pub text_of : Answer → List ℕ
text_of a = concat a.lines

-- one line, and nothing before it
abbrev pub answer_in_one_line : Status → List ℕ → Answer
answer_in_one_line s line = record { status = s; lines = with_feed line ∷ [] }

-- the line of this number is outside the grammar
abbrev pub bad_trace : ℕ → Answer
bad_trace n = answer_in_one_line (status.BadTrace n) (bad_trace_line n)

-- the event of this number is not legal
abbrev pub not_legal : ℕ → Answer
not_legal n = answer_in_one_line (status.NotLegal n) (not_legal_line n)

-- the events end, so many of them, and the machine is not complete
abbrev pub incomplete : ℕ → Answer
incomplete n = answer_in_one_line (status.Incomplete n) (incomplete_line n)

-- the line of this number is another than the right one
abbrev pub differs : ℕ → List ℕ → List ℕ → Answer
differs n given right = record {
  status = status.Differs n;
  lines = with_feed (differs_line n) ∷ with_feed (given_line given) ∷ with_feed (right_line right) ∷ [];
}

-- ---- one line

-- the number of the line behind a machine's records: the header is the first
abbrev pub next_line : Seen → ℕ
next_line m = length m.records + 2

-- a line's outcome names entries as the lines before it allow
abbrev pub is_in_order : Seen → Event → Outcome → Bool
is_in_order m e o = names_well (cpu_number e.cpu) o m.records

-- what comes of a line: its event is done and its record kept, it begins the tail, or it is refused
pub data LineResult : Type 0 where
  Recorded : Record → LineResult
  OfTail : LineResult
  Refused : Answer → LineResult

abbrev pub refused_event : Seen → LineResult
refused_event m = Refused (not_legal (length m.records + 1))

abbrev pub refused_line : Seen → LineResult
refused_line m = Refused (bad_trace (next_line m))

-- an event of a list
abbrev pub event_result : Seen → Event → Result Outcome NotLegal → LineResult
event_result m e (Ok o) = Recorded (record { event = e; outcome = o })
event_result m e (Err refused) = refused_event m

-- a line of this number shows a record, where it is the right one
abbrev pub right_result : ℕ → List ℕ → Record → LineResult
right_result n line r =
    if bytes_eq (line_text r.event r.outcome) line then Recorded r else Refused (differs n line (line_text r.event r.outcome))

-- an event of a trace
abbrev pub shown_result : Seen → List ℕ → Event → Result Outcome NotLegal → LineResult
shown_result m line e (Ok o) = right_result (next_line m) line (record { event = e; outcome = o })
shown_result m line e (Err refused) = refused_event m

abbrev pub full_result : Seen → List ℕ → Event → Outcome → LineResult
full_result m line e o = if is_in_order m e o then shown_result m line e (answer_of m e) else refused_line m

-- by what the line means
abbrev pub result_by : Seen → List ℕ → Option TraceLine → LineResult
result_by m line None = refused_line m
result_by m line (Some (Bare e)) = event_result m e (answer_of m e)
result_by m line (Some (Full e o)) = full_result m line e o
result_by m line (Some Tail) = OfTail

abbrev pub result_of : Header → Seen → FileLine → LineResult
result_of h m None = refused_line m
result_of h m (Some line) = result_by m line (line_of h line)

-- what is printed of it
abbrev pub result_lines : LineResult → Lines
result_lines (Recorded r) = record_text r ∷ []
result_lines OfTail = []
result_lines (Refused a) = a.lines

-- ---- the events' lines

-- goes on with the record, ends with the tail, or ends refused
abbrev pub by_result : {T : Type 0} → LineResult → (Record → T) → T → (Answer → T) → T
by_result (Recorded r) goes ends refused = goes r
by_result OfTail goes ends refused = ends
by_result (Refused a) goes ends refused = refused a

-- the machine after the longest front of lines whose events are done, why the next line is refused, if it is,
-- and the lines from there on
pub record Front : Type 0 where
  pub machine : Seen
  pub refused : Option Answer
  pub rest : List FileLine

unfoldable pub front_of : Header → Seen → List FileLine → Front
front_of h m [] = record { machine = m; refused = None; rest = [] }
front_of h m (l ∷ ls) = by_result (result_of h m l) (λ r. front_of h (with_record m r) ls) (record { machine = m; refused = None; rest = l ∷ ls }) (λ a. record { machine = m; refused = Some a; rest = l ∷ ls })

-- what is printed of these lines
unfoldable pub front_lines : Header → Seen → List FileLine → Lines
front_lines h m [] = []
front_lines h m (l ∷ ls) = by_result (result_of h m l) (λ r. record_text r ∷ front_lines h (with_record m r) ls) [] (λ a. a.lines)

-- ---- the tail of a trace

-- why a line of the tail is refused that has this number, and should be this one
abbrev pub item_refusal : Header → ℕ → List ℕ → List ℕ → Option Answer
item_refusal h n line right =
    if is_tail_line (line_of h line)
    then (if bytes_eq right line then None else Some (differs n line right))
    else Some (bad_trace n)

abbrev pub or_else : Option Answer → Option Answer → Option Answer
or_else (Some a) other = Some a
or_else None other = other

-- why the tail is refused that begins at the line of this number and should be of these items: a line is refused,
-- one is missing, or one is too many
unfoldable pub tail_refusal : Header → ℕ → List TailItem → List FileLine → Option Answer
tail_refusal h n [] [] = None
tail_refusal h n [] (l ∷ ls) = Some (bad_trace n)
tail_refusal h n (i ∷ items) [] = Some (bad_trace n)
tail_refusal h n (i ∷ items) (None ∷ ls) = Some (bad_trace n)
tail_refusal h n (i ∷ items) (Some line ∷ ls) = or_else (item_refusal h n line (tail_line i)) (tail_refusal h (n + 1) items ls)

-- ---- the ending

-- the whole text is printed
abbrev pub whole_ending : Seen → Answer
whole_ending m = record { status = status.Done; lines = tail m }

abbrev pub refused_or_whole : Seen → Option Answer → Answer
refused_or_whole m None = whole_ending m
refused_or_whole m (Some a) = a

-- a file may have no tail
abbrev pub complete_ending : Header → Seen → List FileLine → Answer
complete_ending h m [] = whole_ending m
complete_ending h m (l ∷ ls) = refused_or_whole m (tail_refusal h (next_line m) (tail_items m) (l ∷ ls))

-- where all events were done
abbrev pub events_ending : Header → Seen → List FileLine → Answer
events_ending h m rest = if is_complete m then complete_ending h m rest else incomplete (length m.records)

abbrev pub ending_by : Header → Seen → List FileLine → Option Answer → Answer
ending_by h m rest (Some a) = a
ending_by h m rest None = events_ending h m rest

abbrev pub ending_of : Header → Front → Answer
ending_of h f = ending_by h f.machine f.rest f.refused

-- the ending behind the header and the lines of the records
abbrev pub answer_of_front : Header → Front → Answer
answer_of_front h f = record { status = (ending_of h f).status; lines = lines f.machine ++ (ending_of h f).lines }

-- what the lines behind the first give after a machine at the start
abbrev pub answer_of_run : Header → Seen → List FileLine → Answer
answer_of_run h m ls = answer_of_front h (front_of h m ls)

-- ---- the file

-- a trace of another size of memory
abbrev pub is_other_memory : Header → Seen → Bool
is_other_memory h m = h.full && not (h.memory == m.image.size)

-- the right header, and that the file's is another
abbrev pub other_memory : Seen → List ℕ → Answer
other_memory m first = record { status = status.Differs 1; lines = lines m ++ (differs 1 first (right_header m)).lines }

abbrev pub answer_of_start : Header → Seen → List ℕ → List FileLine → Answer
answer_of_start h m first ls = if is_other_memory h m then other_memory m first else answer_of_run h m ls

abbrev pub answer_of_header : Contents → List ℕ → Option Header → List FileLine → Answer
answer_of_header image first None ls = bad_trace 1
answer_of_header image first (Some h) ls = answer_of_start h (started image h.cpus h.budget) first ls

-- what a file of these lines gives over an image
abbrev pub answer_of_lines : Contents → List FileLine → Answer
answer_of_lines image [] = bad_trace 1
answer_of_lines image (None ∷ ls) = bad_trace 1
answer_of_lines image (Some first ∷ ls) = answer_of_header image first (header_of first) ls
