-- What the lines of a trace show: its records, or the first line that is outside the grammar.
use Rattle.std.specs.Prelude.{ℕ, ◌+◌, Bool, true, false, List, [], ◌∷◌, length, take, codes, Option, Some, None, if◌then◌else◌}
use Rattle.std.specs.Str.{bytes_eq}
use Rattle.axp_base.specs.Cpus.{cpu_number}
use Rattle.axp_access.specs.declared.Record.{Record}
use Rattle.axp_access.specs.declared.tail_items.TailItem.{TailItem}
use Rattle.axp_access.specs.declared.tail_items.TailItem.TheVariants.{End}
use Rattle.axp_trace.specs.declared.headers.Header.{Header}
use Rattle.axp_trace.specs.declared.lines.TraceLine.{TraceLine}
use Rattle.axp_trace.specs.declared.lines.TraceLine.TheVariants.{Bare, Full, Tail}
use Rattle.axp_trace.specs.Reading.{header_of}
use Rattle.axp_trace.specs.TraceLines.{line_of}
use Rattle.axp_history.specs.Entries.{names_well}

-- a line of a file, without its line feed; None: a last line that has none
abbrev pub FileLine : Type 0
FileLine = Option (List ℕ)

-- ---- the events' lines

-- what a line shows: a record, the beginning of the tail, or nothing that the grammar has
pub data LineShown : Type 0 where
  OfRecord : Record → LineShown
  OfTail : LineShown
  Outside : LineShown

abbrev pub record_shown : Record → Bool → LineShown
record_shown r true = OfRecord r
record_shown r false = Outside

-- by what the line means, behind the records of the lines before it
abbrev pub shown_by : List Record → Option TraceLine → LineShown
shown_by h None = Outside
shown_by h (Some (Bare e)) = Outside
shown_by h (Some (Full e o)) = record_shown (record { event = e; outcome = o }) (names_well (cpu_number e.cpu) o h)
shown_by h (Some Tail) = OfTail

-- the longest front of lines that show records, these with the newest first, the lines behind it, and whether
-- they are none or begin with one of the tail
pub record Front : Type 0 where
  pub records : List Record
  pub rest : List FileLine
  pub good : Bool

abbrev pub front_at : List Record → List FileLine → Bool → Front
front_at h ls good = record { records = h; rest = ls; good = good }

-- goes on with a record, or ends
abbrev pub by_shown : {T : Type 0} → LineShown → (Record → T) → T → T → T
by_shown (OfRecord r) goes ends refused = goes r
by_shown OfTail goes ends refused = ends
by_shown Outside goes ends refused = refused

unfoldable pub front_of : Header → List Record → List FileLine → Front
front_of hd h [] = front_at h [] true
front_of hd h (None ∷ ls) = front_at h (None ∷ ls) false
front_of hd h (Some line ∷ ls) = by_shown (shown_by h (line_of hd line)) (λ r. front_of hd (r ∷ h) ls) (front_at h (Some line ∷ ls) true) (front_at h (Some line ∷ ls) false)

-- ---- the tail

-- the line is one of a tail
abbrev pub is_tail_line : Option TraceLine → Bool
is_tail_line (Some Tail) = true
is_tail_line _ = false

-- the number of events
abbrev pub is_end : TailItem → Bool
is_end (End events) = true
is_end _ = false

-- of the lines of a tail the one that ends it
abbrev pub is_end_line : List ℕ → Bool
is_end_line line = bytes_eq (take 4 line) (codes "end ")

-- the number of the line that should not be there
abbrev pub extra_line : ℕ → List FileLine → Option ℕ
extra_line n [] = None
extra_line n (l ∷ ls) = Some n

-- the number of the first line outside the grammar, of a tail whose first line has this number: each line
-- is one of a tail, and the last, and no other, is the line that ends it
unfoldable pub tail_fault : Header → ℕ → List FileLine → Option ℕ
tail_fault hd n [] = Some n
tail_fault hd n (None ∷ ls) = Some n
tail_fault hd n (Some line ∷ ls) =
    if is_tail_line (line_of hd line)
    then (if is_end_line line then extra_line (n + 1) ls else tail_fault hd (n + 1) ls)
    else Some n

-- ---- the file

-- the records of a trace, the newest first, or the number of its first line outside the grammar
pub data Shown : Type 0 where
  Records : List Record → Shown
  BadLine : ℕ → Shown

-- the line behind those of the records: the header is the first
abbrev pub line_behind : List Record → ℕ
line_behind h = length h + 2

-- a trace may have no tail
abbrev pub fault_behind : Header → Front → Option ℕ
fault_behind hd f = if f.good then rest_fault f.rest else Some (line_behind f.records) where
  rest_fault : List FileLine → Option ℕ
  rest_fault [] = None
  rest_fault (l ∷ ls) = tail_fault hd (line_behind f.records) (l ∷ ls)

abbrev pub shown_behind : List Record → Option ℕ → Shown
shown_behind h None = Records h
shown_behind h (Some n) = BadLine n

-- what a trace shows behind its header
abbrev pub lines_shown : Header → List FileLine → Shown
lines_shown hd ls = let f = front_of hd [] ls in shown_behind f.records (fault_behind hd f)

abbrev pub shown_under : Option Header → List FileLine → Shown
shown_under None ls = BadLine 1
shown_under (Some hd) ls = if hd.full then lines_shown hd ls else BadLine 1

-- what a file of these lines shows
abbrev pub trace_shown : List FileLine → Shown
trace_shown [] = BadLine 1
trace_shown (None ∷ ls) = BadLine 1
trace_shown (Some first ∷ ls) = shown_under (header_of first) ls
