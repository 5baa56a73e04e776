-- What a line behind the first means.
use Rattle.std.specs.Prelude.{◌≡◌, ◌<◌, ℕ, Bool, true, false, if◌then◌else◌, List, Option, Some, None}
use Rattle.axp_base.specs.Cpus.{cpu_number}
use Rattle.axp_access.specs.declared.Event.{Event}
use Rattle.axp_access.specs.declared.Outcome.{Outcome}
use Rattle.axp_access.specs.declared.Record.{Record}
use Rattle.axp_access.specs.declared.tail_items.TailItem.{TailItem}
use Rattle.axp_access.specs.Spelling.{IsNamed}
use Rattle.axp_trace.specs.Lines.{event_text, line_text, tail_line}
use Rattle.axp_trace.specs.Reading.{event_of}
use Rattle.axp_trace.specs.Records.{record_of, IsRecord}
use Rattle.axp_trace.specs.Tails.{tail_of, is_item, IsItem}
use Rattle.axp_trace.specs.declared.headers.Header.{Header}
use Rattle.axp_trace.specs.declared.lines.TraceLine.{TraceLine}
use Rattle.axp_trace.specs.declared.lines.TraceLine.TheVariants.{Bare, Full, Tail}

-- an event of a list, if the line spells one
abbrev pub bare_by : Option Event → Option TraceLine
bare_by None = None
bare_by (Some e) = Some (Bare e)

-- the tail of a trace, if the line spells an item of it
abbrev pub tail_by : Option TailItem → Option TraceLine
tail_by i = if is_item i then Some Tail else None

-- a record of a trace, if the line spells one, or else its tail
abbrev pub full_by : Option Record → Option TailItem → Option TraceLine
full_by None i = tail_by i
full_by (Some r) i = Some (Full r.event r.outcome)

-- what a line means, by whether the first line is that of a trace
abbrev pub line_by : Bool → ℕ → List ℕ → Option TraceLine
line_by true cpus line = full_by (record_of cpus line) (tail_of cpus line)
line_by false cpus line = bare_by (event_of cpus line)

-- what a line means under a header
unfoldable pub line_of : Header → List ℕ → Option TraceLine
line_of h line = line_by h.full h.cpus line

-- ---- the same in words

-- an event with what came of it
abbrev pub as_record : Event → Outcome → Record
as_record e o = record { event = e; outcome = o }

-- the text of an item of the tail of a trace for so many processors
abbrev pub IsTailLine : ℕ → List ℕ → Type 0
IsTailLine cpus line = (i : TailItem) × ((line ≡ tail_line i) × IsItem cpus i)

-- the line of a trace, or else of an event list, for so many processors is the text of this
abbrev pub SpellsLine : Bool → ℕ → List ℕ → TraceLine → Type 0
SpellsLine full cpus line (Bare e) = (full ≡ false) × ((line ≡ event_text e) × (cpu_number e.cpu < cpus) × IsNamed e.act)
SpellsLine full cpus line (Full e o) = (full ≡ true) × ((line ≡ line_text e o) × IsRecord cpus (as_record e o))
SpellsLine full cpus line Tail = (full ≡ true) × IsTailLine cpus line
