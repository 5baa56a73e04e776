-- The text of a run: its lines, each with its line feed, and behind them the tail.
use Rattle.std.specs.Prelude.{ℕ, List, [], ◌∷◌, ◌++◌, map}
use Rattle.axp_access.specs.declared.Record.{Record}
use Rattle.axp_access.specs.declared.tail_items.TailItem.{TailItem}
use Rattle.axp_machine.specs.Runs.{Seen}
use Rattle.axp_machine.specs.Tails.{tail_items}
use Rattle.axp_trace.specs.Lines.{with_feed, line_text, tail_line, trace_header}

-- lines in order, each with its line feed
abbrev pub Lines : Type 0
Lines = List (List ℕ)

-- the first line, without its line feed
abbrev pub right_header : Seen → List ℕ
right_header m = trace_header m.cpus m.budget m.image.size

abbrev pub header_text : Seen → List ℕ
header_text m = with_feed (right_header m)

abbrev pub record_text : Record → List ℕ
record_text r = with_feed (line_text r.event r.outcome)

-- a line for each record; a history has the newest first
abbrev pub record_lines : List Record → Lines
record_lines [] = []
record_lines (r ∷ h) = record_lines h ++ record_text r ∷ []

-- the header and the records so far
abbrev pub lines : Seen → Lines
lines m = header_text m ∷ record_lines m.records

-- a line for each item of the tail
abbrev pub item_text : TailItem → List ℕ
item_text i = with_feed (tail_line i)

abbrev pub item_lines : List TailItem → Lines
item_lines items = map item_text items

-- what the processors, memory and the console hold at the end, and the number of events
abbrev pub tail : Seen → Lines
tail m = item_lines (tail_items m)
