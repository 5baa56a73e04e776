-- Why the first event of a file is refused that is not legal.
use Rattle.std.specs.Prelude.{List, [], ◌∷◌, Option, Some, None, Result, Ok, Err}
use Rattle.axp_access.specs.declared.Event.{Event}
use Rattle.axp_access.specs.declared.Outcome.{Outcome}
use Rattle.axp_cpu.specs.declared.refusals.NotLegal.{NotLegal}
use Rattle.axp_image.specs.Contents.{Contents}
use Rattle.axp_lsu.specs.declared.reasons.Reason.{Reason}
use Rattle.axp_machine.specs.Runs.{Seen, after_event, answer_of, processors_of, started}
use Rattle.axp_top.specs.Replays.{FileLine}
use Rattle.axp_trace.specs.Reading.{header_of}
use Rattle.axp_trace.specs.TraceLines.{line_of}
use Rattle.axp_trace.specs.declared.headers.Header.{Header}
use Rattle.axp_trace.specs.declared.lines.TraceLine.{TraceLine}
use Rattle.axp_trace.specs.declared.lines.TraceLine.TheVariants.{Bare, Full}
use Rattle.axp_world.specs.Reasons.{reason}

-- the event of a line
abbrev pub event_in : Option TraceLine → Option Event
event_in (Some (Bare e)) = Some e
event_in (Some (Full e o)) = Some e
event_in _ = None

-- of an event that gives this, and else of the later lines
abbrev pub by_answer : Seen → Event → Result Outcome NotLegal → Option Reason → Option Reason
by_answer m e (Ok o) later = later
by_answer m e (Err refused) later = reason (processors_of m) m.records e

abbrev pub by_event : Seen → Option Event → Option Reason → Option Reason
by_event m None later = None
by_event m (Some e) later = by_answer m e (answer_of m e) later

-- the machine behind a line
abbrev pub behind : Seen → Option Event → Seen
behind m None = m
behind m (Some e) = after_event m e

-- of the lines behind the first, over a machine
unfoldable pub reason_among : Header → Seen → List FileLine → Option Reason
reason_among h m [] = None
reason_among h m (None ∷ ls) = None
reason_among h m (Some line ∷ ls) = by_event m (event_in (line_of h line)) (reason_among h (behind m (event_in (line_of h line))) ls)

abbrev pub reason_behind : Contents → Option Header → List FileLine → Option Reason
reason_behind image None ls = None
reason_behind image (Some h) ls = reason_among h (started image h.cpus h.budget) ls

-- of the lines of a file, over an image
abbrev pub reason_of_lines : Contents → List FileLine → Option Reason
reason_of_lines image [] = None
reason_of_lines image (None ∷ ls) = None
reason_of_lines image (Some first ∷ ls) = reason_behind image (header_of first) ls

-- of a file, over an image file
abbrev pub reason_of_files : Option Contents → List FileLine → Option Reason
reason_of_files None ls = None
reason_of_files (Some image) ls = reason_of_lines image ls
