-- What is printed of a file shows a run that keeps the constraints of shared memory, and why it ended.
use Rattle.std.specs.Prelude.{◌≡◌, ◌⊎◌, ℕ, ◌+◌, ◌≤◌, ◌==◌, Bool, true, false, List, ◌∷◌, [], ◌++◌, length, map, reverse, Option, Some, None}
use Rattle.axp_access.specs.declared.Event.{Event}
use Rattle.axp_access.specs.declared.Record.{Record}
use Rattle.axp_image.specs.Contents.{Contents}
use Rattle.axp_machine.specs.Constraints.{KeepsConstraints}
use Rattle.axp_machine.specs.Runs.{Seen, IsRun, events_of, is_complete, processors_of}
use Rattle.axp_machine.specs.Tails.{tail_items}
use Rattle.axp_model.specs.Legal.{legal}
use Rattle.axp_trace.specs.declared.headers.Header.{Header}
use Rattle.axp_trace.specs.declared.lines.TraceLine.{TraceLine}
use Rattle.axp_trace.specs.declared.lines.TraceLine.TheVariants.{Bare, Full, Tail}
use Rattle.axp_trace.specs.Files.{lines_of}
use Rattle.axp_trace.specs.Lines.{line_text}
use Rattle.axp_trace.specs.Reading.{header_of}
use Rattle.axp_trace.specs.TraceLines.{line_of}
use Rattle.axp_top.specs.declared.status.Status.{Status}
use Rattle.axp_top.specs.declared.status.Status.TheVariants as status
use Rattle.axp_top.specs.declared.trace_tasks.TraceTask.TheVariants as task
use Rattle.axp_top.specs.Answers.{image_in}
use Rattle.axp_top.specs.Checks.{checked_answer}
use Rattle.axp_top.specs.Replays.{Answer, FileLine, Refused, next_line, other_memory, result_of, tail_refusal}
use Rattle.axp_top.specs.Texts.{lines}
use Rattle.axp_base.specs.declared.processors.TheConstants.{MAX_CPUS}
use Rattle.axp_gen.specs.Shapes.{shape_of}
use Rattle.axp_seed.specs.Seeds.{end_of, seeded_start}
use Rattle.axp_summary.specs.Rounds.{IsWholeRun, end_of_round}
use Rattle.axp_top.specs.ImageFiles.{image_answer, listing_answer}
use Rattle.axp_top.specs.SeededRuns.{whole_answer}
use Rattle.axp_top.specs.SummaryTexts.{summary_answer}
use Rattle.axp_top.specs.Words.{From, Gen, ImageOrder, Listing, Order, Over, Seed, Traced}

-- the event that a line shows, of a list or of a trace
abbrev pub event_shown : Option TraceLine → Option Event
event_shown (Some (Bare e)) = Some e
event_shown (Some (Full e o)) = Some e
event_shown _ = None

abbrev pub event_in : Header → FileLine → Option Event
event_in h None = None
event_in h (Some line) = event_shown (line_of h line)

-- the line is an event that the memory model refuses after the machine's records
pub record IsNotLegal (h : Header) (m : Seen) (line : FileLine) : Type 0 where
  pub event : Event
  pub read : event_in h line ≡ Some event
  pub refused : legal (processors_of m) m.records event ≡ false

-- no line follows, or the first that does is one of the tail
abbrev pub EventsEnd : Header → List FileLine → Type 0
EventsEnd h [] = Unit {0}
EventsEnd h (None ∷ more) = ⊥
EventsEnd h (Some line ∷ more) = line_of h line ≡ Some Tail

-- there is no tail, or it is the right one
abbrev pub IsWhole : Header → Seen → List FileLine → Type 0
IsWhole h m [] = Unit {0}
IsWhole h m (line ∷ more) = tail_refusal h (next_line m) (tail_items m) (line ∷ more) ≡ None

-- the next line is refused so, or, where the events have ended and the machine is complete, a line of the tail
pub record IsRefusedTail (h : Header) (m : Seen) (line : FileLine) (more : List FileLine) (ended : Answer) : Type 0 where
  pub begins : EventsEnd h (line ∷ more)
  pub complete : is_complete m ≡ true
  pub refused : tail_refusal h (next_line m) (tail_items m) (line ∷ more) ≡ Some ended

abbrev pub IsRefused : Header → Seen → List FileLine → Answer → Type 0
IsRefused h m [] ended = ⊥
IsRefused h m (line ∷ more) ended = (result_of h m line ≡ Refused ended) ⊎ IsRefusedTail h m line more ended

-- Why a run ended so, by the lines behind those of its events: there are none that are refused, and the machine is
-- complete or not; or the first of them is an event that is not legal; or a line is outside the grammar, or another
-- than the right one.
abbrev pub IsCause : Header → Seen → List FileLine → Answer → Status → Type 0
IsCause h m rest ended status.Done = (is_complete m ≡ true) × (EventsEnd h rest × IsWhole h m rest)
IsCause h m rest ended (status.Incomplete n) = (is_complete m ≡ false) × (EventsEnd h rest × (n ≡ length m.records))
IsCause h m (line ∷ more) ended (status.NotLegal n) = IsNotLegal h m line × (n ≡ length m.records + 1)
IsCause h m rest ended (status.BadTrace n) = IsRefused h m rest ended
IsCause h m rest ended (status.Differs n) = IsRefused h m rest ended
IsCause h m rest ended s = ⊥

-- the lines of a trace are those of the records, the newest first
abbrev pub AreRight : Bool → List FileLine → List Record → Type 0
AreRight full done h = full ≡ true → done ≡ map (λ r. Some (line_text r.event r.outcome)) h

-- An answer to a file of these lines is the header and all records of a machine's run over an image, and how the run
-- ended, which shows no event: the tail, or the lines of a refusal. The machine is the one of the file's header, its
-- events are those of the lines that follow, and of a trace these are the very lines printed; the records keep the
-- constraints of shared memory, and the ending has its cause.
pub record ShowsRun (image : Contents) (ls : List FileLine) (answer : Answer) : Type 0 where
  pub header : Header
  pub machine : Seen
  pub ended : Answer
  pub shown : answer ≡ record { status = ended.status; lines = lines machine ++ ended.lines }
  pub over : machine.image ≡ image
  pub cpus : machine.cpus ≡ header.cpus
  pub budget : machine.budget ≡ header.budget
  pub first : List ℕ
  -- the lines of the events, the newest first, and the lines behind them
  pub done : List FileLine
  pub rest : List FileLine
  pub parted : ls ≡ Some first ∷ reverse done ++ rest
  pub read : header_of first ≡ Some header
  pub memory : header.full ≡ true → header.memory ≡ image.size
  pub events : map (event_in header) done ≡ map Some (events_of machine.records)
  pub right : AreRight header.full done machine.records
  pub run : IsRun machine
  pub constraints : KeepsConstraints machine
  pub cause : IsCause header machine rest ended ended.status

-- the answer is that the file is a trace of another size of memory
pub record IsOtherMemory (image : Contents) (ls : List FileLine) (answer : Answer) : Type 0 where
  pub header : Header
  pub start : Seen
  pub over : start.image ≡ image
  pub first : List ℕ
  pub more : List FileLine
  pub parted : ls ≡ Some first ∷ more
  pub read : header_of first ≡ Some header
  pub full : header.full ≡ true
  pub other : (header.memory == image.size) ≡ false
  pub shown : answer ≡ other_memory start first

-- nothing of a run is printed, but the line of a refusal
abbrev pub is_at_once : Status → Bool
is_at_once status.Usage = true
is_at_once (status.BadImage kind offset) = true
is_at_once (status.BadTrace n) = n == 1
is_at_once status.TooLong = true
is_at_once (status.BadElf field offset) = true
is_at_once (status.BadSource n) = true
is_at_once _ = false

abbrev pub RefusesAll : Answer → Type 0
RefusesAll answer = is_at_once answer.status ≡ true

-- an answer to a file of these lines shows such a run, or that memory is of another size, or refuses all
abbrev pub IsLawfulReplay : Contents → List FileLine → Answer → Type 0
IsLawfulReplay image ls answer = RefusesAll answer ⊎ (IsOtherMemory image ls answer ⊎ ShowsRun image ls answer)

-- The answer is the header, all records and the tail of the machine at the end of the run that a seed defines over
-- an image. It is complete, and the records keep the constraints of shared memory.
pub record ShowsSeeded (image : Contents) (cpus budget seed : ℕ) (answer : Answer) : Type 0 where
  pub machine : Seen
  pub shown : answer ≡ whole_answer machine
  pub seeded : machine ≡ end_of (seeded_start image cpus budget seed)
  pub over : machine.image ≡ image
  pub cpus_are : machine.cpus ≡ cpus
  pub budget_is : machine.budget ≡ budget
  pub complete : is_complete machine ≡ true
  pub run : IsRun machine
  pub constraints : KeepsConstraints machine

-- an answer to a trace of these lines tells the verdict on its accesses, or its first line outside the grammar, or
-- refuses all
abbrev pub IsLawfulCheck : Contents → List FileLine → Answer → Type 0
IsLawfulCheck image ls answer = RefusesAll answer ⊎ (answer ≡ checked_answer image ls)

-- by the command, over an image; a listing shows no run
abbrev pub IsLawfulOver : ImageOrder → Contents → List FileLine → Answer → Type 0
IsLawfulOver (Traced task.Replay i t) image ls answer = IsLawfulReplay image ls answer
IsLawfulOver (Traced task.Check i t) image ls answer = IsLawfulCheck image ls answer
IsLawfulOver (Seed i cpus budget seed) image ls answer = cpus ≤ MAX_CPUS → ShowsSeeded image cpus budget seed answer
IsLawfulOver (Listing i) image ls answer = answer ≡ listing_answer image

-- The answer is the summary of a number. The machine at the end of each of its rounds is complete, and the records keep
-- the constraints of shared memory.
pub record ShowsSummary (number : ℕ) (answer : Answer) : Type 0 where
  pub shown : answer ≡ summary_answer number
  pub rounds : (round : ℕ) → IsWholeRun (shape_of number) (end_of_round number round)

-- the answer is the file of an image, or refuses all; it shows no run
abbrev pub ShowsImage : Answer → Type 0
ShowsImage answer = RefusesAll answer ⊎ ((c : Contents) × (answer ≡ image_answer c))

-- where a command needs an image and there is none the answer refuses
abbrev pub IsLawful : Option Order → Option Contents → List FileLine → Answer → Type 0
IsLawful None image ls answer = RefusesAll answer
IsLawful (Some (Gen number)) image ls answer = ShowsSummary number answer
IsLawful (Some (From source)) image ls answer = ShowsImage answer
IsLawful (Some (Over order)) None ls answer = RefusesAll answer
IsLawful (Some (Over order)) (Some image) ls answer = IsLawfulOver order image ls answer

-- the image and the lines in files that are told
abbrev pub image_of_file : Option (List ℕ) → Option Contents
image_of_file None = None
image_of_file (Some bytes) = image_in bytes

abbrev pub lines_of_file : Option (List ℕ) → List FileLine
lines_of_file None = []
lines_of_file (Some bytes) = lines_of bytes

-- the image in a file that was handed over to a command
abbrev pub image_over : Option Order → List ℕ → Option Contents
image_over None bytes = None
image_over (Some (Gen number)) bytes = None
image_over (Some (From source)) bytes = None
image_over (Some (Over order)) bytes = image_in bytes
