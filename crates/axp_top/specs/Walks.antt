-- What the code does with the lines of a file, one after the other.
use Rattle.std.specs.Prelude.{◌≡◌, ℕ, List, [], Option, Some, None, Result, Ok, Err, option_map}
use Rattle.axp_machine.specs.Runs.{Seen, with_record}
use Rattle.axp_trace.specs.declared.headers.Header.{Header}
use Rattle.axp_trace.specs.Files.{lines_of}
use Rattle.axp_top.specs.declared.events.Step.{Step}
use Rattle.axp_top.specs.declared.events.Step.TheVariants as step
use Rattle.axp_top.specs.declared.printing.Stop.{Stop}
use Rattle.axp_top.specs.declared.status.Status.{Status}
use Rattle.axp_top.specs.Outside.{SinkState}
use Rattle.axp_top.specs.Printing.{Printed, Stopped}
use Rattle.axp_top.specs.Replays.{Answer, FileLine, Front, LineResult, OfTail, Recorded, Refused, front_lines, front_of, result_lines}
use Rattle.axp_top.specs.Texts.{Lines}

-- what is told of a line
abbrev pub step_of : LineResult → Step
step_of (Recorded r) = step.Recorded
step_of OfTail = step.OfTail
step_of (Refused a) = step.Refused a.status

-- the machine behind it; none is needed behind a refusal
abbrev pub Leaves : LineResult → Seen → Seen → Type 0
Leaves (Recorded r) m m' = m' ≡ with_record m r
Leaves OfTail m m' = m' ≡ m
Leaves (Refused a) m m' = Unit {0}

-- a line with this result was printed
abbrev pub PrintsLine : SinkState → SinkState → Seen → Seen → LineResult → Result Step Stop → Type 0
PrintsLine before now m m' result (Ok s) = Printed before now (result_lines result) × ((s ≡ step_of result) × Leaves result m m')
PrintsLine before now m m' result (Err x) = Stopped before now (result_lines result) x

-- a refusal, if there is one, with its lines and its status
abbrev pub refusal_lines : Option Answer → Lines
refusal_lines None = []
refusal_lines (Some a) = a.lines

abbrev pub refusal_status : Option Answer → Option Status
refusal_status o = option_map (λ a. a.status) o

-- the refusal was printed, and its status is told
abbrev pub PrintsRefusal : SinkState → SinkState → Option Answer → Result (Option Status) Stop → Type 0
PrintsRefusal before now refused (Ok s) = Printed before now (refusal_lines refused) × (s ≡ refusal_status refused)
PrintsRefusal before now refused (Err x) = Stopped before now (refusal_lines refused) x

-- where no line was refused, the machine and the lines that are left
abbrev pub LeavesRest : Option Status → Seen → List ℕ → Front → Type 0
LeavesRest None m rest f = (m ≡ f.machine) × (lines_of rest ≡ f.rest)
LeavesRest (Some s) m rest f = Unit {0}

-- the lines of the events were printed
abbrev pub PrintsEvents : SinkState → SinkState → Header → Seen → Seen → List FileLine → Result (Option Status × List ℕ) Stop → Type 0
PrintsEvents before now h m m' ls (Ok (s, rest)) =
    Printed before now (front_lines h m ls) × ((s ≡ refusal_status (front_of h m ls).refused) × LeavesRest s m' rest (front_of h m ls))
PrintsEvents before now h m m' ls (Err x) = Stopped before now (front_lines h m ls) x

-- an answer's lines were printed, and its status is told
abbrev pub PrintsAnswer : SinkState → SinkState → Answer → Result Status Stop → Type 0
PrintsAnswer before now answer (Ok s) = Printed before now answer.lines × (s ≡ answer.status)
PrintsAnswer before now answer (Err x) = Stopped before now answer.lines x

-- the same, whatever the machine
abbrev pub PrintsStep : SinkState → SinkState → LineResult → Result Step Stop → Type 0
PrintsStep before now result (Ok s) = Printed before now (result_lines result) × (s ≡ step_of result)
PrintsStep before now result (Err x) = Stopped before now (result_lines result) x

-- a result with the list that its part of a file is, told by a function
abbrev pub result_parts : {B : Type 0} → (B → List ℕ) → Result (Option Status × B) Stop → Result (Option Status × List ℕ) Stop
result_parts part (Ok (s, rest)) = Ok (s, part rest)
result_parts part (Err x) = Err x
