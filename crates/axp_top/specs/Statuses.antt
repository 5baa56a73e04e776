-- What each status says of the text, of the counts and of the asks.
use Rattle.std.specs.Prelude.{◌≡◌, ◌⊎◌, ℕ, List, [], ◌∷◌, ◌++◌, length, IfSome, Option}
use Rattle.axp_image.specs.Contents.{AreBytes, Contents}
use Rattle.axp_io.specs.Causes.{Ask, Appends, AppendsFront, Rose, raised}
use Rattle.axp_trace.specs.Files.{lines_of}
use Rattle.axp_top.specs.declared.status.Status.{Status}
use Rattle.axp_top.specs.declared.status.Status.TheVariants as status
use Rattle.axp_top.specs.Answers.{answer_over, asks_by, image_told, read_fault, trace_told}
use Rattle.axp_top.specs.Lawful.{IsLawful, image_over}
use Rattle.axp_top.specs.Outside.{DeskState, Outside, SinkState}
use Rattle.axp_top.specs.Printing.{LacksAt, StopsAt}
use Rattle.axp_top.specs.Replays.{Answer, FileLine, text_of}
use Rattle.axp_top.specs.Texts.{Lines}
use Rattle.axp_top.specs.Words.{Order}

-- ---- the text

-- a front of the answer's text was printed; or, where the desk counted a fault, of a read fault's line
abbrev pub PrintsFront : Outside → Outside → Answer → Type 0
PrintsFront before now answer =
    AppendsFront before.sink.taken now.sink.taken (text_of answer)
    ⊎ (AppendsFront before.sink.taken now.sink.taken (text_of read_fault) × Rose before.desk.faults now.desk.faults)

-- the answer's text was printed, and the status is the answer's
abbrev pub PrintsAnswer : Outside → Outside → Answer → Status → Type 0
PrintsAnswer before now answer s = (s ≡ answer.status) × Appends before.sink.taken now.sink.taken (text_of answer)

-- the text printed, by the answer and the status
abbrev pub Settles : Outside → Outside → Answer → Status → Type 0
Settles before now answer status.ReadFault = PrintsAnswer before now read_fault status.ReadFault
Settles before now answer status.WriteFault = PrintsFront before now answer
Settles before now answer status.Memory = PrintsFront before now answer
Settles before now answer s = PrintsAnswer before now answer s

-- ---- the puts: one for each line

-- so many lines were printed
abbrev pub PutsLines : SinkState → SinkState → Lines → Type 0
PutsLines before now printed = now.puts ≡ raised before.puts (length printed)

-- a line of the answer was put and not taken whole; or, where the desk counted a fault, the read fault's
abbrev pub StopsIn : Outside → Outside → Answer → List ℕ → Type 0
StopsIn before now answer part =
    StopsAt before.sink now.sink answer.lines part
    ⊎ (StopsAt before.sink now.sink read_fault.lines part × Rose before.desk.faults now.desk.faults)

-- memory was not found between two puts of the answer; or, where the desk counted a fault, of the read fault
abbrev pub LacksIn : Outside → Outside → Answer → Type 0
LacksIn before now answer =
    LacksAt before.sink now.sink answer.lines
    ⊎ (LacksAt before.sink now.sink read_fault.lines × Rose before.desk.faults now.desk.faults)

-- The puts by the answer and the status: one for each line; or, where the work stopped, one for each line before and
-- one for that in which it stopped, of which nothing is taken for want of memory; or no put more, where memory was not
-- found between two.
abbrev pub PutsEach : Outside → Outside → Answer → Status → Type 0
PutsEach before now answer status.ReadFault = PutsLines before.sink now.sink read_fault.lines
PutsEach before now answer status.WriteFault = (part : List ℕ) × StopsIn before now answer part
PutsEach before now answer status.Memory = (now.sink ≡ before.sink) ⊎ (StopsIn before now answer [] ⊎ LacksIn before now answer)
PutsEach before now answer s = PutsLines before.sink now.sink answer.lines

-- ---- the counts of faults

-- the sink's
abbrev pub SinkCount : ℕ → ℕ → Status → Type 0
SinkCount before now status.WriteFault = now ≡ raised before 1
SinkCount before now s = now ≡ before

-- the desk's
abbrev pub DeskCount : ℕ → ℕ → Status → Type 0
DeskCount before now status.ReadFault = now ≡ raised before 1
DeskCount before now status.WriteFault = (now ≡ before) ⊎ (now ≡ raised before 1)
DeskCount before now status.Memory = (now ≡ before) ⊎ (now ≡ raised before 1)
DeskCount before now s = now ≡ before

-- ---- the asks

-- the asks of this call are a front of a list
abbrev pub AsksFront : List Ask → List Ask → List Ask → Type 0
AsksFront before now asks = (front rest : List Ask) × (asks ≡ front ++ rest) × (now ≡ before ++ front)

-- they are a front of it whose last one failed
pub record AsksFailed (before now asks : List Ask) : Type 0 where
  pub good : List Ask
  pub failed : Ask
  pub rest : List Ask
  pub parted : asks ≡ good ++ failed ∷ rest
  pub made : now ≡ before ++ (good ++ failed ∷ [])

-- The asks by the command's list and the status: a front of them where a file was refused, those up to the one that
-- failed for a read fault, a front where the work stopped, else all.
abbrev pub AsksInTurn : List Ask → List Ask → List Ask → Status → Type 0
AsksInTurn before now asks (status.BadImage kind offset) = AsksFront before now asks
AsksInTurn before now asks status.TooLong = AsksFront before now asks
AsksInTurn before now asks status.ReadFault = AsksFailed before now asks
AsksInTurn before now asks status.WriteFault = AsksFront before now asks
AsksInTurn before now asks status.Memory = AsksFront before now asks
AsksInTurn before now asks s = now ≡ before ++ asks

-- The asks by what the first file leads to, and the status: just those where the work was done or refused,
-- those up to the one that failed where the desk counted a fault.
abbrev pub AsksNeeded : DeskState → DeskState → List Ask → Status → Type 0
AsksNeeded before now asks status.ReadFault = AsksFailed before.asks now.asks asks
AsksNeeded before now asks status.WriteFault =
    (now.asks ≡ before.asks ++ asks) ⊎ (AsksFailed before.asks now.asks asks × Rose before.faults now.faults)
AsksNeeded before now asks status.Memory = AsksFront before.asks now.asks asks
AsksNeeded before now asks s = now.asks ≡ before.asks ++ asks

-- ---- where the desk tells nothing

-- the answer is settled, and lawful over an image and the lines of a list
abbrev pub SettlesLawfully : Outside → Outside → Option Order → Option Contents → List FileLine → Status → Answer → Type 0
SettlesLawfully before now order image ls s answer = Settles before now answer s × IsLawful order image ls answer

-- There are two lists, one for the image and one for the event list, by which this is the text and the
-- status, and these are the puts and the asks. Each is the told one where the desk tells it.
pub record SettlesSome (told : List ℕ → Option (List ℕ)) (before now : Outside) (order : Option Order) (s : Status)
    : Type 0 where
  pub image : List ℕ
  pub trace : List ℕ
  pub image_is_told : IfSome (image_told order told) (λ bytes. AreBytes bytes → image ≡ bytes)
  pub trace_is_told : IfSome (trace_told order told) (λ bytes. trace ≡ bytes)
  pub settled : SettlesLawfully before now order (image_over order image) (lines_of trace) s (answer_over order image trace)
  pub puts : PutsEach before now (answer_over order image trace) s
  pub asked : AsksNeeded before.desk now.desk (asks_by order (image_over order image)) s

-- the number that the process ends with
abbrev pub number_of_status : Status → ℕ
number_of_status status.Done = 0
number_of_status status.Usage = 1
number_of_status status.ReadFault = 2
number_of_status status.WriteFault = 3
number_of_status (status.BadImage kind offset) = 4
number_of_status (status.BadTrace n) = 5
number_of_status (status.NotLegal n) = 6
number_of_status (status.Differs n) = 7
number_of_status (status.Incomplete n) = 9
number_of_status status.TooLong = 10
number_of_status status.Memory = 11
number_of_status (status.Violated rule first second) = 8
number_of_status (status.BadElf field offset) = 14
number_of_status (status.BadSource n) = 15
