-- What the bus answers, in other words.
use Rattle.std.specs.Prelude.{◌≡◌, ◌⊎◌, ℕ, ◌+◌, ◌*◌, ◌<◌, false, List, [], slice_index}
use Rattle.axp_base.specs.Lines.{line_number, line_at}
use Rattle.axp_base.specs.declared.lines.TheConstants.{LINE_BYTES}
use Rattle.axp_line.specs.Lines.{bytes_of_line}
use Rattle.axp_line.specs.declared.contents.LineData.{LineData}
use Rattle.axp_line.specs.declared.messages.Reply.{Reply}
use Rattle.axp_line.specs.declared.messages.Reply.TheVariants as reply
use Rattle.axp_line.specs.declared.messages.Request.{Request}
use Rattle.axp_line.specs.declared.messages.Request.TheVariants as request
use Rattle.axp_base.specs.declared.lines.Line.{Line}
use Rattle.axp_base.specs.Blocks.{is_allowed}
use Rattle.axp_line.specs.BusCalls.{BusCall, late, register}

-- the reply is one that a request of this kind may get
abbrev pub Answers : Request → Reply → Type 0
Answers (request.Fill line) (reply.Line turn bytes) = Unit {0}
Answers (request.FillCode line) (reply.Line turn bytes) = Unit {0}
Answers (request.Drain line mask written) (reply.Stored turn bytes) = Unit {0}
Answers (request.Locked address) (reply.Line turn bytes) = Unit {0}
Answers (request.Conditional address size value armed) (reply.Stored turn bytes) = Unit {0}
Answers (request.Conditional address size value armed) (reply.Refused turn) = Unit {0}
Answers (request.Barrier held) (reply.Barrier turn gone) = Unit {0}
Answers (request.CodeBarrier held) (reply.Barrier turn gone) = Unit {0}
Answers (request.Take bank) (reply.Late line turn) = Unit {0}
Answers (request.Take bank) reply.Nothing = Unit {0}
Answers (request.Poll below) (reply.Polled pending turn) = Unit {0}
Answers (request.Signal target) (reply.Signalled turn) = Unit {0}
Answers (request.Console byte) (reply.Printed turn) = Unit {0}
Answers _ _ = ⊥

-- the turn that a reply tells, 0 where it tells none
abbrev pub turn_of : Reply → ℕ
turn_of (reply.Line turn bytes) = turn
turn_of (reply.Stored turn bytes) = turn
turn_of (reply.Refused turn) = turn
turn_of (reply.Barrier turn gone) = turn
turn_of (reply.Late line turn) = turn
turn_of reply.Nothing = 0
turn_of (reply.Polled pending turn) = turn
turn_of (reply.Signalled turn) = turn
turn_of (reply.Printed turn) = turn

abbrev pub IsNothing : Reply → Type 0
IsNothing reply.Nothing = Unit {0}
IsNothing _ = ⊥

abbrev pub IsRefused : Reply → Type 0
IsRefused (reply.Refused turn) = Unit {0}
IsRefused _ = ⊥

-- processor p takes from a bank in which nothing is late
abbrev pub TakesNothing : ℕ → List BusCall → Request → Type 0
TakesNothing p cs (request.Take bank) = late p bank cs ≡ []
TakesNothing p cs _ = ⊥

-- processor p's own flag is not set, or it has locked no block that has the address
abbrev pub HasNoLock : ℕ → List BusCall → Request → Type 0
HasNoLock p cs (request.Conditional address size value armed) = (armed ≡ false) ⊎ (is_allowed address (register p cs) ≡ false)
HasNoLock p cs _ = ⊥

-- the bytes are those that a memory has on a line
abbrev pub HasLine : (ℕ → ℕ) → Line → LineData → Type 0
HasLine memory line bytes = (i : ℕ) → i < LINE_BYTES → slice_index (bytes_of_line bytes) i ≡ memory (line_number line * LINE_BYTES + i)

-- a line that is told is the one that was asked for, as this memory has it
abbrev pub TellsLine : (ℕ → ℕ) → Request → Reply → Type 0
TellsLine memory (request.Fill line) (reply.Line turn bytes) = HasLine memory line bytes
TellsLine memory (request.FillCode line) (reply.Line turn bytes) = HasLine memory line bytes
TellsLine memory (request.Drain line mask written) (reply.Stored turn bytes) = HasLine memory line bytes
TellsLine memory (request.Locked address) (reply.Line turn bytes) = HasLine memory (line_at address) bytes
TellsLine memory (request.Conditional address size value armed) (reply.Stored turn bytes) = HasLine memory (line_at address) bytes
TellsLine memory _ _ = Unit {0}
