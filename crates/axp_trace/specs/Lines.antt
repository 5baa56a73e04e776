-- The lines of event lists and traces, as bytes without the line feed. 32 is a blank.
use Rattle.std.specs.Prelude.{ℕ, zero, suc, ◌*◌, Bool, true, false, List, [], ◌∷◌, ◌++◌, codes, decimal, Option, Some, None}
use Rattle.axp_base.specs.Cpus.{cpu_number}
use Rattle.axp_base.specs.Lines.{line_number}
use Rattle.axp_base.specs.declared.lines.Bank.{Bank}
use Rattle.axp_base.specs.declared.lines.Bank.TheVariants.{Even, Odd, Code}
use Rattle.axp_base.specs.declared.lines.Line.{Line}
use Rattle.axp_base.specs.declared.lines.TheConstants.{LINE_BYTES}
use Rattle.axp_access.specs.declared.Access.{Access}
use Rattle.axp_access.specs.declared.Act.{Act}
use Rattle.axp_access.specs.declared.Act.TheVariants as act
use Rattle.axp_access.specs.declared.Event.{Event}
use Rattle.axp_regs.specs.declared.asks.Kind.{Kind}
use Rattle.axp_regs.specs.declared.asks.Kind.TheVariants as kind
use Rattle.axp_access.specs.declared.Outcome.{Outcome}
use Rattle.axp_access.specs.declared.Outcome.TheVariants as outcome
use Rattle.axp_access.specs.declared.Place.{Place}
use Rattle.axp_access.specs.declared.Place.TheVariants.{At, Entry, Absent}
use Rattle.axp_access.specs.declared.tail_items.TailItem.{TailItem}
use Rattle.axp_access.specs.declared.tail_items.TailItem.TheVariants as item
use Rattle.axp_trace.specs.Digits.{hex, hex_pairs}
use Rattle.axp_trace.specs.declared.files.TheConstants.{LINE_FEED}

-- a line as it stands in a file
abbrev pub with_feed : List ℕ → List ℕ
with_feed line = line ++ LINE_FEED ∷ []

-- a bank
abbrev pub bank_text : Bank → List ℕ
bank_text Even = codes "d0"
bank_text Odd = codes "d1"
bank_text Code = codes "i"

-- the number of a data bank; nothing for the code bank, which has none
abbrev pub bank_number_text : Bank → List ℕ
bank_number_text Even = codes "0"
bank_number_text Odd = codes "1"
bank_number_text Code = []

-- a line of memory: the address of its first byte
abbrev pub address_text : Line → List ℕ
address_text l = hex 8 (line_number l * LINE_BYTES)

-- what a processor does
unfoldable pub act_text : Act → List ℕ
act_text act.Step = codes "step"
act_text act.Fill = codes "fill"
act_text (act.Drain k) = codes "drain " ++ decimal k
act_text (act.Take bank) = codes "take " ++ bank_number_text bank
act_text (act.Drop bank line) = codes "drop " ++ bank_text bank ++ 32 ∷ address_text line
act_text act.Poll = codes "poll"
act_text act.Tick = codes "tick"

-- an event: the processor, and what it does
unfoldable pub event_text : Event → List ℕ
event_text e = decimal (cpu_number e.cpu) ++ 32 ∷ act_text e.act

-- the number of a turn, behind a blank
unfoldable pub turn_text : ℕ → List ℕ
turn_text turn = codes " @" ++ decimal turn

-- an entry of a write buffer
abbrev pub entry_text : ℕ → List ℕ
entry_text n = codes "e" ++ decimal n

-- where an access stands in the order of memory, behind a blank; nothing for no place
abbrev pub place_text : Place → List ℕ
place_text (At turn) = turn_text turn
place_text (Entry n) = 32 ∷ entry_text n
place_text Absent = []

-- what an access of data moves, after the letter of its kind
abbrev pub data_text : Access → List ℕ
data_text a = hex 8 a.address ++ 32 ∷ decimal a.size ++ 32 ∷ hex (2 * a.size) a.value

-- whether a store-conditional succeeded
abbrev pub success_text : Bool → List ℕ
success_text true = codes "yes"
success_text false = codes "no"

-- what an access does; nothing for a poll, which is printed as what came of its event
unfoldable pub move_text : Kind → Access → List ℕ
move_text kind.Fetch a = codes "i " ++ hex 8 a.address ++ 32 ∷ hex 8 a.value
move_text kind.Read a = codes "r " ++ data_text a
move_text kind.Write a = codes "w " ++ data_text a
move_text kind.Locked a = codes "l " ++ data_text a
move_text kind.Conditional a = codes "c " ++ data_text a ++ 32 ∷ success_text a.yes
move_text kind.Barrier a = codes "m"
move_text kind.WriteBarrier a = codes "s"
move_text kind.CodeBarrier a = codes "b"
move_text kind.Signal a = codes "g " ++ decimal a.value
move_text kind.Console a = codes "p " ++ hex 2 a.value
move_text _ a = []

-- an access: what it does, and where it stands
unfoldable pub access_text : Access → List ℕ
access_text a = move_text a.kind a ++ place_text a.place

-- what became of the copy of a line for which a late invalidation was delivered
abbrev pub copy_text : Bool → List ℕ
copy_text true = codes "gone"
copy_text false = codes "kept"

-- a bit
abbrev pub bit_text : Bool → List ℕ
bit_text true = codes "1"
bit_text false = codes "0"

-- whether the processor takes the interrupt for which it polled
abbrev pub poll_text : Bool → List ℕ
poll_text true = codes "enter"
poll_text false = codes "stay"

-- what came of an event
unfoldable pub outcome_text : Outcome → List ℕ
outcome_text (outcome.Access a) = access_text a
outcome_text outcome.NoAccess = codes "n"
outcome_text (outcome.Filled bank line turn) = bank_text bank ++ 32 ∷ address_text line ++ turn_text turn
outcome_text (outcome.Drained entry line turn) = entry_text entry ++ 32 ∷ address_text line ++ turn_text turn
outcome_text (outcome.Taken line turn gone) = address_text line ++ turn_text turn ++ 32 ∷ copy_text gone
outcome_text outcome.Done = codes "ok"
outcome_text (outcome.Polled pending entered turn) = bit_text pending ++ turn_text turn ++ 32 ∷ poll_text entered

-- an event with its outcome, as a trace has it
unfoldable pub line_text : Event → Outcome → List ℕ
line_text e o = event_text e ++ codes " : " ++ outcome_text o

-- the first line of an event list: how many processors, and how many steps each makes at most
unfoldable pub events_header : ℕ → ℕ → List ℕ
events_header cpus budget = codes "axp-events 1 cpus " ++ decimal cpus ++ codes " budget " ++ decimal budget

-- the first line of a trace: the same, and the bytes of memory
unfoldable pub trace_header : ℕ → ℕ → ℕ → List ℕ
trace_header cpus budget memory = codes "axp-trace 1 cpus " ++ decimal cpus ++ codes " budget " ++ decimal budget ++ codes " memory " ++ decimal memory

-- how a processor ended: halted with a code, or with its budget spent
abbrev pub end_text : Option ℕ → List ℕ
end_text (Some code) = codes " halt " ++ decimal code
end_text None = codes " spent"

-- a processor at the end: how it ended, its steps, and its program counter
unfoldable pub processor_line : ℕ → Option ℕ → ℕ → ℕ → List ℕ
processor_line cpu halted steps pc = codes "cpu " ++ decimal cpu ++ end_text halted ++ codes " steps " ++ decimal steps ++ codes " pc " ++ hex 16 pc

-- register n of a processor at the end
unfoldable pub register_line : ℕ → ℕ → ℕ → List ℕ
register_line cpu n value = codes "reg " ++ decimal cpu ++ 32 ∷ decimal n ++ 32 ∷ hex 16 value

-- a quadword of memory at the end
unfoldable pub memory_line : ℕ → ℕ → List ℕ
memory_line address value = codes "mem " ++ hex 8 address ++ 32 ∷ hex 16 value

-- the bytes that were sent to the console
abbrev pub console_text : List ℕ → List ℕ
console_text [] = codes "-"
console_text (b ∷ bs) = hex_pairs (b ∷ bs)

-- what was sent to the console
unfoldable pub console_line : List ℕ → List ℕ
console_line bytes = codes "console " ++ console_text bytes

-- the last line of a trace: how many events it has
unfoldable pub end_line : ℕ → List ℕ
end_line events = codes "end " ++ decimal events

-- the halt code of a processor; none where its budget is spent
abbrev pub halted_of : ℕ → Option ℕ
halted_of zero = None
halted_of (suc code) = Some (suc code)

-- the line of an item of the tail
abbrev pub tail_line : TailItem → List ℕ
tail_line (item.Cpu cpu halt steps pc) = processor_line (cpu_number cpu) (halted_of halt) steps pc
tail_line (item.Reg cpu n value) = register_line (cpu_number cpu) n value
tail_line (item.Mem address value) = memory_line address value
tail_line (item.Console bytes) = console_line bytes
tail_line (item.End events) = end_line events

-- ---- why nothing more is printed

-- the words of the command line have no meaning
unfoldable pub usage_line : List ℕ
usage_line = codes "axp: usage"

-- a file could not be read
unfoldable pub read_fault_line : List ℕ
read_fault_line = codes "axp: read fault"

-- a file is too long
unfoldable pub too_long_line : List ℕ
too_long_line = codes "axp: too long"

-- the image file has this kind of fault at this offset
unfoldable pub bad_image_line : List ℕ → ℕ → List ℕ
bad_image_line kind offset = codes "axp: bad image " ++ kind ++ codes " at " ++ decimal offset

-- the line of this number, from 1, has no meaning
unfoldable pub bad_trace_line : ℕ → List ℕ
bad_trace_line line = codes "axp: bad trace at line " ++ decimal line

-- the event of this number, from 1, is not legal
unfoldable pub not_legal_line : ℕ → List ℕ
not_legal_line event = codes "axp: not legal at event " ++ decimal event

-- the list ends after this many events, and the machine is not complete
unfoldable pub incomplete_line : ℕ → List ℕ
incomplete_line events = codes "axp: incomplete after event " ++ decimal events

-- the line of this number, from 1, is not the right one
unfoldable pub differs_line : ℕ → List ℕ
differs_line line = codes "axp: differs at line " ++ decimal line

-- the line that the trace has there, and the right one
unfoldable pub given_line : List ℕ → List ℕ
given_line line = codes "trace: " ++ line

unfoldable pub right_line : List ℕ → List ℕ
right_line line = codes "right: " ++ line
