-- What the bus answers to a request after a list of calls.
use Rattle.std.specs.Prelude.{◌≡◌, ℕ, zero, suc, ◌+◌, ◌*◌, Bool, true, false, ◌&&◌, ◌||◌, if◌then◌else◌, List, [], ◌∷◌, Option}
use Rattle.axp_base.specs.Cpus.{cpu_number}
use Rattle.axp_base.specs.Lines.{line_number, line_of, line_at}
use Rattle.axp_base.specs.declared.lines.Bank.{Bank}
use Rattle.axp_base.specs.declared.lines.Bank.TheVariants.{Even, Odd, Code}
use Rattle.axp_base.specs.declared.lines.Line.{Line}
use Rattle.axp_base.specs.declared.lines.TheConstants.{LINE_BYTES}
use Rattle.axp_base.specs.LatePairs.{has_later}
use Rattle.axp_line.specs.Lines.{data_of}
use Rattle.axp_line.specs.declared.contents.LineData.{LineData}
use Rattle.axp_line.specs.declared.messages.Reply.{Reply}
use Rattle.axp_line.specs.declared.messages.Reply.TheVariants as reply
use Rattle.axp_line.specs.declared.messages.Request.{Request}
use Rattle.axp_line.specs.declared.messages.Request.TheVariants as request
use Rattle.axp_base.specs.Blocks.{is_allowed}
use Rattle.axp_line.specs.BusCalls.{BusCall, Written, write_asked, overwritten, memory, turns, late, register, pending}

-- what the bus is for one processor: memory, the turn count, what is late for each data bank, the locked
-- block, and whether an interrupt is requested
pub record PortState : Type 0 where
  pub memory : ℕ → ℕ
  pub turns : ℕ
  pub even : List (Line × ℕ)
  pub odd : List (Line × ℕ)
  pub block : Option ℕ
  pub pending : Bool

abbrev pub port_state : (ℕ → ℕ) → List BusCall → ℕ → PortState
port_state image cs p = record { memory = memory image cs; turns = turns cs; even = late p Even cs; odd = late p Odd cs; block = register p cs; pending = pending p cs }

-- the bytes at so many addresses from one on
unfoldable pub bytes_from : (ℕ → ℕ) → ℕ → ℕ → List ℕ
bytes_from memory at zero = []
bytes_from memory at (suc n) = memory at ∷ bytes_from memory (at + 1) n

-- a line of memory
abbrev pub line_of_memory : (ℕ → ℕ) → Line → LineData
line_of_memory memory line = data_of (bytes_from memory (line_number line * LINE_BYTES) LINE_BYTES)

-- a line as it is: to a fill or a load-locked
abbrev pub line_reply : PortState → Line → Reply
line_reply f line = reply.Line f.turns (line_of_memory f.memory line)

-- the next turn, with the line as it is after it
abbrev pub stored_reply : PortState → Option Written → Line → Reply
stored_reply f w line = reply.Stored (f.turns + 1) (line_of_memory (overwritten w f.memory) line)

-- a store-conditional is stored where its processor's flag is set and its block is locked still
abbrev pub conditional_reply : Bool → PortState → Option Written → Line → Reply
conditional_reply true f w line = stored_reply f w line
conditional_reply false f w line = reply.Refused f.turns

-- something late has a turn on the line at an address that is greater than a copy's stamp
abbrev pub is_late : PortState → ℕ → ℕ → Bool
is_late f address stamp = has_later (line_of address) stamp f.even || has_later (line_of address) stamp f.odd

-- bit n is 1 exactly where that is so of the n-th of these copies
abbrev pub gone : PortState → List (ℕ × ℕ) → ℕ
gone f [] = 0
gone f ((address, stamp) ∷ held) = (if is_late f address stamp then 1 else 0) + 2 * gone f held

-- the first late pair of a bank
abbrev pub first_late : List (Line × ℕ) → Reply
first_late [] = reply.Nothing
first_late ((line, turn) ∷ pairs) = reply.Late line turn

abbrev pub late_in : PortState → Bank → List (Line × ℕ)
late_in f Even = f.even
late_in f Odd = f.odd
late_in f Code = []

unfoldable pub reply_by : PortState → Request → Reply
reply_by f (request.Fill line) = line_reply f line
reply_by f (request.FillCode line) = line_reply f line
reply_by f (request.Drain line mask bytes) = stored_reply f (write_asked (request.Drain line mask bytes)) line
reply_by f (request.Locked address) = line_reply f (line_at address)
reply_by f (request.Conditional address size value armed) =
    conditional_reply (armed && is_allowed address f.block) f (write_asked (request.Conditional address size value armed)) (line_at address)
reply_by f (request.Barrier held) = reply.Barrier f.turns (gone f held)
reply_by f (request.CodeBarrier held) = reply.Barrier f.turns (gone f held)
reply_by f (request.Take bank) = first_late (late_in f bank)
reply_by f (request.Poll below) = reply.Polled f.pending f.turns
reply_by f (request.Signal target) = reply.Signalled (f.turns + 1)
reply_by f (request.Console byte) = reply.Printed f.turns

-- the bus reply to processor p's request
abbrev pub bus_reply : (ℕ → ℕ) → List BusCall → ℕ → Request → Reply
bus_reply image cs p q = reply_by (port_state image cs p) q

-- each call was answered so, after the calls before it
abbrev pub AreReplied : (ℕ → ℕ) → List BusCall → Type 0
AreReplied image [] = Unit {0}
AreReplied image (c ∷ cs) = (c.answer ≡ bus_reply image cs (cpu_number c.cpu) c.ask) × AreReplied image cs
