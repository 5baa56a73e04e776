-- What the bus keeps for one processor.
use Rattle.std.specs.Prelude.{◌≡◌, ℕ, ◌<◌, Bool, true, false, ◌&&◌, if◌then◌else◌, List, [], length, get_or, slice_get, Option, None, Some}
use Rattle.axp_base.specs.declared.lines.Bank.{Bank}
use Rattle.axp_base.specs.declared.lines.Bank.TheVariants.{Even, Odd, Code}
use Rattle.axp_base.specs.declared.lines.Line.{Line}
use Rattle.axp_inval.specs.Queues.{Queue, queue}
use Rattle.axp_base.specs.LatePairs.{AreBefore, late_by_other}
use Rattle.axp_line.specs.declared.messages.Reply.{Reply}
use Rattle.axp_line.specs.declared.messages.Request.{Request}
use Rattle.axp_lockreg.specs.Blocks.{locked_block}
use Rattle.axp_base.specs.Blocks.{lock_by_other}
use Rattle.axp_line.specs.BusCalls.{BusCall, write_made, line_written, late, late_by_own, lock_by_own, register, signals, takes_interrupt, pending}
use Rattle.axp_bus.specs.declared.ports.Port.{Port}

-- what is late in a bank; nothing ever is in the code bank
abbrev pub late_in : Bank → Port → List (Line × ℕ)
late_in Even port = port.even.pairs
late_in Odd port = port.odd.pairs
late_in Code port = []

abbrev pub late_of : Bank → Option Port → List (Line × ℕ)
late_of bank None = []
late_of bank (Some port) = late_in bank port

-- what is late for processor p in a bank, by the ports of a bus
abbrev pub late_for : ℕ → Bank → List Port → List (Line × ℕ)
late_for p bank ports = late_of bank (slice_get ports p)

-- what a call leaves late for a processor, by whether it is its own
abbrev pub late_after : Bool → Bank → Request → Reply → ℕ → List (Line × ℕ) → List (Line × ℕ)
late_after own b q a turn pairs = if own then late_by_own b q a pairs else late_by_other b (line_written (write_made q a)) turn pairs

-- the block that it leaves locked
abbrev pub lock_after : Bool → Request → Reply → Option ℕ → Option ℕ
lock_after own q a block = if own then lock_by_own q block else lock_by_other (line_written (write_made q a)) block

-- whether an interrupt of the processor p is requested after it
abbrev pub pending_after : Bool → ℕ → Request → Bool → Bool
pending_after own p q before = if signals p q then true else if own && takes_interrupt q then false else before

-- a port of processor p after a call, whose turn has this number if it makes one
pub record Noted (own : Bool) (p turn : ℕ) (q : Request) (a : Reply) (old new : Port) : Type 0 where
  pub even : new.even ≡ queue (late_after own Even q a turn old.even.pairs) old.even.room
  pub odd : new.odd ≡ queue (late_after own Odd q a turn old.odd.pairs) old.odd.room
  pub lock : locked_block new.lock ≡ lock_after own q a (locked_block old.lock)
  pub pending : new.pending ≡ pending_after own p q old.pending

-- a queue has room for one more pair, of this turn
pub record HasRoom (turn : ℕ) (q : Queue) : Type 0 where
  pub room : length q.pairs < q.room
  pub newest : AreBefore turn q.pairs

pub record PortHasRoom (turn : ℕ) (port : Port) : Type 0 where
  pub even : HasRoom turn port.even
  pub odd : HasRoom turn port.odd

-- a port of nothing, with this room
pub record IsFresh (room : ℕ) (port : Port) : Type 0 where
  pub even : port.even ≡ queue [] room
  pub odd : port.odd ≡ queue [] room
  pub lock : locked_block port.lock ≡ None
  pub pending : port.pending ≡ false

-- each port is of nothing, with this room
abbrev pub AreFresh : ℕ → List Port → Type 0
AreFresh room ports = (p : ℕ) (d : Port) → p < length ports → IsFresh room (get_or ports p d)

-- the port is processor p's after these calls
pub record IsPort (port : Port) (p : ℕ) (cs : List BusCall) : Type 0 where
  pub even : port.even.pairs ≡ late p Even cs
  pub odd : port.odd.pairs ≡ late p Odd cs
  pub lock : locked_block port.lock ≡ register p cs
  pub pending : port.pending ≡ pending p cs
