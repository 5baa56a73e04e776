-- What a bus keeps, and what it may be asked.
use Rattle.std.specs.Prelude.{◌≡◌, ℕ, ◌+◌, ◌*◌, ◌%◌, ◌<◌, ◌≤◌, ◌⊎◌, ◌==◌, Bool, List, length, get_or, slice_index}
use Rattle.axp_base.specs.Cpus.{cpu_number}
use Rattle.axp_base.specs.Lines.{line_number}
use Rattle.axp_base.specs.declared.lines.TheConstants.{LINE_BYTES}
use Rattle.axp_inval.specs.Queues.{Queue}
use Rattle.axp_base.specs.LatePairs.{AreBefore}
use Rattle.axp_line.specs.declared.messages.Reply.{Reply}
use Rattle.axp_line.specs.declared.messages.Request.{Request}
use Rattle.axp_line.specs.declared.messages.Request.TheVariants as request
use Rattle.axp_lockreg.specs.Blocks.{locked_block}
use Rattle.axp_line.specs.BusReply.{PortState}
use Rattle.axp_bus.specs.Ports.{Noted, PortHasRoom}
use Rattle.axp_bus.specs.declared.ports.Port.{Port}

-- a bus is seen as memory, a mark for each of its quadwords, how many turns were made, a port for each
-- processor, the bytes that went to the console, and for how many turns, and bytes, there is room
pub record State : Type 0 where
  pub memory : List ℕ
  pub touched : List Bool
  pub turns : ℕ
  pub ports : List Port
  pub printed : List ℕ
  pub room : ℕ

-- what may be asked of a bus of a memory of this size, and of so many processors: what lies in memory,
-- and of processors that there are
abbrev pub MayAsk : ℕ → ℕ → Request → Type 0
MayAsk size cpus (request.Fill line) = line_number line * LINE_BYTES < size
MayAsk size cpus (request.FillCode line) = line_number line * LINE_BYTES < size
MayAsk size cpus (request.Drain line mask bytes) = line_number line * LINE_BYTES < size
MayAsk size cpus (request.Locked address) = address < size
MayAsk size cpus (request.Conditional address width value armed) = (address < size) × (((width ≡ 4) ⊎ (width ≡ 8)) × (address % width ≡ 0))
MayAsk size cpus (request.Signal target) = cpu_number target < cpus
MayAsk size cpus _ = Unit {0}

-- the list has the byte that a memory has at each address
abbrev pub Agrees : List ℕ → (ℕ → ℕ) → Type 0
Agrees bytes memory = (k : ℕ) → k < length bytes → slice_index bytes k ≡ memory k

-- what a bus of this memory, turn count and port is for the port's processor
abbrev pub port_state_of : (ℕ → ℕ) → ℕ → Port → PortState
port_state_of memory turns port =
    record { memory = memory; turns = turns; even = port.even.pairs; odd = port.odd.pairs; block = locked_block port.lock; pending = port.pending }

-- each port after a call of processor cpu
abbrev pub NotedAll : ℕ → ℕ → Request → Reply → List Port → List Port → Type 0
NotedAll cpu turn q a old new = (p : ℕ) (d : Port) → p < length old → Noted (cpu == p) p turn q a (get_or old p d) (get_or new p d)

-- the ports below n are noted, the others as they were
pub record NotedBelow (n cpu turn : ℕ) (q : Request) (a : Reply) (old new : List Port) : Type 0 where
  pub size : length new ≡ length old
  pub done : (p : ℕ) (d : Port) → p < n → p < length old → Noted (cpu == p) p turn q a (get_or old p d) (get_or new p d)
  pub left : (p : ℕ) (d : Port) → n ≤ p → get_or new p d ≡ get_or old p d

-- each port has room for one more pair, of this turn
abbrev pub HaveRoom : ℕ → List Port → Type 0
HaveRoom turn ports = (p : ℕ) (d : Port) → p < length ports → PortHasRoom turn (get_or ports p d)

-- a queue has no more pairs than there were turns, each of one of these, and room for all
pub record IsTidyQueue (turns most : ℕ) (q : Queue) : Type 0 where
  pub few : length q.pairs ≤ turns
  pub made : AreBefore (turns + 1) q.pairs
  pub room : most ≤ q.room

pub record IsTidyPort (turns room : ℕ) (port : Port) : Type 0 where
  pub even : IsTidyQueue turns room port.even
  pub odd : IsTidyQueue turns room port.odd

abbrev pub AreTidy : ℕ → ℕ → List Port → Type 0
AreTidy turns room ports = (p : ℕ) (d : Port) → p < length ports → IsTidyPort turns room (get_or ports p d)
