-- What a trace's tail tells of the end, by the records alone.
use Rattle.std.specs.Prelude.{◌≡◌, ℕ, zero, suc, ◌+◌, ◌-◌, ◌*◌, ◌/◌, ◌==◌, ◌<◌, nat_lt, true, false, if◌then◌else◌, List, [], ◌∷◌, ◌++◌, length, Option, Some, None}
use Rattle.axp_access.specs.declared.tail_items.TailItem.{TailItem}
use Rattle.axp_access.specs.declared.tail_items.TailItem.TheVariants as item
use Rattle.axp_base.specs.Cpus.{cpu_of}
use Rattle.axp_base.specs.declared.parts.TheConstants.{QUADWORD_BYTES}
use Rattle.axp_base.specs.declared.processors.Cpu.{Cpu}
use Rattle.axp_model.specs.Console.{printed}
use Rattle.axp_regs.specs.States.{pc_of, register}
use Rattle.axp_regs.specs.declared.states.TheConstants.{ZERO_REGISTER}
use Rattle.axp_world.specs.Worlds.{cpu_or_first}
use Rattle.axp_machine.specs.Runs.{Seen, quadword_of, steps_of, table_of, touches}
use Rattle.axp_machine.specs.declared.machine.tails.TailAt.{TailAt}
use Rattle.axp_machine.specs.declared.machine.tails.TailAt.TheVariants as at

-- the processor of a number below the greatest count
abbrev pub cpu_at : ℕ → Cpu
cpu_at p = cpu_or_first (cpu_of p)

-- 0 where the budget is spent, else the halt code
abbrev pub halt_of : Option ℕ → ℕ
halt_of None = 0
halt_of (Some code) = code

-- how processor p ended
abbrev pub ended : Seen → ℕ → TailItem
ended m p = item.Cpu (cpu_at p) (halt_of (table_of m p).halted) (steps_of m p) (pc_of (table_of m p).state)

-- what its register n holds
abbrev pub register_of : Seen → ℕ → ℕ → ℕ
register_of m p n = register (table_of m p).state n

-- its register n
abbrev pub register_item : Seen → ℕ → ℕ → TailItem
register_item m p n = item.Reg (cpu_at p) n (register_of m p n)

-- the same, unless it is 0
abbrev pub register_items : Seen → ℕ → ℕ → List TailItem
register_items m p n = if register_of m p n == 0 then [] else register_item m p n ∷ []

-- k registers, from register n on
unfoldable pub registers_from : Seen → ℕ → ℕ → ℕ → List TailItem
registers_from m p n zero = []
registers_from m p n (suc k) = register_items m p n ++ registers_from m p (n + 1) k

-- k processors, from processor p on: how each ended, and its registers
unfoldable pub processors_from : Seen → ℕ → ℕ → List TailItem
processors_from m p zero = []
processors_from m p (suc k) = ended m p ∷ (registers_from m p 0 ZERO_REGISTER ++ processors_from m (p + 1) k)

-- the aligned quadword of this number
abbrev pub quadword_item : Seen → ℕ → TailItem
quadword_item m q = item.Mem (q * QUADWORD_BYTES) (quadword_of m q)

-- the same, where a turn touched it
abbrev pub quadword_items : Seen → ℕ → List TailItem
quadword_items m q = if touches m q then quadword_item m q ∷ [] else []

-- k quadwords, from quadword q on
unfoldable pub memory_from : Seen → ℕ → ℕ → List TailItem
memory_from m q zero = []
memory_from m q (suc k) = quadword_items m q ++ memory_from m (q + 1) k

-- how many quadwords memory has
abbrev pub quadwords : Seen → ℕ
quadwords m = m.image.size / QUADWORD_BYTES

-- all bytes that went to the console, and the number of events
abbrev pub console_item : Seen → TailItem
console_item m = item.Console (printed m.records)

abbrev pub end_item : Seen → TailItem
end_item m = item.End (length m.records)

-- the tail: the processors, the quadwords that were written, the console and the number of events
unfoldable pub tail_items : Seen → List TailItem
tail_items m = processors_from m 0 m.cpus ++ (memory_from m 0 (quadwords m) ++ (console_item m ∷ end_item m ∷ []))

-- its items from a quadword on, from a processor on, and from a register of a processor on
unfoldable pub from_quadword : Seen → ℕ → List TailItem
from_quadword m q = memory_from m q (quadwords m - q) ++ (console_item m ∷ end_item m ∷ [])

unfoldable pub from_processor : Seen → ℕ → List TailItem
from_processor m p = processors_from m p (m.cpus - p) ++ from_quadword m 0

unfoldable pub from_register : Seen → ℕ → ℕ → List TailItem
from_register m p n = registers_from m p n (ZERO_REGISTER - n) ++ from_processor m (p + 1)

-- its items from a place on; a processor that the machine does not have has no registers
abbrev pub items_from : Seen → TailAt → List TailItem
items_from m (at.Processor p) = from_processor m p
items_from m (at.Register p n) = if nat_lt p m.cpus then from_register m p n else from_quadword m 0
items_from m (at.Quadword q) = from_quadword m q
items_from m at.Console = console_item m ∷ end_item m ∷ []
items_from m at.End = end_item m ∷ []
items_from m at.Past = []

-- what stands at a place that has an item
abbrev pub item_at : Seen → TailAt → Option TailItem
item_at m (at.Processor p) = Some (ended m p)
item_at m (at.Register p n) = Some (register_item m p n)
item_at m (at.Quadword q) = Some (quadword_item m q)
item_at m at.Console = Some (console_item m)
item_at m at.End = Some (end_item m)
item_at m at.Past = None

-- the place behind it
abbrev pub place_behind : TailAt → TailAt
place_behind (at.Processor p) = at.Register p 0
place_behind (at.Register p n) = at.Register p (n + 1)
place_behind (at.Quadword q) = at.Quadword (q + 1)
place_behind at.Console = at.End
place_behind at.End = at.Past
place_behind at.Past = at.Past

-- a register that is told: of a processor that the machine has, and not 0
pub record IsRegister (m : Seen) (p n : ℕ) : Type 0 where
  pub processor : p < m.cpus
  pub register : n < ZERO_REGISTER
  pub filled : (register_of m p n == 0) ≡ false

-- a quadword that is told: of memory, and written
pub record IsWritten (m : Seen) (q : ℕ) : Type 0 where
  pub inside : q < quadwords m
  pub touched : touches m q ≡ true

-- a place that has an item, or the one behind the last
abbrev pub IsPlace : Seen → TailAt → Type 0
IsPlace m (at.Processor p) = p < m.cpus
IsPlace m (at.Register p n) = IsRegister m p n
IsPlace m (at.Quadword q) = IsWritten m q
IsPlace m _ = Unit {0}

-- the items from a place on are none, or this one and those from the next place on
abbrev pub IsNext : Seen → TailAt → Option (TailItem × TailAt) → Type 0
IsNext m place None = items_from m place ≡ []
IsNext m place (Some (i, next)) = items_from m place ≡ i ∷ items_from m next
