-- Which calls a bus has answered.
use Rattle.std.specs.Prelude.{◌≡◌, ℕ, ◌<◌, List, length, get_or}
use Rattle.axp_base.specs.declared.processors.Cpu.{Cpu}
use Rattle.axp_line.specs.declared.messages.Reply.{Reply}
use Rattle.axp_line.specs.declared.messages.Request.{Request}
use Rattle.axp_line.specs.BusCalls.{BusCall, memory, turns, console}
use Rattle.axp_line.specs.BusReply.{AreReplied}
use Rattle.axp_bus.specs.Buses.{State, Agrees}
use Rattle.axp_bus.specs.Ports.{IsPort}
use Rattle.axp_bus.specs.Marks.{AreMarks}
use Rattle.axp_bus.specs.declared.ports.Port.{Port}

-- the bus is what it is after these calls, the newest first, where memory was the image at first
pub record Stands (b : State) (image : ℕ → ℕ) (cs : List BusCall) : Type 0 where
  pub memory : Agrees b.memory (memory image cs)
  pub touched : AreMarks b.touched cs
  pub turns : b.turns ≡ turns cs
  pub ports : (p : ℕ) (d : Port) → p < length b.ports → IsPort (get_or b.ports p d) p cs
  pub printed : b.printed ≡ console cs
  pub replied : AreReplied image cs

-- a processor's call
abbrev pub call_of : Cpu → Request → Reply → BusCall
call_of cpu q a = record { cpu = cpu; ask = q; answer = a }
