-- How the parts of a bus stand for it, and what is true of every bus.
use Rattle.std.specs.Prelude.{◌≡◌, ◌*◌, ◌≤◌, ◌<◌, ◌^◌, length}
use Rattle.std.specs.Vec.{vec_capacity}
use Rattle.axp_base.specs.declared.parts.TheConstants.{QUADWORD_BYTES}
use Rattle.axp_base.specs.declared.processors.TheConstants.{MAX_CPUS}
use Rattle.axp_memory.specs.Bytes.{AreLines}
use Rattle.axp_bus.specs.declared.buses.Bus.TheInside.{Inside}
use Rattle.axp_bus.specs.Buses.{State, AreTidy}

abbrev pub state_of : Inside → State
state_of a = record { memory = a.memory; touched = a.touched.items; turns = a.turns; ports = a.ports.items; printed = a.printed.items; room = a.room }

pub record IsTidy (a : Inside) : Type 0 where
  pub memory : AreLines a.memory
  pub marks : length a.touched.items * QUADWORD_BYTES ≡ length a.memory
  pub turns : a.turns ≤ a.room
  pub small : a.room < 2 ^ 32
  pub cpus : length a.ports.items ≤ MAX_CPUS
  pub ports : AreTidy a.turns a.room a.ports.items
  pub printed : length a.printed.items ≤ a.room
  pub space : a.room ≤ vec_capacity a.printed
