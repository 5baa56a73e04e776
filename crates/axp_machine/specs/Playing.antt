-- What one event asks of its processor and of the bus, and what it leaves of both.
use Rattle.std.specs.Prelude.{◌≡◌, ℕ, ◌<◌, ◌==◌, ◌&&◌, nat_lt, if◌then◌else◌, Bool, true, false, List, length, Option, Some, None, Result, Ok, Err}
use Rattle.axp_access.specs.declared.Event.{Event}
use Rattle.axp_base.specs.Cpus.{cpu_number}
use Rattle.axp_base.specs.declared.lines.Bank.{Bank}
use Rattle.axp_base.specs.declared.processors.Cpu.{Cpu}
use Rattle.axp_bus.specs.Buses.{State, MayAsk}
use Rattle.axp_bus.specs.BusStands.{Stands}
use Rattle.axp_cpu.specs.declared.refusals.NotLegal.{NotLegal}
use Rattle.axp_image.specs.Contents.{Contents}
use Rattle.axp_line.specs.declared.messages.Reply.{Reply}
use Rattle.axp_line.specs.declared.messages.Reply.TheVariants as reply
use Rattle.axp_line.specs.declared.messages.Request.TheVariants as request
use Rattle.axp_lsu.specs.declared.asks.Ask2.{Ask2}
use Rattle.axp_lsu.specs.declared.asks.Ask2.TheVariants as ask
use Rattle.axp_line.specs.BusCalls.{BusCall}
use Rattle.axp_world.specs.Worlds.{World, asked, reply_at, reply_for}
use Rattle.axp_cpu.specs.Actors.{Actor}
use Rattle.axp_cpu.specs.Seats.{is_finished}
use Rattle.axp_machine.specs.Runs.{Seen, world_of}

-- what is asked is granted, but for a take where nothing is late
abbrev pub granted_by : Result Ask2 NotLegal → Option Reply → Result Ask2 NotLegal
granted_by (Err e) r = Err e
granted_by (Ok q) (Some reply.Nothing) = Err (record {})
granted_by (Ok q) r = Ok q

abbrev pub granted : Contents → World → Event → Result Ask2 NotLegal
granted image w e = granted_by (asked w e) (reply_at image w e)

-- what an event of a machine's processor asks
unfoldable pub granted_in : Seen → Event → Result Ask2 NotLegal
granted_in m e = if nat_lt (cpu_number e.cpu) m.cpus then granted m.image (world_of m) e else Err (record {})

-- the bus answers that there is nothing
abbrev pub is_nothing : Option Reply → Bool
is_nothing None = false
is_nothing (Some reply.Nothing) = true
is_nothing (Some _) = false

-- the bank of a take
abbrev pub bank_taken : Ask2 → Option Bank
bank_taken (ask.Bus (request.Take bank)) = Some bank
bank_taken _ = None

abbrev pub IsTakenInVain : State → Cpu → Ask2 → Bool → Type 0
IsTakenInVain b cpu q result = (image : ℕ → ℕ) (cs : List BusCall) → Stands b image cs → result ≡ is_nothing (reply_for image cs (cpu_number cpu) (Ok q))

-- the bus may be asked this by this processor, and has room for the turn
abbrev pub MayAskFor : State → Ask2 → Type 0
MayAskFor b ask.Private = Unit {0}
MayAskFor b (ask.Bus q) = MayAsk (length b.memory) (length b.ports) q

pub record MayAnswer (b : State) (cpu : Cpu) (q : Ask2) : Type 0 where
  pub below : cpu_number cpu < length b.ports
  pub asks : MayAskFor b q
  pub turns : b.turns < b.room
  pub printed : length b.printed < b.room

-- a processor of the world after a machine's records
abbrev pub actor_of : Seen → ℕ → Actor
actor_of m p = (world_of m).actors p

-- it is finished, and nothing waits in its buffer
abbrev pub is_done : Actor → Bool
is_done a = is_finished a.seat && (length a.kept.buffer.kept == 0)
