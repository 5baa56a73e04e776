-- One processor whole: the instruction table's side and what it keeps of memory. What it asks of the bus,
-- what it gives and what it becomes are fixed by this and by the bus's answer.
use Rattle.std.specs.Prelude.{ℕ, Option, Some, None, Result, Ok, Err}
use Rattle.axp_access.specs.declared.Act.{Act}
use Rattle.axp_access.specs.declared.Act.TheVariants as act
use Rattle.axp_access.specs.declared.Intent.{Intent}
use Rattle.axp_access.specs.declared.Outcome.{Outcome}
use Rattle.axp_access.specs.declared.Wanted.{Wanted}
use Rattle.axp_base.specs.Cpus.{cpu_number}
use Rattle.axp_base.specs.declared.processors.Cpu.{Cpu}
use Rattle.axp_image.specs.Contents.{Contents}
use Rattle.axp_line.specs.declared.messages.Reply.{Reply}
use Rattle.axp_lsu.specs.declared.asks.Ask2.{Ask2}
use Rattle.axp_lsu.specs.Asking.{ask_of}
use Rattle.axp_lsu.specs.Going.{is_entered}
use Rattle.axp_lsu.specs.Going as going
use Rattle.axp_lsu.specs.Keeping.{LocalMemory, empty_memory}
use Rattle.axp_trap.specs.declared.causes.TheConstants.{CLOCK}
use Rattle.axp_cpu.specs.declared.refusals.NotLegal.{NotLegal}
use Rattle.axp_cpu.specs.Following.{seat_entered}
use Rattle.axp_cpu.specs.Seats.{Seat, first_seat, intent_of, seat_after_none, seat_after_value, seat_interrupted}

pub record Actor : Type 0 where
  pub cpu : Cpu
  pub seat : Seat
  pub kept : LocalMemory

-- at the start
abbrev pub first_actor : Contents → ℕ → ℕ → Cpu → Actor
first_actor image cpus budget cpu = record { cpu = cpu; seat = first_seat image cpus budget (cpu_number cpu); kept = empty_memory }

-- what it is about to do
abbrev pub actor_intent : Actor → Intent
actor_intent a = intent_of a.seat

abbrev pub asked_or_refused : Option Ask2 → Result Ask2 NotLegal
asked_or_refused None = Err (record {})
asked_or_refused (Some q) = Ok q

-- what an act asks, or that it is not legal, as far as the processor knows
unfoldable pub request_of : Actor → Act → Result Ask2 NotLegal
request_of a e = asked_or_refused (ask_of e (actor_intent a) a.kept)

-- a Step goes on with the value that its access gave, or with none
abbrev pub moved_by : Option Wanted → Option Reply → Actor → Seat
moved_by None r a = seat_after_none a.seat
moved_by (Some w) r a = seat_after_value a.seat (going.value_of w a.kept r)

-- a Poll enters as its outcome tells
abbrev pub polled_by : Option Reply → Actor → Seat
polled_by r a = seat_entered (is_entered (actor_intent a).takes_interrupts r) a.seat

abbrev pub seat_after : Act → Option Reply → Actor → Seat
seat_after act.Step r a = moved_by (actor_intent a).wanted r a
seat_after act.Poll r a = polled_by r a
seat_after act.Tick r a = seat_interrupted CLOCK a.seat
seat_after _ r a = a.seat

-- the processor after an act, with the bus's answer where it asked
unfoldable pub advanced : Actor → Act → Option Reply → Actor
advanced a e r = record { cpu = a.cpu; seat = seat_after e r a; kept = going.advanced e (actor_intent a) r a.kept }

-- what the act gives
unfoldable pub outcome_of : Actor → Act → Option Reply → Outcome
outcome_of a e r = going.outcome_of e a.cpu (actor_intent a) a.kept r
