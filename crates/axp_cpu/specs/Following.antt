-- One processor by the records of a history alone: what it is about to do is the instruction table
-- applied to the values that its own accesses show.
use Rattle.std.specs.Prelude.{ℕ, Bool, if◌then◌else◌, List, [], ◌∷◌}
use Rattle.axp_access.specs.declared.Access.{Access}
use Rattle.axp_access.specs.declared.Act.{Act}
use Rattle.axp_access.specs.declared.Act.TheVariants as act
use Rattle.axp_access.specs.declared.Outcome.{Outcome}
use Rattle.axp_access.specs.declared.Outcome.TheVariants as outcome
use Rattle.axp_access.specs.declared.Record.{Record}
use Rattle.axp_image.specs.Contents.{Contents}
use Rattle.axp_model.specs.Processors.{Processors}
use Rattle.axp_model.specs.Records.{is_of}
use Rattle.axp_regs.specs.declared.asks.Kind.{Kind}
use Rattle.axp_regs.specs.declared.asks.Kind.TheVariants.{Fetch, Read, Locked, Conditional}
use Rattle.axp_trap.specs.declared.causes.TheConstants.{CLOCK, INTERPROCESSOR}
use Rattle.axp_cpu.specs.Seats.{Seat, first_seat, intent_of, seat_after_none, seat_after_value, seat_interrupted}

-- the value that an access of this kind gives to its instruction, as its record shows it: what was
-- read, or whether a store-conditional succeeded; 0 where it gives none
abbrev pub value_by : Kind → Access → ℕ
value_by Fetch a = a.value
value_by Read a = a.value
value_by Locked a = a.value
value_by Conditional a = if a.yes then 1 else 0
value_by _ a = 0

abbrev pub value_shown : Access → ℕ
value_shown a = value_by a.kind a

-- a Step goes on with the value of the access that it shows, or with none
abbrev pub seat_after_step : Outcome → Seat → Seat
seat_after_step (outcome.Access a) s = seat_after_value s (value_shown a)
seat_after_step outcome.NoAccess s = seat_after_none s
seat_after_step _ s = s

-- a Poll that enters begins the entry of another processor's interrupt
abbrev pub seat_entered : Bool → Seat → Seat
seat_entered entered s = if entered then seat_interrupted INTERPROCESSOR s else s

abbrev pub seat_after_poll : Outcome → Seat → Seat
seat_after_poll (outcome.Polled pending entered turn) s = seat_entered entered s
seat_after_poll _ s = s

-- a Tick begins the entry of the clock's interrupt; no other act moves a processor
abbrev pub seat_after : Act → Outcome → Seat → Seat
seat_after act.Step o s = seat_after_step o s
seat_after act.Poll o s = seat_after_poll o s
seat_after act.Tick o s = seat_interrupted CLOCK s
seat_after _ o s = s

-- where processor p stands after a history
abbrev pub seat_in : Contents → ℕ → ℕ → ℕ → List Record → Seat
seat_in image cpus budget p [] = first_seat image cpus budget p
seat_in image cpus budget p (r ∷ h) =
    if is_of p r then seat_after r.event.act r.outcome (seat_in image cpus budget p h) else seat_in image cpus budget p h

-- so many processors over an image, each with a budget of steps, as the memory model asks of them
abbrev pub processors : Contents → ℕ → ℕ → Processors
processors image cpus budget = record { count = cpus; intent = λ p h. intent_of (seat_in image cpus budget p h) }
