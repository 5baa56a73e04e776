-- What contracts say of a shared bus and its seats.
use Rattle.std.specs.Prelude.{◌≡◌, ℕ, ◌*◌, ◌<◌, List, [], length, reverse}
use Rattle.axp_image.specs.Contents.{Contents}
use Rattle.axp_line.specs.BusCalls.{BusCall}
use Rattle.axp_line.specs.BusReply.{AreReplied}
use Rattle.axp_line.specs.declared.messages.Reply.{Reply}
use Rattle.axp_line.specs.declared.messages.Request.{Request}
use Rattle.axp_ticket.specs.declared.lock.TicketSeat.{TicketSeat}
use Rattle.axp_ticket.specs.declared.lock.TicketSeats.{TicketSeats}
use Rattle.axp_ticket.specs.declared.serving.Served.{Ghosts}
use Rattle.axp_ticket.specs.History.{IsHistoryOf, IsOneHistory, IsRightAt}
use Rattle.axp_ticket.specs.Seats.{IsSeatOf, IsSeatsOf, AllHome, lock_allowance, lock_seats, lock_value, seat_calls, seat_number, seats_given, seats_kept}
use Rattle.axp_shared.specs.Answers.{IsBusAnswer, start_memory, start_of}
use Rattle.axp_shared.specs.declared.buses.Shared.{Shared}
use Rattle.axp_shared.specs.declared.buses.TheConstants.{CALLS_PER_STEP}
use Rattle.axp_shared.specs.declared.logs.BusLog.{BusLog}
use Rattle.axp_shared.specs.declared.logs.BusStart.{BusStart}

-- a bus that threads share
abbrev pub SharedBus : Type 0
SharedBus = Shared BusLog BusStart Request Reply

-- what it was opened with: the image, and the number of processors
abbrev pub bus_start : SharedBus → BusStart
bus_start bus = start_of (lock_value bus.lock).image.value (length (lock_value bus.lock).bus.ports)

-- how many calls each seat may make
abbrev pub bus_allowance : SharedBus → ℕ
bus_allowance bus = lock_allowance bus.lock

-- it was opened for this image, so many processors and this budget
abbrev pub IsBusOf : SharedBus → Contents → ℕ → ℕ → Type 0
IsBusOf bus image cpus budget =
    (bus_start bus ≡ start_of image cpus) × (bus_allowance bus ≡ CALLS_PER_STEP * budget)

module _ {g : Ghosts BusLog BusStart Request Reply} where
  -- these are the bus's seats, one for each processor
  abbrev pub AreSeatsOfBus : SharedBus → TicketSeats BusLog BusStart Request Reply g → Type 0
  AreSeatsOfBus bus seats =
      IsSeatsOf bus.lock seats × (lock_seats bus.lock ≡ (bus_start bus).cpus)

  -- this is a seat of the bus, and its number that of a processor
  abbrev pub IsSeatOfBus : SharedBus → TicketSeat BusLog BusStart Request Reply g → Type 0
  IsSeatOfBus bus seat = IsSeatOf bus.lock seat × (seat_number seat < (bus_start bus).cpus)

  -- this is the bus's seat of this number, without calls
  abbrev pub IsNewSeatOfBus : SharedBus → ℕ → TicketSeat BusLog BusStart Request Reply g → Type 0
  IsNewSeatOfBus bus number seat =
      IsSeatOfBus bus seat × (seat_number seat ≡ number) × (seat_calls seat ≡ [])

  -- The reply is the bus's after the calls before this position. The seat's own among these are
  -- those that it has made.
  abbrev pub IsReplyInTurn : SharedBus → TicketSeat BusLog BusStart Request Reply g → ℕ → Request
      → Reply → Type 0
  IsReplyInTurn bus seat position request reply =
      IsRightAt IsBusAnswer (bus_start bus) (seat_number seat) (seat_calls seat)
      position request reply

  -- The calls that came back stand in this list of the bus's calls, the earliest first.
  pub record KeepsBusHistory (bus : SharedBus)
      (seats : TicketSeats BusLog BusStart Request Reply g) (log : List BusCall) : Type 0 where
    -- each reply is the bus's after the calls before it, which are taken the newest first
    pub replied : AreReplied (start_memory (bus_start bus)) (reverse log)
    -- a seat that came back has exactly the calls of its processor, each with its position
    pub history : IsHistoryOf IsBusAnswer (bus_start bus) (seats_given seats) (seats_kept seats) log
    -- once all came back, each call of the list is that of one seat
    pub whole : AllHome seats → IsOneHistory IsBusAnswer (bus_start bus) (seats_kept seats) log
