-- Seats that ask for a line again and again.
use Rattle.std.specs.Prelude.{◌≡◌, ℕ, ◌<◌, ◌≤◌, [], length}
use Rattle.axp_line.specs.declared.messages.Reply.{Reply}
use Rattle.axp_line.specs.declared.messages.Request.{Request}
use Rattle.axp_ticket.specs.declared.lock.TicketSeat.{TicketSeat}
use Rattle.axp_ticket.specs.declared.serving.Served.{Ghosts}
use Rattle.axp_ticket.specs.Seats.{seat_calls, seat_number}
use Rattle.axp_shared.specs.Buses.{IsSeatOfBus, SharedBus, bus_allowance, bus_start}
use Rattle.axp_shared.specs.declared.logs.BusLog.{BusLog}
use Rattle.axp_shared.specs.declared.logs.BusStart.{BusStart}

-- the bus has a line 0, and a seat may ask so often
abbrev pub MayAskOften : SharedBus → ℕ → Type 0
MayAskOften bus times = (0 < (bus_start bus).image.size) × (times ≤ bus_allowance bus)

module _ {g : Ghosts BusLog BusStart Request Reply} where
  -- a seat of the bus, without calls
  abbrev pub IsReady : SharedBus → TicketSeat BusLog BusStart Request Reply g → Type 0
  IsReady bus seat = IsSeatOfBus bus seat × (seat_calls seat ≡ [])

  -- the seat after so many calls
  abbrev pub HasAsked : SharedBus → TicketSeat BusLog BusStart Request Reply g
      → TicketSeat BusLog BusStart Request Reply g → ℕ → Type 0
  HasAsked bus seat after count =
      IsSeatOfBus bus after × (seat_number after ≡ seat_number seat)
      × (length (seat_calls after) ≡ count)
