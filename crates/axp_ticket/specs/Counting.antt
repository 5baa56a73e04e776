-- A counter that answers how many calls it has had, and the seats that count with it.
use Rattle.std.specs.Prelude.{◌≡◌, ℕ, ◌+◌, ◌<◌, List, [], length}
use Rattle.axp_base.specs.declared.processors.TheConstants.{MAX_CPUS}
use Rattle.axp_call.specs.declared.calls.Call.{Call}
use Rattle.axp_ticket.specs.declared.serving.Served.{Ghosts}
use Rattle.axp_ticket.specs.declared.lock.TicketLock.{TicketLock}
use Rattle.axp_ticket.specs.declared.lock.TicketSeat.{TicketSeat}
use Rattle.axp_ticket.specs.Seats.{IsSeatOf, seat_number, seat_calls}

-- any ask of a processor fits
abbrev pub CountFits : ℕ → ℕ → ℕ → Type 0
CountFits start number ask = number < MAX_CPUS

-- the right answer is the start with the number of earlier calls
abbrev pub CountRight : ℕ → List (Call ℕ ℕ) → ℕ → ℕ → ℕ → Type 0
CountRight start calls number ask answer = answer ≡ start + length calls

module _ {Value Start Ask Answer : Type 0} {g : Ghosts Value Start Ask Answer} where
  -- a processor's seat of the lock, without calls
  abbrev pub IsReady : TicketLock Value Start Ask Answer → TicketSeat Value Start Ask Answer g
      → Type 0
  IsReady lock seat =
      IsSeatOf lock seat × (seat_calls seat ≡ []) × (seat_number seat < MAX_CPUS)

  -- the seat after so many calls
  abbrev pub HasCounted : TicketLock Value Start Ask Answer → TicketSeat Value Start Ask Answer g
      → TicketSeat Value Start Ask Answer g → ℕ → Type 0
  HasCounted lock seat after count =
      IsSeatOf lock after × (seat_number after ≡ seat_number seat)
      × (length (seat_calls after) ≡ count)
