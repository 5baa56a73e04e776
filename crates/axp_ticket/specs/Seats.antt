-- What contracts say of a lock and its seats.
use Rattle.std.specs.Prelude.{◌≡◌, ◌≤◌, ℕ, List, [], Option}
use Rattle.atomic_table.specs.declared.shared.Seat.{Seat}
use Rattle.axp_call.specs.declared.calls.Call.{Call}
use Rattle.axp_ticket.specs.declared.board.Placed.{Placed}
use Rattle.axp_ticket.specs.declared.board.Own.{Own}
use Rattle.axp_ticket.specs.declared.board.View.{View}
use Rattle.axp_ticket.specs.declared.serving.Served.{Ghosts}
use Rattle.axp_ticket.specs.declared.lock.TicketLock.{TicketLock}
use Rattle.axp_ticket.specs.declared.lock.TicketSeats.{TicketSeats}
use Rattle.axp_ticket.specs.declared.lock.TicketSeat.{TicketSeat}
use Rattle.axp_ticket.specs.History.{own, HasOneMore, AllBefore, AllBack, IsRightAt, IsHistoryOf, IsOneHistory}
use Rattle.axp_ticket.specs.Moves.{IsPassOf, pass_kept, pass_calls}

module _ {Value Start Ask Answer : Type 0} where
  -- how many seats the lock has
  abbrev pub lock_seats : TicketLock Value Start Ask Answer → ℕ
  lock_seats lock = lock.table.shared.key.seats

  -- how many calls each of them may make
  abbrev pub lock_allowance : TicketLock Value Start Ask Answer → ℕ
  lock_allowance lock = lock.table.shared.key.allowance

  -- the value that it was opened with
  abbrev pub lock_value : TicketLock Value Start Ask Answer → Value
  lock_value lock = lock.table.shared.key.value.value

  -- the lock was opened with this value, for so many seats with so many calls each
  abbrev pub IsLockOf : TicketLock Value Start Ask Answer → Value → ℕ → ℕ → Type 0
  IsLockOf lock value seats allowance =
      (lock_seats lock ≡ seats) × (lock_allowance lock ≡ allowance) × (lock_value lock ≡ value)

  -- a seat of the table is one of the lock's
  abbrev pub IsPassIn : TicketLock Value Start Ask Answer
      → Seat (Option Value) (View Value Ask Answer) → Type 0
  IsPassIn lock pass = IsPassOf lock.table.shared.table_id (lock_value lock) pass

module _ {Value Start Ask Answer : Type 0} {g : Ghosts Value Start Ask Answer} where
  -- how many numbers were handed out, from 0 on
  abbrev pub seats_given : TicketSeats Value Start Ask Answer g → ℕ
  seats_given seats = seats.given

  -- the numbers that came back, in the order in which they did, with their calls
  abbrev pub seats_kept : TicketSeats Value Start Ask Answer g → List (Own Ask Answer)
  seats_kept seats = pass_kept seats.pass

  -- these are the lock's seats
  abbrev pub IsSeatsOf : TicketLock Value Start Ask Answer
      → TicketSeats Value Start Ask Answer g → Type 0
  IsSeatsOf lock seats =
      IsPassIn lock seats.pass × (seats.given ≤ lock_seats lock)

  -- no seat was handed out, and none came back
  abbrev pub AreAllThere : TicketSeats Value Start Ask Answer g → Type 0
  AreAllThere seats = (seats_given seats ≡ 0) × (seats_kept seats ≡ [])

  -- each seat that was handed out came back
  abbrev pub AllHome : TicketSeats Value Start Ask Answer g → Type 0
  AllHome seats = AllBack seats.given (pass_kept seats.pass)

  -- the seat's number
  abbrev pub seat_number : TicketSeat Value Start Ask Answer g → ℕ
  seat_number seat = seat.number

  -- its calls so far, each with its position among all calls
  abbrev pub seat_calls : TicketSeat Value Start Ask Answer g → List (Placed Ask Answer)
  seat_calls seat = pass_calls seat.pass

  -- the seat's number with its calls
  abbrev pub seat_own : TicketSeat Value Start Ask Answer g → Own Ask Answer
  seat_own seat = own (seat_number seat) (seat_calls seat)

  -- this is a seat of the lock
  abbrev pub IsSeatOf : TicketLock Value Start Ask Answer
      → TicketSeat Value Start Ask Answer g → Type 0
  IsSeatOf lock seat = IsPassIn lock seat.pass

  -- this is the lock's seat of this number, without calls
  abbrev pub IsNewSeatOf : TicketLock Value Start Ask Answer → ℕ
      → TicketSeat Value Start Ask Answer g → Type 0
  IsNewSeatOf lock number seat =
      IsSeatOf lock seat × (seat_number seat ≡ number) × (seat_calls seat ≡ [])

  -- the seat after has one call more: its own, at this position, with this ask and answer
  abbrev pub HasOneCallMore : TicketSeat Value Start Ask Answer g
      → TicketSeat Value Start Ask Answer g → ℕ → Ask → Answer → Type 0
  HasOneCallMore before after position ask answer =
      HasOneMore (seat_calls before) (seat_calls after) (seat_number before) position ask answer

  -- all positions of the seat's calls are below this one
  abbrev pub LaterThan : TicketSeat Value Start Ask Answer g → ℕ → Type 0
  LaterThan seat position = AllBefore (seat_calls seat) position

  -- The answer is right after the calls before this position. The seat's own among these are those
  -- that it has made.
  abbrev pub IsRightInTurn : TicketLock Value Start Ask Answer → TicketSeat Value Start Ask Answer g
      → ℕ → Ask → Answer → Type 0
  IsRightInTurn lock seat position ask answer =
      IsRightAt g.Right (g.start (lock_value lock)) (seat_number seat) (seat_calls seat)
      position ask answer

  -- the calls that came back stand in this list, each call of which is right after those before it
  abbrev pub KeepsHistoryOf : TicketLock Value Start Ask Answer
      → TicketSeats Value Start Ask Answer g → List (Call Ask Answer) → Type 0
  KeepsHistoryOf lock seats log =
      IsHistoryOf g.Right (g.start (lock_value lock)) (seats_given seats) (seats_kept seats) log

  -- there is such a list
  abbrev pub KeepsHistory : TicketLock Value Start Ask Answer
      → TicketSeats Value Start Ask Answer g → Type 0
  KeepsHistory lock seats = (log : List (Call Ask Answer)) × KeepsHistoryOf lock seats log

  -- the calls that came back are all calls of this list, each of which is right after those before
  abbrev pub KeepsOneHistoryOf : TicketLock Value Start Ask Answer
      → TicketSeats Value Start Ask Answer g → List (Call Ask Answer) → Type 0
  KeepsOneHistoryOf lock seats log =
      IsOneHistory g.Right (g.start (lock_value lock)) (seats_kept seats) log

  -- there is such a list
  abbrev pub KeepsOneHistory : TicketLock Value Start Ask Answer
      → TicketSeats Value Start Ask Answer g → Type 0
  KeepsOneHistory lock seats = (log : List (Call Ask Answer)) × KeepsOneHistoryOf lock seats log
