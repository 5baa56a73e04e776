-- What each step on the table tells, and how a seat of the table stands.
use Rattle.std.specs.Prelude.{◌≡◌, ◌≢◌, ℕ, suc, ◌^◌, ◌<◌, List, [], ◌∷◌, ◌++◌, length, Option, Some, None}
use Rattle.atomic_table.specs.Table.{Me, Step}
use Rattle.atomic_table.specs.Seated.{TableId}
use Rattle.atomic_table.specs.declared.shared.Seat.{Seat}
use Rattle.axp_call.specs.declared.calls.Call.{Call}
use Rattle.axp_call.specs.Calls.{IsCall}
use Rattle.axp_ticket.specs.declared.board.Placed.{Placed}
use Rattle.axp_ticket.specs.declared.board.Own.{Own}
use Rattle.axp_ticket.specs.declared.board.Role.{Role}
use Rattle.axp_ticket.specs.declared.board.Role.TheVariants.{Nobody, Idle, Waits, Turns, Gathers}
use Rattle.axp_ticket.specs.declared.board.View.{View}
use Rattle.axp_ticket.specs.History.{own, with_call, calls_of, AllBefore, IsHistory}

module _ {Value Ask Answer : Type 0} where
  -- the number that the seat is for, with its calls
  abbrev pub own_of : Role Value Ask Answer → Own Ask Answer
  own_of (Idle o) = o
  own_of (Waits o ticket) = o
  own_of (Turns o ticket value) = o
  own_of _ = own 0 []

  -- what the seat that gathers keeps
  abbrev pub kept_of : Role Value Ask Answer → List (Own Ask Answer)
  kept_of (Gathers given kept) = kept
  kept_of _ = []

  -- the same seat in another role
  abbrev pub posed : View Value Ask Answer → Role Value Ask Answer → View Value Ask Answer
  posed v role = record { opened = v.opened; role = role }

  -- one number more is handed out
  abbrev pub one_given : Role Value Ask Answer → Role Value Ask Answer
  one_given (Gathers given kept) = Gathers (suc given) kept
  one_given role = role

  -- the next number, without calls
  abbrev pub next_own : Role Value Ask Answer → Role Value Ask Answer
  next_own (Gathers given kept) = Idle (own given [])
  next_own _ = Nobody

  -- a number more is kept, with its calls
  abbrev pub with_own : Role Value Ask Answer → Role Value Ask Answer → Role Value Ask Answer
  with_own (Gathers given kept) (Idle o) = Gathers given (kept ++ o ∷ [])
  with_own role _ = role

  -- the view of the seat that gathers, after it handed out a number
  abbrev pub left_of : View Value Ask Answer → View Value Ask Answer
  left_of v = posed v (one_given v.role)

  -- the view of the seat that was handed out
  abbrev pub right_of : View Value Ask Answer → View Value Ask Answer
  right_of v = posed v (next_own v.role)

  -- the view of the seat that gathers, after a seat came back
  abbrev pub both_of : View Value Ask Answer → View Value Ask Answer → View Value Ask Answer
  both_of v w = posed v (with_own v.role w.role)

  -- the view of the seat that came back
  abbrev pub nobody : View Value Ask Answer
  nobody = record { opened = None; role = Nobody }

-- a seat's view, and what it has taken from the slot
abbrev pub Held : Type 0 → Type 0 → Type 0 → Type 0
Held Value Ask Answer = Me (Option Value) (View Value Ask Answer)

module _ {Value Ask Answer : Type 0} where
  -- the same seat, with this ticket
  abbrev pub waiting : Held Value Ask Answer → ℕ → Held Value Ask Answer
  waiting m ticket = (posed m.0 (Waits (own_of m.0.role) ticket), [])

  -- the same seat with the turn: the value as it was taken, and what it will put back
  abbrev pub turning : Held Value Ask Answer → ℕ → Value → Option Value → Held Value Ask Answer
  turning m ticket value back = (posed m.0 (Turns (own_of m.0.role) ticket value), (0, back) ∷ [])

  -- the same seat after its turn, with this call more
  abbrev pub idling : Held Value Ask Answer → ℕ → Call Ask Answer → Held Value Ask Answer
  idling m position c =
      (posed m.0 (Idle (with_call position c (own_of m.0.role))), [])

  -- the seat is idle again with one call more: at this position, with this ask and answer
  abbrev pub HasCalled : ℕ → Ask → Answer → ℕ → Held Value Ask Answer → Held Value Ask Answer
      → Type 0
  HasCalled number ask answer position m m' =
      (c : Call Ask Answer) × IsCall number ask answer c × (m' ≡ idling m position c)

  -- the value's slot is out with the seat, and the value is in it
  abbrev pub HasValue : Held Value Ask Answer → Type 0
  HasValue m = (value : Value) × (m.1 ≡ (0, Some value) ∷ [])

  -- the seat waits with the ticket that it found
  abbrev pub drawn : Step (Option Value) → Held Value Ask Answer → ℕ → Held Value Ask Answer
      → Type 0
  drawn s m n m' = (m' ≡ (posed m.0 (Waits (own_of m.0.role) n), m.1)) × (n < 2 ^ 32)

  module _ {Start : Type 0} (start : Value → Start) (room : Value → ℕ)
      (calls : Value → List (Call Ask Answer)) where
    -- The value has its start, as many calls as the ticket says, the seat's own among them, and
    -- room for one more.
    pub record IsTaken (v : View Value Ask Answer) (ticket : ℕ) (value : Value) : Type 0 where
      pub begun : (x : Value) → v.opened ≡ Some x → start value ≡ start x
      pub many : length (calls value) ≡ ticket
      pub roomy : ticket < room value
      pub mine : calls_of (own_of v.role).number (calls value) ≡ (own_of v.role).calls

    -- the seat got the turn with this ticket, and the slot with the value
    abbrev pub HasTurned : ℕ → Held Value Ask Answer → Held Value Ask Answer → Type 0
    HasTurned ticket m m' =
        (value : Value) × (m' ≡ turning m ticket value (Some value)) × IsTaken m.0 ticket value

    -- Where the word is another ticket nothing changed. Where it is the seat's own it has its turn,
    -- and the value.
    abbrev pub looked : Step (Option Value) → Held Value Ask Answer → ℕ → Held Value Ask Answer
        → Type 0
    looked s m n m' = (n < 2 ^ 32) × ((ticket : ℕ)
        → m.0.role ≡ Waits (own_of m.0.role) ticket
        → (n ≢ ticket → m' ≡ m) × (n ≡ ticket → HasTurned ticket m m'))

  -- Where the value that is given back has one call more, that call is the seat's, at the position
  -- that it found. This was its ticket, and is greater than those of its earlier calls.
  abbrev pub passed : (Value → List (Call Ask Answer)) → Step (Option Value)
      → Held Value Ask Answer → ℕ → Held Value Ask Answer → Type 0
  passed calls s m n m' = (ticket : ℕ) (value back : Value) (c : Call Ask Answer)
      → m.0.role ≡ Turns (own_of m.0.role) ticket value → m.1 ≡ (0, Some back) ∷ []
      → calls back ≡ calls value ++ c ∷ []
      → (m' ≡ idling m n c) × (n ≡ ticket) × AllBefore (own_of m.0.role).calls n

  -- the seat that gathers keeps calls of one history
  abbrev pub settled : {Start : Type 0} → (Value → Start)
      → (Start → List (Call Ask Answer) → ℕ → Ask → Answer → Type 0)
      → Step (Option Value) → Held Value Ask Answer → ℕ → Held Value Ask Answer → Type 0
  settled start Right s m n m' = (m' ≡ m) × ((given : ℕ) (x : Value)
      → m.0.role ≡ Gathers given (kept_of m.0.role) → m.0.opened ≡ Some x
      → IsHistory Right (start x) given (kept_of m.0.role))

module _ {Value Ask Answer : Type 0} where
  -- the seat's calls
  abbrev pub pass_calls : Seat (Option Value) (View Value Ask Answer) → List (Placed Ask Answer)
  pass_calls pass = (own_of pass.me.0.role).calls

  -- what the seat keeps, where it gathers
  abbrev pub pass_kept : Seat (Option Value) (View Value Ask Answer) → List (Own Ask Answer)
  pass_kept pass = kept_of pass.me.0.role

  -- the seat is one of this table, which was opened with this value
  abbrev pub IsPassOf : TableId → Value → Seat (Option Value) (View Value Ask Answer) → Type 0
  IsPassOf table opened pass = (pass.table_id ≡ table) × (pass.me.0.opened ≡ Some opened)

  -- the seat stays the same one of the table
  abbrev pub IsSame : Seat (Option Value) (View Value Ask Answer)
      → Seat (Option Value) (View Value Ask Answer) → Type 0
  IsSame before after =
      (after.table_id ≡ before.table_id) × (after.id ≡ before.id)
      × (after.me.0.opened ≡ before.me.0.opened)

  -- the seat is this number's, between two calls
  abbrev pub IsIdle : ℕ → Seat (Option Value) (View Value Ask Answer) → Type 0
  IsIdle number pass =
      (pass.me.0.role ≡ Idle (own_of pass.me.0.role))
      × ((own_of pass.me.0.role).number ≡ number) × (pass.me.1 ≡ [])

  -- the seat waits with this ticket
  abbrev pub IsWaiting : ℕ → Seat (Option Value) (View Value Ask Answer) → Type 0
  IsWaiting ticket pass = (pass.me.0.role ≡ Waits (own_of pass.me.0.role) ticket) × (pass.me.1 ≡ [])

  -- the seat has the turn with this ticket and took this value, and will put this back
  abbrev pub IsTurning : ℕ → Value → Option Value → Seat (Option Value) (View Value Ask Answer)
      → Type 0
  IsTurning ticket value back pass =
      (pass.me.0.role ≡ Turns (own_of pass.me.0.role) ticket value) × (pass.me.1 ≡ (0, back) ∷ [])

  -- the seat gathers, and so many numbers were handed out
  abbrev pub IsGathering : ℕ → Seat (Option Value) (View Value Ask Answer) → Type 0
  IsGathering given pass =
      (pass.me.0.role ≡ Gathers given (kept_of pass.me.0.role)) × (pass.me.1 ≡ [])
