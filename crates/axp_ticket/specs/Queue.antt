-- The rule of the table: what holds between any two steps.
use Rattle.std.specs.Prelude.{◌≡◌, ◌⊎◌, ℕ, ◌+◌, ◌-◌, ◌*◌, ◌<◌, ◌≤◌, List, [], ◌∷◌, length, Option, Some, None}
use mathlib.Core.Option.{some, none}
use lib.ListN.{get_elem?}
use Rattle.atomic_table.specs.Table.{State}
use Rattle.axp_call.specs.declared.calls.Call.{Call}
use Rattle.axp_call.specs.Calls.{AllRight}
use Rattle.axp_ticket.specs.declared.board.Own.{Own}
use Rattle.axp_ticket.specs.declared.board.Role.{Role}
use Rattle.axp_ticket.specs.declared.board.Role.TheVariants.{Nobody, Idle, Waits, Turns, Gathers}
use Rattle.axp_ticket.specs.declared.board.View.{View}
use Rattle.axp_ticket.specs.History.{calls_of, IsAmong, EachOnce}

-- the homes of the slots: one, at home with what is in it or away
abbrev pub Homes : Type 0 → Type 0
Homes Value = List (mathlib.Core.Option.Option (Option Value))

-- the table as plain data
abbrev pub TableState : Type 0 → Type 0 → Type 0 → Type 0
TableState Value Ask Answer = State (Option Value) (View Value Ask Answer)

module _ {Value Ask Answer : Type 0} where
  -- the calls that this role may still draw tickets for
  abbrev pub rights : ℕ → ℕ → Role Value Ask Answer → ℕ
  rights seats allowance Nobody = 0
  rights seats allowance (Idle o) = allowance - length o.calls
  rights seats allowance (Waits o ticket) = allowance - (length o.calls + 1)
  rights seats allowance (Turns o ticket value) = allowance - (length o.calls + 1)
  rights seats allowance (Gathers given kept) = (seats - given) * allowance

  -- what the views have of this, in all
  abbrev pub total : (Role Value Ask Answer → ℕ) → List (View Value Ask Answer) → ℕ
  total part [] = 0
  total part (v ∷ vs) = part v.role + total part vs

  -- the ticket that the role has drawn
  abbrev pub ticket_of : Role Value Ask Answer → Option ℕ
  ticket_of (Waits o ticket) = Some ticket
  ticket_of (Turns o ticket value) = Some ticket
  ticket_of _ = None

  -- the calls that it has drawn tickets for and not made
  abbrev pub pending : Role Value Ask Answer → ℕ
  pending (Waits o ticket) = 1
  pending (Turns o ticket value) = 1
  pending _ = 0

  -- the numbers that stand in it, its own or those that it keeps
  abbrev pub numbers_of : Role Value Ask Answer → List (Own Ask Answer)
  numbers_of (Idle o) = o ∷ []
  numbers_of (Waits o ticket) = o ∷ []
  numbers_of (Turns o ticket value) = o ∷ []
  numbers_of (Gathers given kept) = kept
  numbers_of Nobody = []

  -- no number has more calls, made and drawn for, than it is allowed
  abbrev pub IsWithin : ℕ → Role Value Ask Answer → Type 0
  IsWithin allowance role =
      (k : ℕ) (o : Own Ask Answer)
      → get_elem? (numbers_of role) k ≡ some o → length o.calls + pending role ≤ allowance

  -- and none stands twice
  abbrev pub IsSound : ℕ → Role Value Ask Answer → Type 0
  IsSound allowance role = IsWithin allowance role × EachOnce (numbers_of role)

  -- the view knows no value, as a spent one, or the one that the lock was opened with
  abbrev pub IsOpened : Value → View Value Ask Answer → Type 0
  IsOpened opened v = (v.opened ≡ None) ⊎ (v.opened ≡ Some opened)

-- What all steps so far have come to.
pub record Progress (Value Ask Answer : Type 0) : Type 0 where
  -- the calls so far, and the value that stores them
  pub log : List (Call Ask Answer)
  pub value : Value
  -- the next ticket, and how many numbers were handed out
  pub next : ℕ
  pub given : ℕ
  -- the view that gathers, the view in which each number stands, and the view that has each ticket
  pub gatherer : ℕ
  pub owner : ℕ → ℕ
  pub holder : ℕ → ℕ

-- The number stands in view j, with all its calls.
pub record Owns {Ask Answer : Type 0} (log : List (Call Ask Answer)) (given_ : ℕ)
    (owner : ℕ → ℕ) (j : ℕ) (o : Own Ask Answer) : Type 0 where
  pub below : o.number < given_
  pub mine : owner o.number ≡ j
  pub calls : o.calls ≡ calls_of o.number log

-- The ticket was drawn and not yet passed on, and view j has it.
pub record Holds (served next : ℕ) (holder : ℕ → ℕ) (j ticket : ℕ) : Type 0 where
  pub from : served ≤ ticket
  pub below : ticket < next
  pub mine : holder ticket ≡ j

module _ {Value : Type 0} where
  -- the value is away from its slot
  abbrev pub IsAway : Homes Value → Type 0
  IsAway homes = homes ≡ none ∷ []

  -- the value is in its slot
  abbrev pub IsHome : Homes Value → Value → Type 0
  IsHome homes value = homes ≡ some (Some value) ∷ []

module _ {Value Ask Answer : Type 0} where
  -- view j has the turn, with this value, where so many calls were made
  abbrev pub HasTurn : List (View Value Ask Answer) → ℕ → Value → ℕ → Type 0
  HasTurn views served value j =
      (v : View Value Ask Answer) × (o : Own Ask Answer)
      × (get_elem? views j ≡ some v) × (v.role ≡ Turns o served value)

  -- view j has this of its role
  abbrev pub Finds : List (View Value Ask Answer) → ℕ → (Role Value Ask Answer → Type 0) → Type 0
  Finds views j Has = (v : View Value Ask Answer) × (get_elem? views j ≡ some v) × Has v.role

  module _ (p : Progress Value Ask Answer)
      (homes : Homes Value) (j : ℕ) where
    -- what view j knows, by its role
    abbrev pub Knows : Role Value Ask Answer → Type 0
    Knows Nobody = Unit {0}
    Knows (Idle o) = Owns p.log p.given p.owner j o
    Knows (Waits o ticket) =
        Owns p.log p.given p.owner j o × Holds (length p.log) p.next p.holder j ticket
    Knows (Turns o ticket value) =
        Owns p.log p.given p.owner j o × Holds (length p.log) p.next p.holder j ticket
        × (ticket ≡ length p.log) × (value ≡ p.value) × IsAway homes
    Knows (Gathers given kept) =
        (given ≡ p.given) × (j ≡ p.gatherer)
        × ((k : ℕ) (o : Own Ask Answer)
        → get_elem? kept k ≡ some o → Owns p.log p.given p.owner j o)

-- What the lock was opened with, and how its value is read.
pub record Terms (Value Start Ask Answer : Type 0) : Type 1 where
  -- the value's start, its room, its calls, and which answers are right
  pub start : Value → Start
  pub room : Value → ℕ
  pub calls : Value → List (Call Ask Answer)
  pub Right : Start → List (Call Ask Answer) → ℕ → Ask → Answer → Type 0
  -- the number of seats, the calls that each may make, and the value
  pub seats : ℕ
  pub allowance : ℕ
  pub opened : Value

-- the terms with these parts
abbrev pub terms_of : {Value Start Ask Answer : Type 0} → (Value → Start) → (Value → ℕ)
    → (Value → List (Call Ask Answer))
    → (Start → List (Call Ask Answer) → ℕ → Ask → Answer → Type 0)
    → ℕ → ℕ → Value → Terms Value Start Ask Answer
terms_of start room calls Right seats allowance opened = record {
  start = start;
  room = room;
  calls = calls;
  Right = Right;
  seats = seats;
  allowance = allowance;
  opened = opened;
}

module _ {Value Start Ask Answer : Type 0} (terms : Terms Value Start Ask Answer) where
  -- the calls that all views may still draw tickets for
  abbrev pub rights_in : List (View Value Ask Answer) → ℕ
  rights_in views = total (rights terms.seats terms.allowance) views

  -- The table stands where these steps have come to.
  pub record Stands (s : TableState Value Ask Answer)
      (p : Progress Value Ask Answer) : Type 0 where
    -- the words are the next ticket and the ticket that is served: the number of calls so far
    pub words : s.words ≡ p.next ∷ length p.log ∷ []
    pub served : length p.log ≤ p.next
    -- each call is right after those before it
    pub right : AllRight terms.Right (terms.start terms.opened) p.log
    -- the value has the start and the room of the opening, and stores the calls
    pub begun : (terms.start p.value ≡ terms.start terms.opened)
        × (terms.room p.value ≡ terms.room terms.opened)
    pub stored : terms.calls p.value ≡ p.log
    -- no more numbers are handed out than the lock has seats, and one that was not has no calls
    pub few : p.given ≤ terms.seats
    pub unmade : (n : ℕ) → p.given ≤ n → calls_of n p.log ≡ []
    -- no more tickets are ever drawn than all seats are allowed, for which the value has room
    pub bound : p.next + rights_in s.views
        ≤ terms.seats * terms.allowance
    pub ample : terms.seats * terms.allowance ≤ terms.room terms.opened
    -- the value is at home, or away where a view has the turn
    pub home : IsHome s.homes p.value
        ⊎ (IsAway s.homes × (j : ℕ) × HasTurn s.views (length p.log) p.value j)
    -- what each view knows
    pub each_opened : (j : ℕ) (v : View Value Ask Answer)
        → get_elem? s.views j ≡ some v → IsOpened terms.opened v
    pub each_knows : (j : ℕ) (v : View Value Ask Answer)
        → get_elem? s.views j ≡ some v → Knows p s.homes j v.role
    pub each_sound : (j : ℕ) (v : View Value Ask Answer)
        → get_elem? s.views j ≡ some v → IsSound terms.allowance v.role
    -- each ticket from the one that is served on is held by a view
    pub each_ticket : (t : ℕ) → length p.log ≤ t → t < p.next
        → Finds s.views (p.holder t) (λ role. ticket_of role ≡ Some t)
    -- each number that was handed out stands in a view
    pub each_number : (n : ℕ) → n < p.given
        → Finds s.views (p.owner n) (λ role. IsAmong n (numbers_of role))

  -- The rule: there are steps where the table stands.
  abbrev pub Queued : TableState Value Ask Answer → Type 0
  Queued s = (p : Progress Value Ask Answer) × Stands s p

-- the view of the first seat, which gathers
abbrev pub gathering : {Value Ask Answer : Type 0} → Value → View Value Ask Answer
gathering value = record { opened = Some value; role = Gathers 0 [] }
