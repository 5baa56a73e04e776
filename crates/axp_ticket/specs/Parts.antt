-- The rule of the table part by part: what holds between any two steps.
use Rattle.std.specs.Prelude.{◌≡◌, ◌⊎◌, ℕ, ◌+◌, ◌<◌, ◌≤◌, List, [], ◌∷◌, length, Some}
use mathlib.Core.Option.{some, none}
use lib.ListN.{get_elem?}
use Rattle.axp_call.specs.declared.calls.Call.{Call}
use Rattle.axp_call.specs.Calls.{caller, EachRight}
use Rattle.axp_ticket.specs.declared.board.Placed.{Placed}
use Rattle.axp_ticket.specs.declared.board.Own.{Own}
use Rattle.axp_ticket.specs.declared.board.Role.TheVariants.{Turns}
use Rattle.axp_ticket.specs.declared.board.View.{View}
use Rattle.axp_ticket.specs.History.{calls_of, IsAmong, EachOnce}
use Rattle.axp_ticket.specs.Queue.{Terms, ticket_of, pending, numbers_of, TableState}

module _ {Value Ask Answer : Type 0} (s : TableState Value Ask Answer) where
  -- seat j of the table has this view
  abbrev pub HasView : ℕ → View Value Ask Answer → Type 0
  HasView j v = get_elem? s.views j ≡ some v

  -- a view has this number, its own or kept, at place k
  abbrev pub HasOwn : ℕ → View Value Ask Answer → ℕ → Own Ask Answer → Type 0
  HasOwn j v k o = HasView j v × (get_elem? (numbers_of v.role) k ≡ some o)

  -- and this call of it at place i
  abbrev pub HasCall : ℕ → View Value Ask Answer → ℕ → Own Ask Answer → ℕ
      → Placed Ask Answer → Type 0
  HasCall j v k o i p =
      HasView j v × (get_elem? (numbers_of v.role) k ≡ some o) × (get_elem? o.calls i ≡ some p)

module _ {Value Start Ask Answer : Type 0} (terms : Terms Value Start Ask Answer) where
  -- The table is in order, with these numbers, this value and these calls so far.
  pub record IsInOrder (s : TableState Value Ask Answer) (next given : ℕ)
      (value : Value) (log : List (Call Ask Answer)) : Type 0 where
    -- the words are the next ticket and the ticket that is served: the number of calls so far
    pub words : s.words ≡ next ∷ length log ∷ []
    -- The tickets in the views are distinct, and are exactly those from the one that is served to
    -- the one before the next.
    pub ticket_between : (j t : ℕ) (v : View Value Ask Answer)
        → HasView s j v → ticket_of v.role ≡ Some t → (length log ≤ t) × (t < next)
    pub ticket_held : (t : ℕ) → length log ≤ t → t < next
        → (j : ℕ) × (v : View Value Ask Answer) × HasView s j v × (ticket_of v.role ≡ Some t)
    pub ticket_once : (j j' t : ℕ) (v v' : View Value Ask Answer) → HasView s j v → HasView s j' v'
        → ticket_of v.role ≡ Some t → ticket_of v'.role ≡ Some t → j ≡ j'
    -- A view that has the turn has the ticket that is served. The value is away from its slot
    -- exactly where a view has the turn.
    pub turn_is_served : (j t : ℕ) (v : View Value Ask Answer) (o : Own Ask Answer) (x : Value)
        → HasView s j v → v.role ≡ Turns o t x → (t ≡ length log) × (s.homes ≡ none ∷ [])
    pub away_is_a_turn : s.homes ≡ none ∷ [] → (j : ℕ) × (v : View Value Ask Answer)
        × (o : Own Ask Answer) × HasView s j v × (v.role ≡ Turns o (length log) value)
    pub home_or_away : (s.homes ≡ some (Some value) ∷ []) ⊎ (s.homes ≡ none ∷ [])
    -- No more numbers are handed out than the lock has seats. Each that was handed out stands in
    -- exactly one view, and there once; no other stands in a view or has calls.
    pub few : given ≤ terms.seats
    pub number_stands : (n : ℕ) → n < given
        → (j : ℕ) × (v : View Value Ask Answer) × HasView s j v × IsAmong n (numbers_of v.role)
    pub number_once : (j j' n : ℕ) (v v' : View Value Ask Answer) → HasView s j v → HasView s j' v'
        → IsAmong n (numbers_of v.role) → IsAmong n (numbers_of v'.role) → j ≡ j'
    pub number_once_there : (j : ℕ) (v : View Value Ask Answer)
        → HasView s j v → EachOnce (numbers_of v.role)
    pub number_given : (j n : ℕ) (v : View Value Ask Answer)
        → HasView s j v → IsAmong n (numbers_of v.role) → n < given
    pub unmade : (n : ℕ) → given ≤ n → calls_of n log ≡ []
    -- The calls of all these numbers have the positions from 0 to the one before the ticket that is
    -- served, each once. No number has more calls, made and drawn for, than the allowance.
    pub told : (j k i : ℕ) (v : View Value Ask Answer) (o : Own Ask Answer) (p : Placed Ask Answer)
        → HasCall s j v k o i p
        → (get_elem? log p.position ≡ some p.call) × (caller p.call ≡ o.number)
    pub whole : (n : ℕ) → n < length log → (j k i : ℕ) × (v : View Value Ask Answer)
        × (o : Own Ask Answer) × (p : Placed Ask Answer) × HasCall s j v k o i p × (p.position ≡ n)
    pub once : (j j' k k' i i' : ℕ) (v v' : View Value Ask Answer) (o o' : Own Ask Answer)
        (p p' : Placed Ask Answer) → HasCall s j v k o i p → HasCall s j' v' k' o' i' p'
        → p.position ≡ p'.position → (j ≡ j') × (k ≡ k') × (i ≡ i')
    pub allowed : (j k : ℕ) (v : View Value Ask Answer) (o : Own Ask Answer)
        → HasOwn s j v k o → length o.calls + pending v.role ≤ terms.allowance
    -- The value, at home or as it was taken, has the start and the room of the opening, and stores
    -- the calls so far. Each is right at that start after those before it.
    pub begun : (terms.start value ≡ terms.start terms.opened)
        × (terms.room value ≡ terms.room terms.opened)
    pub stored : terms.calls value ≡ log
    pub right : EachRight terms.Right (terms.start terms.opened) log
