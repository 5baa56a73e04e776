-- Calls by the number of their seat, and the one history in which they stand.
use Rattle.std.specs.Prelude.{◌≡◌, ℕ, suc, ◌<◌, ◌≤◌, ◌==◌, if◌then◌else◌, List, [], ◌∷◌, ◌++◌, length}
use mathlib.Core.Option.{some}
use lib.ListN.{get_elem?}
use Rattle.axp_call.specs.declared.calls.Call.{Call}
use Rattle.axp_call.specs.Calls.{caller, IsCall, AllRight, EachRight}
use Rattle.axp_ticket.specs.declared.board.Placed.{Placed}
use Rattle.axp_ticket.specs.declared.board.Own.{Own}

module _ {Ask Answer : Type 0} where
  -- a call at its position
  abbrev pub placed : ℕ → Call Ask Answer → Placed Ask Answer
  placed position call = record { position = position; call = call }

  -- a number and its calls
  abbrev pub own : ℕ → List (Placed Ask Answer) → Own Ask Answer
  own number calls = record { number = number; calls = calls }

  -- the number with one call more
  abbrev pub with_call : ℕ → Call Ask Answer → Own Ask Answer → Own Ask Answer
  with_call position c o = own o.number (o.calls ++ placed position c ∷ [])

  -- the calls of a number among these, the first of which has the position `first`
  abbrev pub calls_from : ℕ → ℕ → List (Call Ask Answer) → List (Placed Ask Answer)
  calls_from number first [] = []
  calls_from number first (c ∷ cs) =
      if caller c == number then placed first c ∷ calls_from number (suc first) cs
      else calls_from number (suc first) cs

  -- the calls of a number, each with its position
  abbrev pub calls_of : ℕ → List (Call Ask Answer) → List (Placed Ask Answer)
  calls_of number log = calls_from number 0 log

  -- the second list is the first with one call more, of this number, with this ask and answer
  abbrev pub IsOneLonger : List (Call Ask Answer) → List (Call Ask Answer) → ℕ → Ask → Answer
      → Type 0
  IsOneLonger before after number ask answer =
      (c : Call Ask Answer) × IsCall number ask answer c × (after ≡ before ++ c ∷ [])

  -- the second list has one call more: this number's at this position, with this ask and answer
  abbrev pub HasOneMore : List (Placed Ask Answer) → List (Placed Ask Answer) → ℕ → ℕ → Ask → Answer
      → Type 0
  HasOneMore before after number position ask answer =
      (c : Call Ask Answer) × IsCall number ask answer c
      × (after ≡ before ++ placed position c ∷ [])

  -- all positions of these calls are below this one
  abbrev pub AllBefore : List (Placed Ask Answer) → ℕ → Type 0
  AllBefore calls position =
      (k : ℕ) (p : Placed Ask Answer) → get_elem? calls k ≡ some p → p.position < position

  -- the number is among these
  abbrev pub IsAmong : ℕ → List (Own Ask Answer) → Type 0
  IsAmong number os =
      (k : ℕ) × (o : Own Ask Answer) × (get_elem? os k ≡ some o) × (o.number ≡ number)

  -- each number is among these once at most
  abbrev pub EachOnce : List (Own Ask Answer) → Type 0
  EachOnce os =
      (i k : ℕ) (a b : Own Ask Answer)
      → get_elem? os i ≡ some a → get_elem? os k ≡ some b → a.number ≡ b.number → i ≡ k

  -- each number that was handed out came back
  abbrev pub AllBack : ℕ → List (Own Ask Answer) → Type 0
  AllBack given kept = (number : ℕ) → number < given → IsAmong number kept

module _ {Start Ask Answer : Type 0}
    (Right : Start → List (Call Ask Answer) → ℕ → Ask → Answer → Type 0) (start : Start) where
  -- The answer is right after the calls before it: as many as its position, and among them the
  -- number's own are these.
  pub record IsRightAt (number : ℕ) (own_calls : List (Placed Ask Answer)) (position : ℕ)
      (ask : Ask) (answer : Answer) : Type 0 where
    pub before : List (Call Ask Answer)
    pub many : length before ≡ position
    pub mine : calls_of number before ≡ own_calls
    pub right : Right start before number ask answer

  -- The calls that are kept stand in this list of calls, and each call of it is right.
  pub record IsHistoryOf (given : ℕ) (kept : List (Own Ask Answer))
      (log : List (Call Ask Answer)) : Type 0 where
    -- each call is right after those before it
    pub right : AllRight Right start log
    -- no number is kept twice
    pub once : EachOnce kept
    -- a number that was not handed out has no calls
    pub unmade : (number : ℕ) → given ≤ number → calls_of number log ≡ []
    -- a number that is kept has exactly its calls, each with its position
    pub each : (k : ℕ) (o : Own Ask Answer)
        → get_elem? kept k ≡ some o → o.calls ≡ calls_of o.number log

  -- there is such a list
  abbrev pub IsHistory : ℕ → List (Own Ask Answer) → Type 0
  IsHistory given kept = (log : List (Call Ask Answer)) × IsHistoryOf given kept log

  -- The calls that are kept are those of this list: each stands at one position, each
  -- position has one of them, and each is right after those before it.
  pub record IsOneHistory (kept : List (Own Ask Answer))
      (log : List (Call Ask Answer)) : Type 0 where
    -- each call is right after those before it
    pub right : EachRight Right start log
    -- a kept call stands in the list at its position, and is a call of its number
    pub told : (k i : ℕ) (o : Own Ask Answer) (p : Placed Ask Answer)
        → get_elem? kept k ≡ some o → get_elem? o.calls i ≡ some p
        → (get_elem? log p.position ≡ some p.call) × (caller p.call ≡ o.number)
    -- the positions are those from 0 on, without a gap
    pub whole : (position : ℕ) → position < length log
        → (k i : ℕ) × (o : Own Ask Answer) × (p : Placed Ask Answer)
        × (get_elem? kept k ≡ some o) × (get_elem? o.calls i ≡ some p) × (p.position ≡ position)
    -- and each is that of one kept call
    pub once : (k k' i i' : ℕ) (o o' : Own Ask Answer) (p p' : Placed Ask Answer)
        → get_elem? kept k ≡ some o → get_elem? kept k' ≡ some o'
        → get_elem? o.calls i ≡ some p → get_elem? o'.calls i' ≡ some p'
        → p.position ≡ p'.position → (k ≡ k') × (i ≡ i')
    -- the calls of one number are kept in the order of their positions
    pub in_order : (k i i' : ℕ) (o : Own Ask Answer) (p p' : Placed Ask Answer)
        → get_elem? kept k ≡ some o → get_elem? o.calls i ≡ some p → get_elem? o.calls i' ≡ some p'
        → i < i' → p.position < p'.position
