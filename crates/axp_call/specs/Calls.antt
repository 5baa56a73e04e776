-- Calls of numbered processors, in one order.
use Rattle.std.specs.Prelude.{◌≡◌, ℕ, List, [], ◌∷◌, ◌++◌}
use Rattle.axp_base.specs.Cpus.{cpu_number}
use Rattle.axp_call.specs.declared.calls.Call.{Call}

-- the number of the processor that made the call
abbrev pub caller : {Ask Answer : Type 0} → Call Ask Answer → ℕ
caller c = cpu_number c.cpu

-- the call of the processor of this number that asked this and was answered this
abbrev pub IsCall : {Ask Answer : Type 0} → ℕ → Ask → Answer → Call Ask Answer → Type 0
IsCall n ask answer c = (caller c ≡ n) × (c.ask ≡ ask) × (c.answer ≡ answer)

module _ {Start Ask Answer : Type 0} (Right : Start → List (Call Ask Answer) → ℕ → Ask → Answer → Type 0) (start : Start) where
  -- each of these calls is right after those before it, the first of which are `before`
  abbrev pub RightAfter : List (Call Ask Answer) → List (Call Ask Answer) → Type 0
  RightAfter before [] = Unit {0}
  RightAfter before (c ∷ cs) = Right start before (caller c) c.ask c.answer × RightAfter (before ++ c ∷ []) cs

  abbrev pub AllRight : List (Call Ask Answer) → Type 0
  AllRight cs = RightAfter [] cs

  -- the same without a recursion, which a ghost field takes
  abbrev pub EachRight : List (Call Ask Answer) → Type 0
  EachRight cs = (before after : List (Call Ask Answer)) (c : Call Ask Answer) → cs ≡ before ++ c ∷ after → Right start before (caller c) c.ask c.answer
