-- The invalidations that are to come late, oldest first. Each is a pair: the line, and the number
-- of the turn that wrote it.
use Rattle.std.specs.Prelude.{ℕ, ◌≤◌, List, [], ◌∷◌, Option, Some, None, length}
use Rattle.axp_base.specs.declared.lines.Line.{Line}
use Rattle.axp_base.specs.LatePairs.{AreAscending}

-- a queue is seen as its pairs, and how many there is room for
pub record Queue : Type 0 where
  pub pairs : List (Line × ℕ)
  pub room : ℕ

abbrev pub queue : List (Line × ℕ) → ℕ → Queue
queue pairs room = record { pairs = pairs; room = room }

-- what is true of every queue
pub record IsInOrder (q : Queue) : Type 0 where
  pub ascending : AreAscending q.pairs
  pub fits : length q.pairs ≤ q.room

-- the oldest pair
abbrev pub oldest : List (Line × ℕ) → Option (Line × ℕ)
oldest [] = None
oldest (p ∷ pairs) = Some p
