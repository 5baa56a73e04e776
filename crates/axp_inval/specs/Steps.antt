-- What is added to a queue that was empty, and taken from it.
use Rattle.std.specs.Prelude.{◌≡◌, ℕ, zero, suc, List, [], ◌∷◌, ◌++◌}
use Rattle.axp_base.specs.declared.lines.Line.{Line}
use Rattle.axp_base.specs.LatePairs.{others}

pub data Step : Type 0 where
  -- this pair is added
  Added : Line × ℕ → Step
  -- the oldest pair is taken, if there is one
  Taken : Step

-- the list of the oldest pair, or of none
abbrev pub first_of : List (Line × ℕ) → List (Line × ℕ)
first_of [] = []
first_of (p ∷ pairs) = p ∷ []

-- the pairs that are kept after these steps, the newest step first
abbrev pub kept : List Step → List (Line × ℕ)
kept [] = []
kept (Added p ∷ steps) = kept steps ++ p ∷ []
kept (Taken ∷ steps) = others (kept steps)

-- the pairs that were added, in order
abbrev pub added : List Step → List (Line × ℕ)
added [] = []
added (Added p ∷ steps) = added steps ++ p ∷ []
added (Taken ∷ steps) = added steps

-- the pairs that were taken, in order
abbrev pub taken : List Step → List (Line × ℕ)
taken [] = []
taken (Added p ∷ steps) = taken steps
taken (Taken ∷ steps) = taken steps ++ first_of (kept steps)

-- the pairs come out in the order in which they went in, and those that did not are kept
abbrev pub InOrderOfAdding : Type 0
InOrderOfAdding = (steps : List Step) → taken steps ++ kept steps ≡ added steps

-- what so many takes give
abbrev pub takes : ℕ → List (Line × ℕ) → List (Line × ℕ)
takes zero pairs = []
takes (suc n) pairs = first_of pairs ++ takes n (others pairs)
