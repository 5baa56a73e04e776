-- The lines that say what a judge found of a trace.
use Rattle.std.specs.Prelude.{ℕ, ◌++◌, List, codes, decimal}

-- every rule of shared memory is kept
unfoldable pub consistent_line : List ℕ
consistent_line = codes "consistent"

-- the accesses of these two numbers break the rule of this name
unfoldable pub violated_line : List ℕ → ℕ → ℕ → List ℕ
violated_line rule first second = codes "axp: violated " ++ rule ++ codes " " ++ decimal first ++ codes " " ++ decimal second
