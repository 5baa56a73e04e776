-- A line for a person: the file, the line of the file where there is one, and what is wrong.
use Rattle.std.specs.Prelude.{ℕ, List, ◌++◌, codes, decimal}
use Rattle.axp_trace.specs.Lines.{with_feed}

-- of a whole file
unfoldable pub of_file : List ℕ → List ℕ → List ℕ
of_file path words = with_feed (codes "axp: " ++ path ++ codes ": " ++ words)

-- of a line of a file, counted from 1
unfoldable pub of_line : List ℕ → ℕ → List ℕ → List ℕ
of_line path line words = with_feed (codes "axp: " ++ path ++ codes ", line " ++ decimal line ++ codes ": " ++ words)
