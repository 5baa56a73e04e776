-- The lines of a summary of many seeded runs, without their line feeds.
use Rattle.std.specs.Prelude.{ℕ, List, ◌∷◌, ◌++◌, codes, decimal}

-- the number, the litmus test that it chooses, and how many rounds there were
unfoldable pub summary_header : ℕ → List ℕ → ℕ → List ℕ
summary_header number name rounds = codes "gen " ++ decimal number ++ 32 ∷ name ++ codes " rounds " ++ decimal rounds

-- in how many rounds the run had this label
unfoldable pub count_line : List ℕ → ℕ → List ℕ
count_line label count = label ++ 32 ∷ decimal count

-- how many events all rounds had
unfoldable pub events_line : ℕ → List ℕ
events_line events = codes "events " ++ decimal events
