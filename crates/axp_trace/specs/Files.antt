-- A file as its lines.
use Rattle.std.specs.Prelude.{ℕ, ◌==◌, ◌≢◌, if◌then◌else◌, List, [], ◌∷◌, Option, Some, None}
use Rattle.std.specs.List.{All}
use Rattle.axp_trace.specs.declared.files.TheConstants.{LINE_FEED}

-- these bytes are part of one line
abbrev pub IsOneLine : List ℕ → Type 0
IsOneLine bytes = All (λ b. b ≢ LINE_FEED) bytes

-- the lines of what follows a byte of a line, with that byte
abbrev pub longer : ℕ → List (Option (List ℕ)) → List (Option (List ℕ))
longer b [] = None ∷ []
longer b (None ∷ ls) = None ∷ ls
longer b (Some l ∷ ls) = Some (b ∷ l) ∷ ls

-- the lines of a file, each without its line feed; at the end None where the last line has no line feed
abbrev pub lines_of : List ℕ → List (Option (List ℕ))
lines_of [] = []
lines_of (b ∷ bs) = if b == LINE_FEED then Some [] ∷ lines_of bs else longer b (lines_of bs)
