-- Calls that fail by their number, which is counted from 1 and stays at 2 ^ 32 - 1 once it stands there.
use Rattle.std.specs.Prelude.{ℕ, ◌+◌, ◌-◌, ◌^◌, Bool, nat_eq, min, List}
use Rattle.std.specs.List.{list_any}

-- the number of the next call after so many
abbrev pub next_call : ℕ → ℕ
next_call calls = min (calls + 1) (2 ^ 32 - 1)

-- whether the next call is one of those that fail
abbrev pub fails_next : List ℕ → ℕ → Bool
fails_next fails calls = list_any (λ n. nat_eq n (next_call calls)) fails
