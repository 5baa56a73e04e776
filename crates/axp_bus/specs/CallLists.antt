-- What a list of calls is seen as.
use Rattle.std.specs.Prelude.{ℕ, List, [], ◌∷◌, ◌++◌}
use Rattle.axp_line.specs.BusCalls.{BusCall}

-- the calls, the earliest first, and how many there may be
pub record Calls : Type 0 where
  pub items : List BusCall
  pub room : ℕ

-- a list with this room and no call
abbrev pub no_calls : ℕ → Calls
no_calls room = record { items = []; room = room }

-- the list with one call more, which is the last
abbrev pub with_call : Calls → BusCall → Calls
with_call calls call = record calls { items = calls.items ++ call ∷ [] }
