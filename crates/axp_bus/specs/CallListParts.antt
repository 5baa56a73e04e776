-- The vector behind a list of calls.
use Rattle.std.specs.Prelude.{◌^◌, ◌<◌, ◌≤◌, length}
use Rattle.std.specs.Vec.{vec_capacity}
use Rattle.axp_bus.specs.declared.call_lists.CallList.TheInside.{Inside}
use Rattle.axp_bus.specs.CallLists.{Calls}

-- the list's calls and its room are those of its vector
abbrev pub calls_of : Inside → Calls
calls_of a = record { items = a.items.items; room = vec_capacity a.items }

-- there are no more calls than there is room, and both are numbers of 32 bits
pub record HasRoom (a : Inside) : Type 0 where
  pub within : length a.items.items ≤ vec_capacity a.items
  pub small : vec_capacity a.items < 2 ^ 32
