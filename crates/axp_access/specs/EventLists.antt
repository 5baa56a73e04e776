-- The vector behind a list of events.
use Rattle.std.specs.Prelude.{◌^◌, ◌<◌, ◌≤◌, length}
use Rattle.std.specs.Vec.{vec_capacity}
use Rattle.axp_access.specs.declared.event_lists.EventList.TheInside.{Inside}
use Rattle.axp_access.specs.Events.{Events}

-- the list's events and its room are those of its vector
abbrev pub events_of : Inside → Events
events_of a = record { items = a.items.items; room = vec_capacity a.items }

-- there are no more events than there is room, and both are numbers of 32 bits
pub record HasRoom (a : Inside) : Type 0 where
  pub within : length a.items.items ≤ vec_capacity a.items
  pub small : vec_capacity a.items < 2 ^ 32
