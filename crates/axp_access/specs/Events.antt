-- A list of events as its callers see it.
use Rattle.std.specs.Prelude.{ℕ, List, [], ◌∷◌, ◌++◌}
use Rattle.axp_access.specs.declared.Event.{Event}

-- the events, the oldest first, and how many there may be
pub record Events : Type 0 where
  pub items : List Event
  pub room : ℕ

-- a list with this room and no event
abbrev pub no_events : ℕ → Events
no_events room = record { items = []; room = room }

-- the list with one event more, which is the last
abbrev pub with_event : Events → Event → Events
with_event es e = record es { items = es.items ++ e ∷ [] }
