-- The accesses of a history, numbered, and where they stand.
use Rattle.std.specs.Prelude.{List, [], ◌∷◌, Option, Some, None}
use Rattle.axp_access.specs.declared.Access.{Access}
use Rattle.axp_access.specs.declared.Record.{Record}
use Rattle.axp_model.specs.Records.{access_in}
use Rattle.axp_model.specs.Turns.{drained}
use Rattle.axp_access.specs.Numbering.{NumberedAccess, next_access}
use Rattle.axp_access.specs.Order.{Times}

abbrev pub with_access : Option Access → List NumberedAccess → List NumberedAccess
with_access None us = us
with_access (Some a) us = next_access us a ∷ us

-- the accesses of a history, the newest first
abbrev pub accesses : List Record → List NumberedAccess
accesses [] = []
accesses (r ∷ h) = with_access (access_in r.event.cpu r.outcome) (accesses h)

abbrev pub times : List Record → Times
times h = record { drained = drained h }
