-- How long a history may be, by the steps that its processors make.
use Rattle.std.specs.Prelude.{ℕ, ◌+◌, ◌-◌, ◌&&◌, if◌then◌else◌, List, [], ◌∷◌}
use Rattle.axp_access.specs.declared.Record.{Record}
use Rattle.axp_access.specs.Acts.{is_step}
use Rattle.axp_model.specs.Records.{is_of}

-- how many Steps a history has
abbrev pub steps_in : List Record → ℕ
steps_in [] = 0
steps_in (r ∷ h) = if is_step r.event.act then steps_in h + 1 else steps_in h

-- how many of them are processor p's
abbrev pub steps_of : ℕ → List Record → ℕ
steps_of p [] = 0
steps_of p (r ∷ h) = if is_of p r && is_step r.event.act then steps_of p h + 1 else steps_of p h

-- what so many processors may do for each step that one of them may make: the Step, a Fill, a Drop from
-- each of three banks, a Poll, a Tick, a Drain, and a Take by each of the other processors
abbrev pub events_per_step : ℕ → ℕ
events_per_step cpus = 1 + 1 + 3 + 1 + 1 + 1 + (cpus - 1)
