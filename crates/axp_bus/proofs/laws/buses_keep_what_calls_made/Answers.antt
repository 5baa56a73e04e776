use Rattle.axp_bus.proofs.BusCallLemmas.{bytes_are, late_is, touched_is}
use Rattle.axp_bus.proofs.laws.buses_keep_what_calls_made.Goals as goal

pub returns : goal.returns
returns c = record { late = late_is; touched = touched_is; memory = bytes_are }
