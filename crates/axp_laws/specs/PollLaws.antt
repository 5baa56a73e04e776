-- What the Polls of a run show.
use Rattle.std.specs.Prelude.{Bool, ◌||◌}
use Rattle.axp_access.specs.Kinds.{is_signal, is_poll}
use Rattle.axp_access.specs.Numbering.{NumberedAccess}

abbrev pub is_signal_or_poll : NumberedAccess → Bool
is_signal_or_poll u = is_signal u.access.kind || is_poll u.access.kind
