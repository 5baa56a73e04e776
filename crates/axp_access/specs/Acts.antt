-- Kinds of act.
use Rattle.std.specs.Prelude.{Bool, true, false}
use Rattle.axp_base.specs.Lines.{same_bank}
use Rattle.axp_base.specs.declared.lines.Bank.{Bank}
use Rattle.axp_access.specs.declared.Act.{Act}
use Rattle.axp_access.specs.declared.Act.TheVariants as act

-- kinds of act
abbrev pub is_step : Act → Bool
is_step act.Step = true
is_step _ = false

abbrev pub is_fill : Act → Bool
is_fill act.Fill = true
is_fill _ = false

abbrev pub is_poll_act : Act → Bool
is_poll_act act.Poll = true
is_poll_act _ = false

abbrev pub is_tick : Act → Bool
is_tick act.Tick = true
is_tick _ = false

abbrev pub is_drop_of : Bank → Act → Bool
is_drop_of b (act.Drop bank line) = same_bank b bank
is_drop_of b _ = false
