use Rattle.axp_bus.proofs.ReplyLemmas.{late_tidy}
use Rattle.axp_bus.proofs.BusCallLemmas.{none_of_code}
use Rattle.axp_bus.proofs.laws.late_turns_were_made.Goals as goal

pub returns : goal.returns
returns c = record { made = λ p bank cs. (late_tidy p bank cs).made; few = λ p bank cs. (late_tidy p bank cs).few; code = none_of_code }
