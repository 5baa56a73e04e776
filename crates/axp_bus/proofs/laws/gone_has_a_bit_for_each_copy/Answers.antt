use Rattle.axp_bus.proofs.GoneCopyLemmas.{gone_has, gone_has_no_more}
use Rattle.axp_bus.proofs.laws.gone_has_a_bit_for_each_copy.Goals as goal

pub returns : goal.returns
returns c = record { each = gone_has; no_more = gone_has_no_more }
