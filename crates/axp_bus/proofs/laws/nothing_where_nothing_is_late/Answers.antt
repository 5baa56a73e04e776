use Rattle.axp_bus.proofs.ReplyLemmas.{nothing_late}
use Rattle.axp_bus.proofs.laws.nothing_where_nothing_is_late.Goals as goal

pub returns : goal.returns
returns c = nothing_late
