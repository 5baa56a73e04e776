use Rattle.axp_bus.proofs.ReplyLemmas.{turns_most, reply_turn}
use Rattle.axp_bus.proofs.laws.turns_are_bounded.Goals as goal

pub returns : goal.returns
returns c = record { calls = turns_most; replies = reply_turn }
