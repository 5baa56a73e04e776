use Rattle.axp_shared.proofs.Replied.{right_kind, right_turn}
use Rattle.axp_shared.proofs.laws.right_answers_fit.Goals as goal

pub returns : goal.returns
returns c = record { kind = right_kind; turn = right_turn }
