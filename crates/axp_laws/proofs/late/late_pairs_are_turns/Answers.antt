use Rattle.axp_laws.proofs.LateTurns.{late_turns}
use Rattle.axp_laws.proofs.late.late_pairs_are_turns.Goals as goal

pub returns : goal.returns
returns c = late_turns
