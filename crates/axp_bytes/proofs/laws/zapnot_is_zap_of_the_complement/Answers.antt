use Rattle.axp_bytes.proofs.ClearedBytes.{complement_cleared, parts_together}
use Rattle.axp_bytes.proofs.laws.zapnot_is_zap_of_the_complement.Goals as goal

pub returns-clause-zapnot : goal.returns-clause-zapnot
returns-clause-zapnot c = complement_cleared

pub returns-clause-together : goal.returns-clause-together
returns-clause-together c = parts_together
