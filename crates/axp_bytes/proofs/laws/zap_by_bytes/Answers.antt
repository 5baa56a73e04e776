use Rattle.axp_bytes.proofs.ClearedBytes.{cleared_byte, cleared_fits, kept_byte, kept_fits}
use Rattle.axp_bytes.proofs.laws.zap_by_bytes.Goals as goal

pub returns-clause-zap : goal.returns-clause-zap
returns-clause-zap c = cleared_byte

pub returns-clause-zap_fits : goal.returns-clause-zap_fits
returns-clause-zap_fits c = cleared_fits

pub returns-clause-zapnot : goal.returns-clause-zapnot
returns-clause-zapnot c = kept_byte

pub returns-clause-zapnot_fits : goal.returns-clause-zapnot_fits
returns-clause-zapnot_fits c = kept_fits
