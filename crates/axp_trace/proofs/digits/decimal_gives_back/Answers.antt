use Rattle.axp_trace.proofs.DigitLemmas.{decimal_back}
use Rattle.axp_trace.proofs.digits.decimal_gives_back.Goals as goal

pub returns : goal.returns
returns c = decimal_back
