use Rattle.axp_trace.proofs.DigitLemmas.{hex_back, length-hex}
use Rattle.axp_trace.proofs.digits.hex_gives_back.Goals as goal

pub returns-clause-width : goal.returns-clause-width
returns-clause-width c = length-hex

pub returns-clause-value : goal.returns-clause-value
returns-clause-value c = hex_back
