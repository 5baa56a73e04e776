use Rattle.axp_integer.proofs.LogicLemmas.{and_bits, bis_bits, xor_bits, bic_bits, ornot_bits, eqv_bits}
use Rattle.axp_integer.proofs.laws.logic_by_bits.Goals as goal

pub returns-clause-and : goal.returns-clause-and
returns-clause-and c = and_bits

pub returns-clause-bis : goal.returns-clause-bis
returns-clause-bis c = bis_bits

pub returns-clause-xor : goal.returns-clause-xor
returns-clause-xor c = xor_bits

pub returns-clause-bic : goal.returns-clause-bic
returns-clause-bic c = bic_bits

pub returns-clause-ornot : goal.returns-clause-ornot
returns-clause-ornot c = ornot_bits

pub returns-clause-eqv : goal.returns-clause-eqv
returns-clause-eqv c = eqv_bits
