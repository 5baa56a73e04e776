use Rattle.axp_integer.proofs.LogicLemmas.{eqv_complements, bic_complements}
use Rattle.axp_integer.proofs.laws.logic_by_complements.Goals as goal

pub returns-clause-eqv : goal.returns-clause-eqv
returns-clause-eqv c = eqv_complements

pub returns-clause-bic : goal.returns-clause-bic
returns-clause-bic c = bic_complements
