use Rattle.axp_integer.proofs.LogicLemmas.{amask_lowest, amask_above}
use Rattle.axp_integer.proofs.laws.amask_clears_the_lowest_bit.Goals as goal

pub returns-clause-lowest : goal.returns-clause-lowest
returns-clause-lowest c = amask_lowest

pub returns-clause-others : goal.returns-clause-others
returns-clause-others c = amask_above
