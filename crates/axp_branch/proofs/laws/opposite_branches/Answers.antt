use Rattle.axp_branch.proofs.BranchLemmas.{equal_opposite, less_opposite, less_or_equal_opposite, low_bit_opposite}
use Rattle.axp_branch.proofs.laws.opposite_branches.Goals as goal

pub returns-clause-low_bit : goal.returns-clause-low_bit
returns-clause-low_bit c = low_bit_opposite

pub returns-clause-equal : goal.returns-clause-equal
returns-clause-equal c = equal_opposite

pub returns-clause-less : goal.returns-clause-less
returns-clause-less c = less_opposite

pub returns-clause-less_or_equal : goal.returns-clause-less_or_equal
returns-clause-less_or_equal c = less_or_equal_opposite
