use Rattle.axp_branch.proofs.BranchLemmas.{greater_is, greater_or_equal_is, less_is, less_or_equal_is}
use Rattle.axp_branch.proofs.laws.branches_by_sign.Goals as goal

pub returns-clause-less : goal.returns-clause-less
returns-clause-less c = less_is

pub returns-clause-greater : goal.returns-clause-greater
returns-clause-greater c = greater_is

pub returns-clause-less_or_equal : goal.returns-clause-less_or_equal
returns-clause-less_or_equal c = less_or_equal_is

pub returns-clause-greater_or_equal : goal.returns-clause-greater_or_equal
returns-clause-greater_or_equal c = greater_or_equal_is
