use Rattle.axp_integer.proofs.MoveLemmas.{low_bit, equal, less, less_or_equal}
use Rattle.axp_integer.proofs.laws.opposite_moves.Goals as goal

pub returns-clause-low_bit : goal.returns-clause-low_bit
returns-clause-low_bit c = low_bit

pub returns-clause-equal : goal.returns-clause-equal
returns-clause-equal c = equal

pub returns-clause-less : goal.returns-clause-less
returns-clause-less c = less

pub returns-clause-less_or_equal : goal.returns-clause-less_or_equal
returns-clause-less_or_equal c = less_or_equal
