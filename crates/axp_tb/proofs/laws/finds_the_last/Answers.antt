use Rattle.axp_tb.proofs.SearchLemmas.{found_none, found_some}
use Rattle.axp_tb.proofs.laws.finds_the_last.Goals as goal

pub returns-clause-some : goal.returns-clause-some
returns-clause-some c = found_some

pub returns-clause-none : goal.returns-clause-none
returns-clause-none c = found_none
