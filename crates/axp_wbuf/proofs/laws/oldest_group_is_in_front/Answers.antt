use Rattle.axp_wbuf.proofs.Pairs.{first_oldest, oldest_all, oldest_entry}
use Rattle.axp_wbuf.proofs.laws.oldest_group_is_in_front.Goals as goal

pub returns-clause-same : goal.returns-clause-same
returns-clause-same c = oldest_entry

pub returns-clause-all : goal.returns-clause-all
returns-clause-all c = oldest_all

pub returns-clause-oldest : goal.returns-clause-oldest
returns-clause-oldest c = λ b k e tidy is. first_oldest b.made b.newest b.kept k e tidy.order is
