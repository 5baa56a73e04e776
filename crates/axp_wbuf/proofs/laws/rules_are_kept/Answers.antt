use Rattle.axp_wbuf.proofs.Orders.{tidy_closed, tidy_none, tidy_stored, tidy_without}
use Rattle.axp_wbuf.proofs.laws.rules_are_kept.Goals as goal

pub returns-clause-none : goal.returns-clause-none
returns-clause-none c = tidy_none

pub returns-clause-stored : goal.returns-clause-stored
returns-clause-stored c = λ b address size value tidy room. tidy_stored address size value b room tidy

pub returns-clause-closed : goal.returns-clause-closed
returns-clause-closed c = tidy_closed

pub returns-clause-without : goal.returns-clause-without
returns-clause-without c = λ b k tidy. tidy_without k b tidy
