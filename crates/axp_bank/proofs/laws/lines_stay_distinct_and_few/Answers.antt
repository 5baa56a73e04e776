use Rattle.axp_bank.proofs.BankLemmas.{whole_empty, whole_refreshed, whole_dropped}
use Rattle.axp_bank.proofs.HeldCopyLemmas.{whole_ascends, whole_put, whole_invalidated}
use Rattle.axp_bank.proofs.laws.lines_stay_distinct_and_few.Goals as goal

pub returns-clause-distinct : goal.returns-clause-distinct
returns-clause-distinct c = whole_ascends

pub returns-clause-empty : goal.returns-clause-empty
returns-clause-empty c = whole_empty

pub returns-clause-put : goal.returns-clause-put
returns-clause-put c = whole_put

pub returns-clause-refresh : goal.returns-clause-refresh
returns-clause-refresh c = whole_refreshed

pub returns-clause-invalidate : goal.returns-clause-invalidate
returns-clause-invalidate c = whole_invalidated

pub returns-clause-drop_line : goal.returns-clause-drop_line
returns-clause-drop_line c = whole_dropped

pub returns-clause-few : goal.returns-clause-few
returns-clause-few c = λ cs w. w.few
