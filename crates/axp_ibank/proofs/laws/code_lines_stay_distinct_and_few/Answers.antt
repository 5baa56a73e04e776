use Rattle.axp_bank.proofs.BankLemmas.{whole_empty, whole_dropped}
use Rattle.axp_bank.proofs.HeldCopyLemmas.{whole_ascends, whole_put}
use Rattle.axp_ibank.proofs.laws.code_lines_stay_distinct_and_few.Goals as goal

pub returns-clause-distinct : goal.returns-clause-distinct
returns-clause-distinct c = whole_ascends

pub returns-clause-few : goal.returns-clause-few
returns-clause-few c = λ cs w. w.few

pub returns-clause-empty : goal.returns-clause-empty
returns-clause-empty c = whole_empty

pub returns-clause-put : goal.returns-clause-put
returns-clause-put c = whole_put

pub returns-clause-drop_line : goal.returns-clause-drop_line
returns-clause-drop_line c = whole_dropped
