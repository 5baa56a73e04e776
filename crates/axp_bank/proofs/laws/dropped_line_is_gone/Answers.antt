use Rattle.axp_bank.proofs.HeldCopyLemmas.{held_dropped, get_dropped_other}
use Rattle.axp_bank.proofs.laws.dropped_line_is_gone.Goals as goal

pub returns-clause-line : goal.returns-clause-line
returns-clause-line c = held_dropped

pub returns-clause-others : goal.returns-clause-others
returns-clause-others c = λ n cs m. get_dropped_other m n cs
