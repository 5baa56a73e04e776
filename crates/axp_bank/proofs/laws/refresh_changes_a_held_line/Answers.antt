use Rattle.axp_bank.proofs.BankLemmas.{refreshed_none}
use Rattle.axp_bank.proofs.HeldCopyLemmas.{get_refreshed, get_refreshed_other, held_refreshed}
use Rattle.axp_bank.proofs.laws.refresh_changes_a_held_line.Goals as goal

pub returns-clause-line : goal.returns-clause-line
returns-clause-line c = get_refreshed

pub returns-clause-others : goal.returns-clause-others
returns-clause-others c = λ k cs n. get_refreshed_other n k cs

pub returns-clause-nothing_new : goal.returns-clause-nothing_new
returns-clause-nothing_new c = λ k cs n. held_refreshed n k cs

pub returns-clause-absent : goal.returns-clause-absent
returns-clause-absent c = refreshed_none
