use Rattle.axp_tb.proofs.DropLemmas.{other_page_stays, page_gone, page_keeps, process_keeps, same_in_every_address_space}
use Rattle.axp_tb.proofs.laws.finds_after_drops.Goals as goal

pub returns-clause-process_keeps : goal.returns-clause-process_keeps
returns-clause-process_keeps c = process_keeps

pub returns-clause-process_in_every_address_space : goal.returns-clause-process_in_every_address_space
returns-clause-process_in_every_address_space c = same_in_every_address_space

pub returns-clause-page_keeps : goal.returns-clause-page_keeps
returns-clause-page_keeps c = page_keeps

pub returns-clause-page_gone : goal.returns-clause-page_gone
returns-clause-page_gone c = page_gone

pub returns-clause-other_page : goal.returns-clause-other_page
returns-clause-other_page c = other_page_stays
