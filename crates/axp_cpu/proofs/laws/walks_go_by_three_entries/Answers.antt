use Rattle.axp_cpu.proofs.TranslationLemmas.{page_reached, second_read, third_read}
use Rattle.axp_cpu.proofs.laws.walks_go_by_three_entries.Goals as goal

pub returns-clause-second : goal.returns-clause-second
returns-clause-second c = second_read

pub returns-clause-third : goal.returns-clause-third
returns-clause-third c = third_read

pub returns-clause-page : goal.returns-clause-page
returns-clause-page c = page_reached
