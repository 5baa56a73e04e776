use Rattle.axp_pick.proofs.ChoiceLemmas.{able_where_all_choose, chosen_is_offered, finished_drains, idle_chooses}
use Rattle.axp_pick.proofs.laws.chosen_acts_are_offered.Goals as goal

pub returns-clause-offered : goal.returns-clause-offered
returns-clause-offered c = chosen_is_offered

pub returns-clause-able : goal.returns-clause-able
returns-clause-able c = able_where_all_choose

pub returns-clause-idle : goal.returns-clause-idle
returns-clause-idle c = idle_chooses

pub returns-clause-finished : goal.returns-clause-finished
returns-clause-finished c = finished_drains
