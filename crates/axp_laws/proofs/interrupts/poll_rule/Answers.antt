use Rattle.axp_laws.proofs.PollSignals.{pending_exactly, order_stays, entered_exactly}
use Rattle.axp_laws.proofs.interrupts.poll_rule.Goals as goal

pub returns-clause-pending : goal.returns-clause-pending
returns-clause-pending c = λ later e pending entered turn h run. pending_exactly run.image run.processors later e pending entered turn h run.inside run.legal

pub returns-clause-entered : goal.returns-clause-entered
returns-clause-entered c = λ e pending entered turn h run. entered_exactly run.image run.processors e pending entered turn h run.legal

pub returns-clause-stays : goal.returns-clause-stays
returns-clause-stays c = λ later h run. order_stays run.image run.processors later h run.inside run.legal
