use Rattle.axp_laws.proofs.EntryDrains.{turn_exactly, turn_kept, turn_most, turn_later}
use Rattle.axp_laws.proofs.entries.drained_turns.Goals as goal

pub returns-clause-turn : goal.returns-clause-turn
returns-clause-turn c = λ h run. turn_exactly run.image run.processors h run.inside run.legal

pub returns-clause-stays : goal.returns-clause-stays
returns-clause-stays c = λ later h run. turn_kept run.image run.processors later h run.inside run.legal

pub returns-clause-most : goal.returns-clause-most
returns-clause-most c = turn_most

pub returns-clause-later : goal.returns-clause-later
returns-clause-later c = turn_later
