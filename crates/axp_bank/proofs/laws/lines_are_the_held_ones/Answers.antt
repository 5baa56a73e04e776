use Rattle.axp_bank.proofs.HeldCopyLemmas.{lines_held, lines_stamps, lines_ascend}
use Rattle.axp_bank.proofs.laws.lines_are_the_held_ones.Goals as goal

pub returns-clause-held : goal.returns-clause-held
returns-clause-held c = lines_held

pub returns-clause-stamps : goal.returns-clause-stamps
returns-clause-stamps c = lines_stamps

pub returns-clause-ascending : goal.returns-clause-ascending
returns-clause-ascending c = lines_ascend
