use Rattle.axp_ibank.proofs.CodeLemmas.{code_lines_held, code_lines_ascend}
use Rattle.axp_ibank.proofs.laws.code_lines_are_the_held_ones.Goals as goal

pub returns-clause-held : goal.returns-clause-held
returns-clause-held c = code_lines_held

pub returns-clause-ascending : goal.returns-clause-ascending
returns-clause-ascending c = code_lines_ascend
