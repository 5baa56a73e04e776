use Rattle.axp_laws.proofs.CopyLists.{copies_exactly, code_copies_exactly, run_copies, run_code_copies}
use Rattle.axp_laws.proofs.late.copies_are_held_lines.Goals as goal

pub returns-clause-in_data : goal.returns-clause-in_data
returns-clause-in_data c = copies_exactly

pub returns-clause-in_code : goal.returns-clause-in_code
returns-clause-in_code c = code_copies_exactly

pub returns-clause-data_fits : goal.returns-clause-data_fits
returns-clause-data_fits c = λ h run. run_copies run.image run.processors h run.inside run.legal

pub returns-clause-code_fits : goal.returns-clause-code_fits
returns-clause-code_fits c = λ h run. run_code_copies run.image run.processors h run.inside run.legal
