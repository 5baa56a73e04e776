use Rattle.axp_bank.proofs.HeldCopyLemmas.{held_dropped}
use Rattle.axp_ibank.proofs.CodeLemmas.{bytes_dropped_other, stamp_dropped_other}
use Rattle.axp_ibank.proofs.laws.dropped_code_line_is_gone.Goals as goal

pub returns-clause-line : goal.returns-clause-line
returns-clause-line c = held_dropped

pub returns-clause-other_bytes : goal.returns-clause-other_bytes
returns-clause-other_bytes c = bytes_dropped_other

pub returns-clause-other_stamps : goal.returns-clause-other_stamps
returns-clause-other_stamps c = stamp_dropped_other
