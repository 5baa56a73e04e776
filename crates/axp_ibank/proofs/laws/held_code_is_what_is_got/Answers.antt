use Rattle.axp_ibank.proofs.CodeLemmas.{held_bytes, held_stamp, held_none}
use Rattle.axp_ibank.proofs.laws.held_code_is_what_is_got.Goals as goal

pub returns-clause-bytes : goal.returns-clause-bytes
returns-clause-bytes c = held_bytes

pub returns-clause-stamp : goal.returns-clause-stamp
returns-clause-stamp c = held_stamp

pub returns-clause-empty : goal.returns-clause-empty
returns-clause-empty c = held_none
