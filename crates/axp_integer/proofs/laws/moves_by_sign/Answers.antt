use Rattle.axp_integer.proofs.MoveLemmas.{cmovlt_signed, cmovge_signed, cmovle_signed, cmovgt_signed}
use Rattle.axp_integer.proofs.laws.moves_by_sign.Goals as goal

pub returns-clause-less : goal.returns-clause-less
returns-clause-less c = cmovlt_signed

pub returns-clause-greater_or_equal : goal.returns-clause-greater_or_equal
returns-clause-greater_or_equal c = cmovge_signed

pub returns-clause-less_or_equal : goal.returns-clause-less_or_equal
returns-clause-less_or_equal c = cmovle_signed

pub returns-clause-greater : goal.returns-clause-greater
returns-clause-greater c = cmovgt_signed
