use Rattle.axp_bytes.proofs.SingleBytes.{the_byte, one_byte}
use Rattle.axp_bytes.proofs.laws.single_bytes.Goals as goal

pub returns-clause-extracted : goal.returns-clause-extracted
returns-clause-extracted c = the_byte

pub returns-clause-inserted : goal.returns-clause-inserted
returns-clause-inserted c = one_byte
