use Rattle.axp_integer.proofs.ByteComparisons.{cmpbge_has, cmpbge_small}
use Rattle.axp_integer.proofs.laws.bytes_compared.Goals as goal

pub returns-clause-each : goal.returns-clause-each
returns-clause-each c = cmpbge_has

pub returns-clause-others : goal.returns-clause-others
returns-clause-others c = cmpbge_small
