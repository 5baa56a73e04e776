use Rattle.axp_base.proofs.PartLemmas.{part-with_part, get_or-with_part, outside-with_part, length-with_part}
use Rattle.axp_base.proofs.laws.put_is_read_back.Goals as goal

pub returns-clause-value : goal.returns-clause-value
returns-clause-value c = part-with_part

pub returns-clause-each : goal.returns-clause-each
returns-clause-each c = get_or-with_part

pub returns-clause-others : goal.returns-clause-others
returns-clause-others c = outside-with_part

pub returns-clause-as_long : goal.returns-clause-as_long
returns-clause-as_long c = length-with_part
