use Rattle.axp_integer.proofs.QuadwordLemmas.{s4addq_is, s8addq_is, s4subq_is, s8subq_is}
use Rattle.axp_integer.proofs.laws.scaled_quadwords.Goals as goal

pub returns-clause-s4addq : goal.returns-clause-s4addq
returns-clause-s4addq c = s4addq_is

pub returns-clause-s8addq : goal.returns-clause-s8addq
returns-clause-s8addq c = s8addq_is

pub returns-clause-s4subq : goal.returns-clause-s4subq
returns-clause-s4subq c = s4subq_is

pub returns-clause-s8subq : goal.returns-clause-s8subq
returns-clause-s8subq c = s8subq_is
