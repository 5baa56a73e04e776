use Rattle.axp_integer.proofs.OverflowLemmas.{addl_exact, subl_exact, mull_exact, addq_exact, subq_exact, mulq_exact}
use Rattle.axp_integer.proofs.laws.exact_without_overflow.Goals as goal

pub returns-clause-addl : goal.returns-clause-addl
returns-clause-addl c = addl_exact

pub returns-clause-subl : goal.returns-clause-subl
returns-clause-subl c = subl_exact

pub returns-clause-mull : goal.returns-clause-mull
returns-clause-mull c = mull_exact

pub returns-clause-addq : goal.returns-clause-addq
returns-clause-addq c = addq_exact

pub returns-clause-subq : goal.returns-clause-subq
returns-clause-subq c = subq_exact

pub returns-clause-mulq : goal.returns-clause-mulq
returns-clause-mulq c = mulq_exact
