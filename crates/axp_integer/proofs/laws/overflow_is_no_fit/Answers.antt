use Rattle.axp_integer.proofs.OverflowLemmas.{addl_no_fit, subl_no_fit, mull_no_fit, addq_no_fit, subq_no_fit, mulq_no_fit}
use Rattle.axp_integer.proofs.laws.overflow_is_no_fit.Goals as goal

pub returns-clause-addl : goal.returns-clause-addl
returns-clause-addl c = addl_no_fit

pub returns-clause-subl : goal.returns-clause-subl
returns-clause-subl c = subl_no_fit

pub returns-clause-mull : goal.returns-clause-mull
returns-clause-mull c = mull_no_fit

pub returns-clause-addq : goal.returns-clause-addq
returns-clause-addq c = addq_no_fit

pub returns-clause-subq : goal.returns-clause-subq
returns-clause-subq c = subq_no_fit

pub returns-clause-mulq : goal.returns-clause-mulq
returns-clause-mulq c = mulq_no_fit
