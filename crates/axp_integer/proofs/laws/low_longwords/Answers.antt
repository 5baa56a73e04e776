use Rattle.axp_integer.proofs.LongwordLemmas.{addl_low, s4addl_low, s8addl_low, subl_low, s4subl_low, s8subl_low, mull_low}
use Rattle.axp_integer.proofs.laws.low_longwords.Goals as goal

pub returns-clause-addl : goal.returns-clause-addl
returns-clause-addl c = addl_low

pub returns-clause-s4addl : goal.returns-clause-s4addl
returns-clause-s4addl c = s4addl_low

pub returns-clause-s8addl : goal.returns-clause-s8addl
returns-clause-s8addl c = s8addl_low

pub returns-clause-subl : goal.returns-clause-subl
returns-clause-subl c = subl_low

pub returns-clause-s4subl : goal.returns-clause-s4subl
returns-clause-s4subl c = s4subl_low

pub returns-clause-s8subl : goal.returns-clause-s8subl
returns-clause-s8subl c = s8subl_low

pub returns-clause-mull : goal.returns-clause-mull
returns-clause-mull c = mull_low
