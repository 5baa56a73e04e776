use Rattle.axp_integer.proofs.LongwordLemmas.{addl_extended, subl_extended, s4addl_extended, s8addl_extended, s4subl_extended, s8subl_extended, addlv_extended, sublv_extended, mull_extended, mullv_extended}
use Rattle.axp_integer.proofs.laws.longwords_are_sign_extended.Goals as goal

pub returns-clause-addl : goal.returns-clause-addl
returns-clause-addl c = addl_extended

pub returns-clause-subl : goal.returns-clause-subl
returns-clause-subl c = subl_extended

pub returns-clause-s4addl : goal.returns-clause-s4addl
returns-clause-s4addl c = s4addl_extended

pub returns-clause-s8addl : goal.returns-clause-s8addl
returns-clause-s8addl c = s8addl_extended

pub returns-clause-s4subl : goal.returns-clause-s4subl
returns-clause-s4subl c = s4subl_extended

pub returns-clause-s8subl : goal.returns-clause-s8subl
returns-clause-s8subl c = s8subl_extended

pub returns-clause-addlv : goal.returns-clause-addlv
returns-clause-addlv c = addlv_extended

pub returns-clause-sublv : goal.returns-clause-sublv
returns-clause-sublv c = sublv_extended

pub returns-clause-mull : goal.returns-clause-mull
returns-clause-mull c = mull_extended

pub returns-clause-mullv : goal.returns-clause-mullv
returns-clause-mullv c = mullv_extended
