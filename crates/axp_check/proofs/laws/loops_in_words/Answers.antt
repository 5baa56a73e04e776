use Rattle.axp_check.proofs.LoopLaws.{no_fault, on_cycle_exactly}
use Rattle.axp_check.proofs.laws.loops_in_words.Goals as goal

pub returns-clause-chain : goal.returns-clause-chain
returns-clause-chain c = on_cycle_exactly

pub returns-clause-none : goal.returns-clause-none
returns-clause-none c = no_fault
