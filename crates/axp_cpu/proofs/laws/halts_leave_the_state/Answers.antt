use Rattle.axp_cpu.proofs.HaltingLemmas.{arrived_leaves, ended_leaves}
use Rattle.axp_cpu.proofs.laws.halts_leave_the_state.Goals as goal

pub returns-clause-groups : goal.returns-clause-groups
returns-clause-groups c = λ s values t. ended_leaves s.size s.cpus s.start values t

pub returns-clause-entries : goal.returns-clause-entries
returns-clause-entries c = arrived_leaves
