use Rattle.axp_regs.proofs.StateLemmas.{first_register, get_or-replicate_same}
use Rattle.axp_regs.specs.declared.states.TheConstants.{ENTRIES}
use Rattle.axp_regs.proofs.laws.first_state_is_empty.Goals as goal

pub returns-clause-registers : goal.returns-clause-registers
returns-clause-registers c = first_register

pub returns-clause-entries : goal.returns-clause-entries
returns-clause-entries c = λ number n. get_or-replicate_same ENTRIES n 0
