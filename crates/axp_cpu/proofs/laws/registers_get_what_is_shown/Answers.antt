use Rattle.axp_cpu.proofs.RegisterLemmas.{seat_in_has}
use Rattle.axp_cpu.proofs.ShowingLemmas.{ends_after, flag_shown, goes_on_after, none_stored, others_stay, register_shown}
use Rattle.axp_cpu.proofs.laws.registers_get_what_is_shown.Goals as goal

pub returns-clause-register : goal.returns-clause-register
returns-clause-register c = register_shown

pub returns-clause-others : goal.returns-clause-others
returns-clause-others c = others_stay

pub returns-clause-stores : goal.returns-clause-stores
returns-clause-stores c = none_stored

pub returns-clause-flag : goal.returns-clause-flag
returns-clause-flag c = flag_shown

pub returns-clause-ends : goal.returns-clause-ends
returns-clause-ends c = ends_after

pub returns-clause-next : goal.returns-clause-next
returns-clause-next c = goes_on_after

pub returns-clause-whole : goal.returns-clause-whole
returns-clause-whole c = seat_in_has
