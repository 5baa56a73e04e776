use Rattle.axp_cpu.proofs.TableLemmas.{registers_stay}
use Rattle.axp_cpu.proofs.laws.groups_change_registers_at_their_end.Goals as goal

pub returns : goal.returns
returns c = registers_stay
