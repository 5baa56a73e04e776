use Rattle.axp_memory.proofs.WriteLemmas.{changes_one_line}
use Rattle.axp_memory.proofs.laws.write_changes_one_line.Goals as goal

pub returns : goal.returns
returns c = changes_one_line
