use Rattle.axp_bus.proofs.ReplyLemmas.{told}
use Rattle.axp_bus.proofs.laws.told_lines_are_of_memory.Goals as goal

pub returns : goal.returns
returns c = told
