use Rattle.axp_machine.proofs.TailLemmas.{first_items}
use Rattle.axp_machine.proofs.machine.tails.TailAt.start.Goals as goal

pub returns : goal.returns
returns c = first_items
