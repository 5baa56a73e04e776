use Rattle.axp_history.proofs.LawLemmas.{accesses_are}
use Rattle.axp_history.proofs.laws.lists_are_histories.Goals as goal

pub returns : goal.returns
returns c = accesses_are
