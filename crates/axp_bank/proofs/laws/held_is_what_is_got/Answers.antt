use Rattle.axp_bank.proofs.HeldCopyLemmas.{held_get}
use Rattle.axp_bank.proofs.laws.held_is_what_is_got.Goals as goal

pub returns : goal.returns
returns c = held_get
