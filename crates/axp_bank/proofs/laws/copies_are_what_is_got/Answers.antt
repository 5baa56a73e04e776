use Rattle.axp_bank.proofs.ListEqualityLemmas.{same_copies}
use Rattle.axp_bank.proofs.laws.copies_are_what_is_got.Goals as goal

pub returns : goal.returns
returns c = same_copies
