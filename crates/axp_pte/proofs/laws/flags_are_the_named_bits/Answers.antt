use Rattle.axp_pte.proofs.BitLemmas.{flags_named}
use Rattle.axp_pte.proofs.laws.flags_are_the_named_bits.Goals as goal

pub returns : goal.returns
returns c = flags_named
