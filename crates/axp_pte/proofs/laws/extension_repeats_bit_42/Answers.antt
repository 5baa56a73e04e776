use Rattle.axp_pte.proofs.ExtensionLemmas.{extended_repeats}
use Rattle.axp_pte.proofs.laws.extension_repeats_bit_42.Goals as goal

pub returns-clause-repeats : goal.returns-clause-repeats
returns-clause-repeats c = extended_repeats
