use Rattle.bitflags.proofs.OnLiterals.{bitflags_on_literals}
use Rattle.axp_pte.proofs.entries.Pte.bits.Goals as goal

pub returns : goal.returns
unfolding bitflags_on_literals
returns c = c.from_bits_truncate.ensures tt
