use Rattle.std.proofs.Common.{◌≡◌}
use Rattle.axp_base.specs.Parts.{part}
use Rattle.axp_base.proofs.parts.number_in.Given as goal

abbrev pub invariant-loop-n : goal.invariant-loop-n
invariant-loop-n l = l.value ≡ part l.bytes l.offset l.n
