use Rattle.std.proofs.Common.{◌≡◌}
use Rattle.axp_base.specs.Parts.{with_part}
use Rattle.axp_base.proofs.parts.put_number.Given as goal

abbrev pub invariant-loop-n : goal.invariant-loop-n
invariant-loop-n l = l.bytes ≡ with_part l.fn.bytes l.offset l.n l.value
