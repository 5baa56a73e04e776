use Rattle.std.proofs.Common.{◌≡◌}
use Rattle.axp_integer.specs.Results.{bytes_at_least}
use Rattle.axp_integer.proofs.comparing.bytes_at_least.Given as goal

abbrev pub invariant-loop-n : goal.invariant-loop-n
invariant-loop-n l = l.bits ≡ bytes_at_least l.n l.a l.b
