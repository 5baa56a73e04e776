use Rattle.std.proofs.Common.{◌≡◌}
use Rattle.axp_bytes.specs.Results.{zapped}
use Rattle.axp_bytes.proofs.zapping.zap.Given as goal

abbrev pub invariant-loop-n : goal.invariant-loop-n
invariant-loop-n l = l.kept ≡ zapped l.n l.a l.b
