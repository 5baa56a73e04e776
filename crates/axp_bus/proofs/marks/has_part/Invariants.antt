use Rattle.std.proofs.Common.{◌≡◌}
use Rattle.axp_base.specs.Masks.{mask_bits}
use Rattle.axp_bus.specs.Marks.{has_first}
use Rattle.axp_bus.proofs.marks.has_part.Given as goal

-- the bytes below the k-th
abbrev pub invariant-loop-k : goal.invariant-loop-k
invariant-loop-k l = l.some ≡ has_first (mask_bits l.mask) l.n l.k
