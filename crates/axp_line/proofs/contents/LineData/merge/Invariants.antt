use Rattle.std.proofs.Common.{◌≡◌}
use Rattle.axp_base.specs.Masks.{mask_bits}
use Rattle.axp_line.specs.Lines.{merged_below}
use Rattle.axp_line.proofs.contents.LineData.merge.Given as goal

abbrev pub invariant-loop-n : goal.invariant-loop-n
invariant-loop-n l = l.self.bytes ≡ merged_below l.n (mask_bits l.mask) l.from.bytes l.fn.self.bytes
