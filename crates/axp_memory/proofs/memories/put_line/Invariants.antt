use Rattle.std.proofs.Common.{◌≡◌}
use Rattle.axp_base.specs.Masks.{mask_bits}
use Rattle.axp_line.specs.Lines.{bytes_of_line}
use Rattle.axp_memory.proofs.MergingLemmas.{merging}
use Rattle.axp_memory.proofs.memories.put_line.Given as goal

abbrev pub invariant-loop-n : goal.invariant-loop-n
invariant-loop-n l = l.bytes ≡ merging l.n l.at (mask_bits l.mask) (bytes_of_line l.from) l.fn.bytes
