use Rattle.std.proofs.Common.{◌≡◌}
use Rattle.axp_base.specs.declared.lines.TheConstants.{LINE_BYTES}
use Rattle.axp_line.specs.Lines.{bytes_of_line}
use Rattle.axp_memory.proofs.ReadingLemmas.{filled}
use Rattle.axp_memory.proofs.memories.read_line.Given as goal

abbrev pub invariant-loop-n : goal.invariant-loop-n
invariant-loop-n l = bytes_of_line l.line ≡ filled LINE_BYTES l.n l.at l.bytes
