use Rattle.axp_base.specs.Lines.{line_number}
use Rattle.axp_base.specs.Masks.{mask_bits}
use Rattle.axp_bus.specs.Marks.{MarkedBelow}
use Rattle.axp_bus.proofs.marks.mark_line.Given as goal

abbrev pub invariant-loop-n : goal.invariant-loop-n
invariant-loop-n l = MarkedBelow l.n (line_number l.fn.line) (mask_bits l.mask) l.fn.marks l.marks
