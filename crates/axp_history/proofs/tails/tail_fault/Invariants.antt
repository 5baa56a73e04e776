use Rattle.std.proofs.Common.{◌+◌, length}
use Rattle.axp_trace.specs.Files.{lines_of}
use Rattle.axp_history.proofs.TailLemmas.{Goes}
use Rattle.axp_history.proofs.tails.tail_fault.Given as goal

abbrev pub invariant-loop-line : goal.invariant-loop-line
invariant-loop-line l = Goes l.header l.fn.first (lines_of l.fn.lines) l.number (lines_of l.rest) (length l.rest) (l.fn.first + length l.fn.lines)

abbrev pub decreases-loop-line : goal.decreases-loop-line
decreases-loop-line l = length l.rest
