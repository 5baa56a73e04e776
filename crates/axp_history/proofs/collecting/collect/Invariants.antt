use Rattle.std.proofs.Common.{length}
use Rattle.axp_trace.specs.Files.{lines_of}
use Rattle.axp_history.proofs.CollectLemmas.{Collects}
use Rattle.axp_history.proofs.collecting.collect.Given as goal

abbrev pub invariant-loop-line : goal.invariant-loop-line
invariant-loop-line l = Collects l.header (lines_of l.fn.lines) l.fn.list l.list (lines_of l.rest)

abbrev pub decreases-loop-line : goal.decreases-loop-line
decreases-loop-line l = length l.rest
