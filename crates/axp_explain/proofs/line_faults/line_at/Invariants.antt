use Rattle.axp_trace.specs.Files.{lines_of}
use Rattle.axp_explain.proofs.PlaceLemmas.{Leaves}
use Rattle.axp_explain.proofs.line_faults.line_at.Given as goal

abbrev pub invariant-loop-passed : goal.invariant-loop-passed
invariant-loop-passed l = Leaves (lines_of l.text) l._passed (lines_of l.rest)
