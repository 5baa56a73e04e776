use Rattle.std.proofs.Common.{◌≡◌, length}
use Rattle.axp_trace.specs.Files.{lines_of}
use Rattle.axp_explain.specs.Reasons.{reason_among}
use Rattle.axp_explain.proofs.refusals.reason_among.Given as goal

abbrev pub invariant-loop-line : goal.invariant-loop-line
invariant-loop-line l = reason_among l.header l.fn.machine (lines_of l.fn.lines) ≡ reason_among l.header l.machine (lines_of l.rest)

abbrev pub decreases-loop-line : goal.decreases-loop-line
decreases-loop-line l = length l.rest
