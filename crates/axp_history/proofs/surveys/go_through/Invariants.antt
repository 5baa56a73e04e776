use Rattle.std.proofs.Common.{length}
use Rattle.axp_trace.specs.Files.{lines_of}
use Rattle.axp_history.proofs.SurveyLemmas.{Goes}
use Rattle.axp_history.proofs.surveys.go_through.Given as goal

abbrev pub invariant-loop-line : goal.invariant-loop-line
invariant-loop-line l = Goes l.header (lines_of l.fn.lines) (length l.fn.lines) l.states.items l.seen

abbrev pub decreases-loop-line : goal.decreases-loop-line
decreases-loop-line l = length l.seen.rest.now
