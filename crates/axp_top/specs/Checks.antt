-- What `check` prints of a trace: that it keeps every rule of shared memory, or the least rule and pair of accesses that it
-- breaks.
use Rattle.std.specs.Prelude.{List, [], ◌∷◌}
use Rattle.axp_check.specs.declared.Verdict.{Verdict}
use Rattle.axp_check.specs.declared.Verdict.TheVariants.{Consistent, Violated}
use Rattle.axp_check.specs.Names.{rule_name}
use Rattle.axp_check.specs.Verdicts.{verdict}
use Rattle.axp_history.specs.Shown.{list_of}
use Rattle.axp_history.specs.Traces.{FileLine, Shown, Records, BadLine, trace_shown}
use Rattle.axp_image.specs.Contents.{Contents, byte_in}
use Rattle.axp_trace.specs.Lines.{with_feed}
use Rattle.axp_trace.specs.Verdicts.{consistent_line, violated_line}
use Rattle.axp_top.specs.declared.status.Status.TheVariants as status
use Rattle.axp_top.specs.Replays.{Answer, answer_in_one_line, bad_trace}

abbrev pub verdict_answer : Verdict → Answer
verdict_answer Consistent = record { status = status.Done; lines = with_feed consistent_line ∷ [] }
verdict_answer (Violated rule first second) = answer_in_one_line (status.Violated rule first second) (violated_line (rule_name rule) first second)

-- the verdict on the accesses of the records, over the image's bytes; a line outside the grammar comes before
abbrev pub answer_of_shown : Contents → Shown → Answer
answer_of_shown image (Records h) = verdict_answer (verdict (byte_in image.segments) (list_of 0 h))
answer_of_shown image (BadLine n) = bad_trace n

abbrev pub checked_answer : Contents → List FileLine → Answer
checked_answer image ls = answer_of_shown image (trace_shown ls)
