use Rattle.axp_trace.specs.Files.{lines_of}
use Rattle.axp_history.specs.Traces.{trace_shown}
use Rattle.axp_top.proofs.CheckLemmas.{checked_ends}
use Rattle.axp_top.proofs.checks.print_check.Goals as goal

pub returns-in-Ok-check : goal.returns-in-Ok-check
returns-in-Ok-check g c = checked_ends _ _ c.args.image.now (trace_shown (lines_of c.args.file.now)) _ c.in-Ok-check.verdict c.print_verdict.result c.in-Ok.ensures.list c.in-Ok-check.ensures c.print_verdict.ensures
