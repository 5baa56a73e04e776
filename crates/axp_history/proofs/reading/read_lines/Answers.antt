use Rattle.std.proofs.Common.{◌∙◌, sym}
use Rattle.axp_trace.specs.Files.{lines_of}
use Rattle.axp_history.proofs.CollectLemmas.{shown_list}
use Rattle.axp_history.proofs.reading.read_lines.Goals as goal

pub returns-clause-list : goal.returns-clause-list
returns-clause-list c = shown_list c.args.header.now (lines_of c.args.lines.now) c.collect.new.list _ (sym (c.fault.ensures (lines_of c.args.lines.now) c.in-Ok.ensures.survey) ∙ c.in_default-fault.is) c.collect.ensures
