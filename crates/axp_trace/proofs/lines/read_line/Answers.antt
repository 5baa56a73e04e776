use Rattle.axp_trace.specs.TraceLines.{SpellsLine}
use Rattle.axp_trace.proofs.TraceLineLemmas.{read_is_spelled, some_is_spelled, none_is_spelled}
use Rattle.axp_trace.proofs.lines.read_line.Goals as goal

pub returns-clause-spelled : goal.returns-clause-spelled
returns-clause-spelled c = read_is_spelled c.args.header.now c.args.line.now c.read_either.result c.read_either.ensures

pub returns-clause-means : goal.returns-clause-means
returns-clause-means c = some_is_spelled c.read_either.result (SpellsLine c.args.header.now.full c.args.header.now.cpus c.args.line.now) (read_is_spelled c.args.header.now c.args.line.now c.read_either.result c.read_either.ensures)

pub returns-clause-none : goal.returns-clause-none
returns-clause-none c = none_is_spelled c.read_either.result (SpellsLine c.args.header.now.full c.args.header.now.cpus c.args.line.now) (read_is_spelled c.args.header.now c.args.line.now c.read_either.result c.read_either.ensures)
