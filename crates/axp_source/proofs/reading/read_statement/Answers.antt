use Rattle.axp_source.specs.Items.{item_read}
use Rattle.axp_source.proofs.StatementLemmas.{read_is_spelled, read_is_meant, none_is_spelled}
use Rattle.axp_source.proofs.reading.read_statement.Goals as goal

pub returns-clause-spelled : goal.returns-clause-spelled
returns-clause-spelled c = read_is_spelled c.args.line.now (item_read c.read.result) c.read.ensures

pub returns-clause-means : goal.returns-clause-means
returns-clause-means c = read_is_meant c.args.line.now (item_read c.read.result) c.read.ensures

pub returns-clause-none : goal.returns-clause-none
returns-clause-none c = none_is_spelled c.args.line.now c.read.result c.read.ensures
