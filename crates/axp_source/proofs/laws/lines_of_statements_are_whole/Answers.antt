use Rattle.axp_source.proofs.WholeLemmas.{whole_item}
use Rattle.axp_source.proofs.laws.lines_of_statements_are_whole.Goals as goal

pub returns : goal.returns
returns c = whole_item
