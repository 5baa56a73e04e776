use Rattle.axp_source.proofs.BackLemmas.{item_back}
use Rattle.axp_source.proofs.StatementLemmas.{item_is_text}
use Rattle.axp_source.proofs.laws.statements_are_their_lines.Goals as goal

pub returns : goal.returns
returns c = record { exactly = item_is_text; back = item_back }
