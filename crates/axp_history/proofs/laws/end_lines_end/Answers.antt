use Rattle.axp_history.proofs.LawLemmas.{ends}
use Rattle.axp_history.proofs.laws.end_lines_end.Goals as goal

pub returns : goal.returns
returns c = ends
