use Rattle.axp_explain.proofs.LawLemmas.{lines_have}
use Rattle.axp_explain.proofs.laws.refusals_have_a_reason.Goals as goal

pub returns : goal.returns
returns c = lines_have
