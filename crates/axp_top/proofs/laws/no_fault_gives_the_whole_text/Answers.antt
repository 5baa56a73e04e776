use Rattle.axp_top.proofs.WholeAnswerLemmas.{whole}
use Rattle.axp_top.proofs.laws.no_fault_gives_the_whole_text.Goals as goal

pub returns : goal.returns
returns c = whole
