use Rattle.axp_asm.proofs.LabelLemmas.{labels_apart}
use Rattle.axp_asm.proofs.laws.labels_have_their_names.Goals as goal

pub returns : goal.returns
returns c = labels_apart
