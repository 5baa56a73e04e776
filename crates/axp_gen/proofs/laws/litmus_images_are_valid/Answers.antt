use Rattle.axp_gen.proofs.ValidityLemmas.{litmus_valid}
use Rattle.axp_gen.proofs.laws.litmus_images_are_valid.Goals as goal

pub returns : goal.returns
returns c = litmus_valid
