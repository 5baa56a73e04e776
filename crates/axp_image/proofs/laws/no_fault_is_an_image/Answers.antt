use Rattle.axp_image.proofs.NoFaultLemmas.{sound_image, fault_is_no_image}
use Rattle.axp_image.proofs.laws.no_fault_is_an_image.Goals as goal

pub returns : goal.returns
returns c = record { image = sound_image; fault = fault_is_no_image }
