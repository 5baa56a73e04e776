use Rattle.axp_asm.proofs.DisplacementLemmas.{leads_exactly}
use Rattle.axp_asm.proofs.laws.branches_lead_to_their_labels.Goals as goal

pub returns : goal.returns
returns c = leads_exactly
