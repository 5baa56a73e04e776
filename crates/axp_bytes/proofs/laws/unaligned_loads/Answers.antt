use Rattle.axp_bytes.proofs.UnalignedLoads.{load_crossing, load_inside}
use Rattle.axp_bytes.proofs.laws.unaligned_loads.Goals as goal

pub returns-clause-crossing : goal.returns-clause-crossing
returns-clause-crossing c = load_crossing

pub returns-clause-inside : goal.returns-clause-inside
returns-clause-inside c = load_inside
