use Rattle.axp_bytes.proofs.UnalignedStores.{store_both, store_inside, last_kept}
use Rattle.axp_bytes.proofs.laws.unaligned_stores.Goals as goal

pub returns-clause-stored : goal.returns-clause-stored
returns-clause-stored c = store_both

pub returns-clause-inside : goal.returns-clause-inside
returns-clause-inside c = store_inside

pub returns-clause-last_stays : goal.returns-clause-last_stays
returns-clause-last_stays c = last_kept
