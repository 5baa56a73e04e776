use Rattle.axp_wbuf.proofs.Pairs.{store_keeps}
use Rattle.axp_wbuf.proofs.laws.store_keeps_other_entries.Goals as goal

pub returns : goal.returns
returns c = store_keeps
