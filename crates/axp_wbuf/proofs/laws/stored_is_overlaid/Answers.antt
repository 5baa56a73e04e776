use Rattle.axp_wbuf.proofs.Overlays.{stored_bytes, stored_others}
use Rattle.axp_wbuf.proofs.laws.stored_is_overlaid.Goals as goal

pub returns-clause-bytes : goal.returns-clause-bytes
returns-clause-bytes c = stored_bytes

pub returns-clause-others : goal.returns-clause-others
returns-clause-others c = stored_others
