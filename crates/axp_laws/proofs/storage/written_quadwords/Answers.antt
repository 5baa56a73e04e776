use Rattle.axp_laws.proofs.SourceWritten.{touched_by}
use Rattle.axp_laws.proofs.storage.written_quadwords.Goals as goal

pub returns : goal.returns
returns c = touched_by
