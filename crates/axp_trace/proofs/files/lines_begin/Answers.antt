use Rattle.axp_trace.proofs.FileLemmas.{lines_of-begin}
use Rattle.axp_trace.proofs.files.lines_begin.Goals as goal

pub returns : goal.returns
returns c = lines_of-begin
