use Rattle.axp_trace.proofs.TraceLineLemmas.{record_read_back, tail_read_back, written_again, apart}
use Rattle.axp_trace.proofs.lines.lines_are_read_back.Goals as goal

pub returns-clause-record : goal.returns-clause-record
returns-clause-record c = record_read_back

pub returns-clause-tail : goal.returns-clause-tail
returns-clause-tail c = tail_read_back

pub returns-clause-written : goal.returns-clause-written
returns-clause-written c = written_again

pub returns-clause-apart : goal.returns-clause-apart
returns-clause-apart c = apart
