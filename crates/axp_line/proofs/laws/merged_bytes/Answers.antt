use Rattle.axp_base.specs.declared.lines.TheConstants.{LINE_BYTES}
use Rattle.axp_line.proofs.MergeLemmas.{length-merged_below, merged_each, merged_past}
use Rattle.axp_line.proofs.laws.merged_bytes.Goals as goal

pub returns-clause-each : goal.returns-clause-each
returns-clause-each c = merged_each LINE_BYTES

pub returns-clause-past : goal.returns-clause-past
returns-clause-past c = merged_past LINE_BYTES

pub returns-clause-as_long : goal.returns-clause-as_long
returns-clause-as_long c = length-merged_below LINE_BYTES
