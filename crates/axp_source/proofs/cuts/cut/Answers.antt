use Rattle.axp_trace.proofs.FileLemmas.{cut_by_parts}
use Rattle.axp_source.proofs.cuts.cut.Goals as goal

pub returns-clause-value : goal.returns-clause-value
returns-clause-value c = cut_by_parts c.args.byte c.args.text.now c.parts.result c.parts.ensures.none c.parts.ensures.parted c.parts.ensures.first
