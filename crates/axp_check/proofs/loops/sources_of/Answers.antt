use Rattle.std.proofs.Common.{sym, ◌∙◌}
use Rattle.axp_check.proofs.LoopSources.{table_has_numbers, places_fit, table_within}
use Rattle.axp_check.proofs.loops.sources_of.Goals as goal

-- src/loops.rt:39:1
pub returns-then-takes_bytes-clause-value : goal.returns-then-takes_bytes-clause-value
returns-then-takes_bytes-clause-value c = table_has_numbers c.args.list.now c.args.sources.now c.args.n c.get-access.result c.from.result c.takes_bytes.result c.requires.sources c.requires.least c.get-access.ensures.value c.takes_bytes.ensures c.if-takes_bytes.true c.from.ensures (rw c.from.ensures (places_fit c.args.list.now c.args.sources.now c.args.n c.get-access.result c.requires.sources c.requires.least c.get-access.ensures.value c.get-access.ensures.sound (sym c.takes_bytes.ensures ∙ c.if-takes_bytes.true)))

pub returns-then-takes_bytes-clause-within : goal.returns-then-takes_bytes-clause-within
returns-then-takes_bytes-clause-within c = table_within c.args.list.now c.args.n c.get-access.result _ c.get-access.ensures.value (returns-then-takes_bytes-clause-value c)
