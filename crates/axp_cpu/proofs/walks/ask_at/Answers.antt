use Rattle.std.proofs.Common.{sym}
use Rattle.std.proofs.lemmas.Option.{slice_get_past}
use Rattle.axp_cpu.proofs.walks.ask_at.Goals as goal

pub returns-else-n-asks-clause-value : goal.returns-else-n-asks-clause-value
returns-else-n-asks-clause-value c = sym (slice_get_past c.args.asks.now c.args.n c.if-n-asks.false)
