use Rattle.std.proofs.Common.{rules}
use Rattle.axp_cpu.proofs.SeatLemmas.{intent_is}
use Rattle.axp_cpu.proofs.sequencers.Sequencer.intent.Goals as goal

pub returns-clause-value : goal.returns-clause-value
returns-clause-value c = λ s stands. intent_is c.args.self.now s c.finished.result c.is_at_boundary.result _ c.locked.result c.wanted.result stands (c.finished.ensures s stands) c.is_at_boundary.ensures (search rules) (search rules) (c.wanted.ensures.wanted s stands)
