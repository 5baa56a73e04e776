use Rattle.std.proofs.Common.{sym, ◌∙◌}
use Rattle.axp_cpu.proofs.SeatLemmas.{next_is, no_next}
use Rattle.axp_cpu.proofs.sequencers.Sequencer.next_wanted.Goals as goal

pub returns-then-is_some : goal.returns-then-is_some
returns-then-is_some c = λ s stands. no_next c.args.self.now s stands (sym c.if-is_some.ensures)

pub returns-in-Wants : goal.returns-in-Wants
returns-in-Wants c = λ s stands. next_is c.args.self.now s c.in-Wants.wanted _ stands (sym c.is_some.ensures ∙ c.if-is_some.false) c.in-Wants.ensures.plan
