use Rattle.axp_cpu.proofs.SeatLemmas.{makeable}
use Rattle.axp_cpu.proofs.sequencers.Sequencer.wanted.Goals as goal

pub returns-in-Wants-clause-makeable : goal.returns-in-Wants-clause-makeable
returns-in-Wants-clause-makeable c = λ s stands. makeable c.args.self.now s c.in-Wants.wanted c.in-Wants.field-1 stands c.in-Wants.ensures.plan c.in-Wants.ensures.fits
