use Rattle.axp_cpu.proofs.SeatLemmas.{boundary_at, interrupted}
use Rattle.axp_cpu.proofs.sequencers.Sequencer.interrupt.Goals as goal

pub returns : goal.returns
returns c = λ s stands. interrupted c.args.self.now s c.args.code c.arrive.new.table stands (boundary_at c.args.self.now s stands c.requires) c.arrive.ensures
