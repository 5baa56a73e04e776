use Rattle.axp_cpu.proofs.SeatLemmas.{halted_is}
use Rattle.axp_cpu.proofs.sequencers.Sequencer.halted.Goals as goal

pub returns : goal.returns
returns c = halted_is c.args.self.now
