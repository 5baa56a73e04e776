use Rattle.axp_cpu.proofs.SeatLemmas.{state_is}
use Rattle.axp_cpu.proofs.sequencers.Sequencer.state.Goals as goal

pub returns-clause-registers : goal.returns-clause-registers
returns-clause-registers c = state_is c.args.self.now
