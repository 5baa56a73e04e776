use Rattle.axp_cpu.specs.Phases.{ended}
use Rattle.axp_cpu.proofs.SeatLemmas.{passes}
use Rattle.axp_cpu.proofs.sequencers.Sequencer.pass.Goals as goal

pub returns : goal.returns
returns c = λ s stands.
    passes c.args.self.now s (ended c.in-Ends.ending c.args.self.now.table) c.finish.new.table stands c.in-Ends.ensures.plan c.finish.ensures
