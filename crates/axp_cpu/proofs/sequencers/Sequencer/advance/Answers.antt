use Rattle.axp_cpu.specs.Phases.{ended}
use Rattle.axp_cpu.proofs.SeatLemmas.{goes_on, goes_to_end}
use Rattle.axp_cpu.proofs.sequencers.Sequencer.advance.Goals as goal

pub returns-in-Wants-phase : goal.returns-in-Wants-phase
returns-in-Wants-phase c = λ s stands.
    goes_on c.args.self.now s c.in-Wants.field-0 c.in-Wants-phase.wanted c.in-Wants.stage c.in-Wants-phase.stage c.args.value c.resume-phase.new.table stands c.in-Wants.ensures.plan c.in-Wants-phase.ensures.plan c.in-Wants-phase.ensures.fits

pub returns-in-Ends : goal.returns-in-Ends
returns-in-Ends c = λ s stands.
    goes_to_end c.args.self.now s c.in-Wants.field-0 c.in-Wants.stage c.args.value (ended c.in-Ends.ending c.resume-phase.new.table) c.finish.new.table stands c.in-Wants.ensures.plan c.in-Ends.ensures.plan c.finish.ensures
