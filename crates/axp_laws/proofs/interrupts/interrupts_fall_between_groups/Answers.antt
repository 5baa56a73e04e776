use Rattle.axp_laws.proofs.InterruptTimes.{taken_between}
use Rattle.axp_laws.proofs.interrupts.interrupts_fall_between_groups.Goals as goal

pub returns : goal.returns
returns c = λ later r h run is. taken_between run.image run.processors later r h run.legal is
