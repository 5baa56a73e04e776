use Rattle.axp_world.proofs.ProgressActs.{finished_drains, progress}
use Rattle.axp_world.proofs.laws.processors_are_never_stuck.Goals as goal

pub returns : goal.returns
returns c = record {
  acts = λ g cpu. progress g.image g.cpus g.budget g.history cpu g.valid g.plays;
  drains = λ g cpu. finished_drains g.image g.cpus g.budget g.history cpu g.valid g.plays;
}
