use Rattle.axp_world.proofs.RunJoined as joined
use Rattle.axp_world.proofs.laws.refused_where_not_legal.Goals as goal

pub returns : goal.returns
returns c = λ g e. joined.refused g.image g.cpus g.budget g.history e g.valid g.plays
