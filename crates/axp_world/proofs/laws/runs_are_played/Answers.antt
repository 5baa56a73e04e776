use Rattle.axp_world.proofs.RunJoined as joined
use Rattle.axp_world.proofs.laws.runs_are_played.Goals as goal

pub returns : goal.returns
returns c = joined.runs_are_played
