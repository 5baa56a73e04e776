use Rattle.axp_bus.proofs.ReplyLemmas.{refused}
use Rattle.axp_bus.proofs.laws.refused_without_a_lock.Goals as goal

pub returns : goal.returns
returns c = refused
