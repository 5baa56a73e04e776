use Rattle.axp_machine.proofs.RunLemmas.{keeps_constraints, run_before}
use Rattle.axp_machine.proofs.laws.runs_keep_the_constraints.Goals as goal

pub returns : goal.returns
returns c = record { prefix = run_before; constraints = keeps_constraints }
