use Rattle.axp_summary.proofs.RoundLemmas.{whole_run}
use Rattle.axp_summary.proofs.laws.rounds_are_whole_runs.Goals as goal

pub returns : goal.returns
returns c = whole_run
