use Rattle.axp_laws.proofs.OrderPlaces.{run_prefix}
use Rattle.axp_laws.proofs.order.runs_begin_with_runs.Goals as goal

pub returns : goal.returns
returns c = run_prefix
