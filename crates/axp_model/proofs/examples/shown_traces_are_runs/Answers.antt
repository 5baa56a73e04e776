use Rattle.axp_model.proofs.ExamplesAreRuns.{shown_is_run}
use Rattle.axp_model.proofs.examples.shown_traces_are_runs.Goals as goal

pub returns : goal.returns
returns c = shown_is_run
