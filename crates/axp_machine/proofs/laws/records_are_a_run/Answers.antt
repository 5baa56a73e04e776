use Rattle.axp_machine.proofs.RunLemmas.{run_again, run_is, run_models}
use Rattle.axp_machine.proofs.laws.records_are_a_run.Goals as goal

pub returns : goal.returns
returns c = record { again = run_again; from_start = run_is; model = run_models }
