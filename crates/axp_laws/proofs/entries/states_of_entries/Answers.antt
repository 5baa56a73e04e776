use Rattle.std.proofs.Common.{◌∷◌}
use Rattle.axp_laws.proofs.EntryStates.{drained_exactly, drains_waiting, waiting_exactly, writes_undrained, written_exactly}
use Rattle.axp_laws.proofs.RunRecords.{run_fits}
use Rattle.axp_laws.proofs.entries.states_of_entries.Goals as goal

pub returns-clause-waiting : goal.returns-clause-waiting
returns-clause-waiting c = λ h run p n. waiting_exactly p n h (run_fits run.image run.processors h run.inside run.legal)

pub returns-clause-drained : goal.returns-clause-drained
returns-clause-drained c = drained_exactly

pub returns-clause-written : goal.returns-clause-written
returns-clause-written c = λ h run p n. written_exactly p n h (run_fits run.image run.processors h run.inside run.legal)

pub returns-clause-drains : goal.returns-clause-drains
returns-clause-drains c = λ r h run. drains_waiting r h (run_fits run.image run.processors (r ∷ h) run.inside run.legal)

pub returns-clause-writes : goal.returns-clause-writes
returns-clause-writes c = λ r h run. writes_undrained r h (run_fits run.image run.processors (r ∷ h) run.inside run.legal)
