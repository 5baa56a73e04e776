use Rattle.axp_laws.proofs.RunRecords.{run_fits}
use Rattle.axp_laws.proofs.LateReached.{reached, none_late, none_waits, none_older}
use Rattle.axp_laws.proofs.late.held_copies.Goals as goal
use Rattle.std.specs.Prelude.{◌∷◌}

pub returns-clause-reached : goal.returns-clause-reached
returns-clause-reached c = λ h run p l. reached p l h (run_fits run.image run.processors h run.inside run.legal)

pub returns-clause-none_late : goal.returns-clause-none_late
returns-clause-none_late c = none_late

pub returns-clause-none_waits : goal.returns-clause-none_waits
returns-clause-none_waits c = λ r h run p just. none_waits p r h (run_fits run.image run.processors (r ∷ h) run.inside run.legal) just

pub returns-clause-none_older : goal.returns-clause-none_older
returns-clause-none_older c = λ r h run p l just e. none_older p l r h (run_fits run.image run.processors (r ∷ h) run.inside run.legal) just e
