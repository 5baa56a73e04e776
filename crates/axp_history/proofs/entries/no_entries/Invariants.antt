use Rattle.std.proofs.Common.{◌≡◌, ◌*◌, ◌≤◌, length}
use Rattle.std.specs.List.{AllByRecursion}
use Rattle.std.specs.Vec.{vec_capacity}
use Rattle.axp_base.specs.declared.processors.TheConstants.{MAX_CPUS}
use Rattle.axp_access.specs.declared.entry_states.EntryState.TheVariants.{Unwritten}
use Rattle.axp_history.specs.declared.entries.TheConstants.{ROW}
use Rattle.axp_history.proofs.entries.no_entries.Given as goal

abbrev pub invariant-loop : goal.invariant-loop
invariant-loop l = AllByRecursion (λ s. s ≡ Unwritten) l.states.items × ((length l.states.items ≡ l.counter) × (MAX_CPUS * ROW ≤ vec_capacity l.states))
