-- Which entries of write buffers a line of a trace may name, by the records of the lines before it.
use Rattle.std.specs.Prelude.{ℕ, Bool, true, false, List}
use Rattle.axp_access.specs.declared.EntryState.{EntryState}
use Rattle.axp_access.specs.declared.EntryState.TheVariants.{Waiting, Drained}
use Rattle.axp_access.specs.declared.Outcome.{Outcome}
use Rattle.axp_access.specs.declared.Outcome.TheVariants as outcome
use Rattle.axp_access.specs.declared.Place.{Place}
use Rattle.axp_access.specs.declared.Place.TheVariants.{Entry}
use Rattle.axp_access.specs.declared.Record.{Record}
use Rattle.axp_model.specs.EntryStates.{entry_state}

-- a write names no entry that a drain named before it
abbrev pub is_undrained : EntryState → Bool
is_undrained Drained = false
is_undrained _ = true

-- a drain names an entry that a write named before it, and no drain
abbrev pub is_waiting : EntryState → Bool
is_waiting Waiting = true
is_waiting _ = false

abbrev pub is_placed_well : ℕ → Place → List Record → Bool
is_placed_well p (Entry n) h = is_undrained (entry_state p n h)
is_placed_well p _ h = true

abbrev pub names_well : ℕ → Outcome → List Record → Bool
names_well p (outcome.Access a) h = is_placed_well p a.place h
names_well p (outcome.Drained n line turn) h = is_waiting (entry_state p n h)
names_well p _ h = true
