-- How far an entry of a processor's write buffer has come, by the records alone.
use Rattle.std.specs.Prelude.{ℕ, ◌==◌, Bool, false, ◌&&◌, if◌then◌else◌, List}
use Rattle.std.specs.List.{list_any}
use Rattle.axp_access.specs.declared.Outcome.{Outcome}
use Rattle.axp_access.specs.declared.Place.{Place}
use Rattle.axp_access.specs.declared.Place.TheVariants.{At, Entry, Absent}
use Rattle.axp_access.specs.declared.Record.{Record}
use Rattle.axp_access.specs.declared.entry_states.EntryState.{EntryState}
use Rattle.axp_access.specs.declared.entry_states.EntryState.TheVariants as entry
use Rattle.axp_model.specs.Records.{is_of, makes_access, drains}

-- the place of a write that went into entry n
abbrev pub is_entry : ℕ → Place → Bool
is_entry n (At turn) = false
is_entry n (Entry m) = m == n
is_entry n Absent = false

-- an access that went into entry n
abbrev pub writes_entry : ℕ → Outcome → Bool
writes_entry n o = makes_access (λ a. is_entry n a.place) o

-- a write of processor p went into entry n
abbrev pub is_written : ℕ → ℕ → List Record → Bool
is_written p n h = list_any (λ r. is_of p r && writes_entry n r.outcome) h

-- a drain of processor p named entry n
abbrev pub is_drained : ℕ → ℕ → List Record → Bool
is_drained p n h = list_any (λ r. is_of p r && drains n r.outcome) h

-- a drain named it; or only a write; or neither
abbrev pub entry_state : ℕ → ℕ → List Record → EntryState
entry_state p n h = if is_drained p n h then entry.Drained else (if is_written p n h then entry.Waiting else entry.Unwritten)
