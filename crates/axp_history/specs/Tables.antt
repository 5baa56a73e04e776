-- The table of the entries of all write buffers, and what a first pass over a trace keeps.
use Rattle.std.specs.Prelude.{◌≡◌, ℕ, ◌+◌, ◌*◌, ◌<◌, ◌≤◌, List, length, slice_get, Some}
use Rattle.axp_base.specs.declared.processors.TheConstants.{MAX_CPUS, MAX_BUDGET}
use Rattle.axp_base.specs.Cpus.{cpu_number}
use Rattle.axp_base.specs.declared.lines.Line.{Line}
use Rattle.axp_access.specs.declared.Access.{Access}
use Rattle.axp_access.specs.declared.EntryState.{EntryState}
use Rattle.axp_access.specs.declared.Outcome.{Outcome}
use Rattle.axp_access.specs.declared.Outcome.TheVariants as outcome
use Rattle.axp_access.specs.declared.Place.{Place}
use Rattle.axp_access.specs.declared.Place.TheVariants.{At, Entry, Absent}
use Rattle.axp_access.specs.declared.Record.{Record}
use Rattle.axp_model.specs.EntryStates.{entry_state}
use Rattle.axp_history.specs.declared.entries.TheConstants.{ROW}

-- where a processor's entry of this number stands
abbrev pub index_of : ℕ → ℕ → ℕ
index_of p n = p * ROW + n

-- a table of states is that of some records
pub record Tells (h : List Record) (states : List EntryState) : Type 0 where
  pub count : length states ≡ MAX_CPUS * ROW
  pub each : (p n : ℕ) → p < MAX_CPUS → n ≤ MAX_BUDGET → slice_get states (index_of p n) ≡ Some (entry_state p n h)

-- the numbers of entries that an outcome names are in the table
abbrev pub IsInTable : Place → Type 0
IsInTable (At turn) = Unit {0}
IsInTable (Entry n) = n ≤ MAX_BUDGET
IsInTable Absent = Unit {0}

abbrev pub FitsTable : Outcome → Type 0
FitsTable (outcome.Access a) = IsInTable a.place
FitsTable (outcome.Drained n line turn) = n ≤ MAX_BUDGET
FitsTable _ = Unit {0}

-- a record is a write of a processor that went into an entry, or the drain of it
pub record IsWriteIn (p n : ℕ) (r : Record) : Type 0 where
  pub own : cpu_number r.event.cpu ≡ p
  pub access : Access
  pub is : r.outcome ≡ outcome.Access access
  pub place : access.place ≡ Entry n

pub record IsDrainOf (p n : ℕ) (r : Record) : Type 0 where
  pub own : cpu_number r.event.cpu ≡ p
  pub line : Line
  pub turn : ℕ
  pub is : r.outcome ≡ outcome.Drained n line turn
