-- What the values of a run's accesses keep.
use Rattle.std.specs.Prelude.{◌≡◌, ℕ, zero, suc, ◌+◌, Bool, false, ◌||◌, List, Option}
use Rattle.axp_regs.specs.declared.asks.Kind.{Kind}
use Rattle.axp_access.specs.declared.Access.{Access}
use Rattle.axp_access.specs.declared.Outcome.TheVariants as outcome
use Rattle.axp_access.specs.declared.Record.{Record}
use Rattle.axp_model.specs.Accesses.{accesses, times}
use Rattle.axp_access.specs.Numbering.{NumberedAccess, next_access}
use Rattle.axp_model.specs.Sources.{source}
use Rattle.axp_model.specs.Memory.{memory_source, has_reached}
use Rattle.axp_model.specs.Turns.{turns}

-- the record is an access of this kind
abbrev pub Makes : Record → Kind → Access → Type 0
Makes r kind a = (r.outcome ≡ outcome.Access a) × (a.kind ≡ kind)

-- the source of the byte at an address of the access that comes next after h, in a history that goes on
abbrev pub source_in : List Record → List Record → ℕ → Access → Option NumberedAccess
source_in k h at a = source (times k) at (next_access (accesses h) a) (accesses k)

-- what memory has at an address after the first n turns of a history
abbrev pub memory_after : List Record → ℕ → ℕ → Option NumberedAccess
memory_after h n at = memory_source (times h) n at (accesses h)

-- the access is a memory write that reached memory, by a drain of its entry or a success, and has one of the
-- n bytes from an address on
abbrev pub reaches_bytes : List Record → ℕ → ℕ → NumberedAccess → Bool
reaches_bytes h at zero u = false
reaches_bytes h at (suc n) u = reaches_bytes h at n u || has_reached (times h) (turns h) (at + n) u
