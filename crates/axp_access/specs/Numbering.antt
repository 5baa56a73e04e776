-- Accesses with their numbers in a list.
use Rattle.std.specs.Prelude.{ℕ, ◌+◌, ◌==◌, ◌&&◌, if◌then◌else◌, List, [], ◌∷◌, length}
use Rattle.axp_base.specs.Cpus.{cpu_number}
use Rattle.axp_access.specs.declared.Access.{Access}
use Rattle.axp_access.specs.Kinds.{is_write_barrier}

-- an access with its number, 1 for the first of the history, and with how many WMBs its processor had
-- made before it
pub record NumberedAccess : Type 0 where
  pub number : ℕ
  pub parts : ℕ
  pub access : Access

-- the number of the processor that made it
abbrev pub cpu_of : NumberedAccess → ℕ
cpu_of u = cpu_number u.access.cpu

abbrev pub write_barriers_in : ℕ → List NumberedAccess → ℕ
write_barriers_in p [] = 0
write_barriers_in p (u ∷ us) = if (cpu_of u == p) && is_write_barrier u.access.kind then write_barriers_in p us + 1 else write_barriers_in p us

-- an access as the next of a list
abbrev pub next_access : List NumberedAccess → Access → NumberedAccess
next_access us a = record { number = length us + 1; parts = write_barriers_in (cpu_number a.cpu) us; access = a }
