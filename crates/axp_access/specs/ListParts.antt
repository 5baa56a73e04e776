-- The vectors and the table behind a list of accesses.
use Rattle.std.specs.Prelude.{◌≡◌, ◌^◌, ◌<◌, ◌≤◌, ◌+◌, ◌==◌, ◌&&◌, ℕ, Bool, true, map, length, is_some}
use Rattle.std.specs.List.{AllByRecursion, IsDistinct, list_any}
use Rattle.std.specs.Vec.{vec_capacity}
use Rattle.std.specs.HashMap.{get, spare}
use Rattle.axp_base.specs.Cpus.{cpu_number}
use Rattle.axp_access.specs.declared.access_lists.AccessList.TheInside.{Inside}
use Rattle.axp_access.specs.declared.access_lists.Drain.{Drain}
use Rattle.axp_access.specs.Lists.{Accesses, turn_in, IsSound, is_write_in}

-- the list's accesses, drains and room are those of its vectors
abbrev pub accesses_of : Inside → Accesses
accesses_of a = record { items = a.items.items; drains = a.drains.items; room = vec_capacity a.items }

-- what the table is asked for
abbrev pub entry_key : Drain → ℕ × ℕ
entry_key d = (cpu_number d.cpu, d.entry)

abbrev pub same_entry : ℕ × ℕ → ℕ × ℕ → Bool
same_entry a b = (a.0 == b.0) && (a.1 == b.1)

pub record HasParts (a : Inside) : Type 0 where
  pub within : length a.items.items ≤ vec_capacity a.items
  pub small : vec_capacity a.items < 2 ^ 32
  pub room : vec_capacity a.drains ≡ vec_capacity a.items
  pub sound : AllByRecursion IsSound a.items.items
  -- each drained entry is that of a plain write, and was drained once
  pub written : (p n : ℕ) → is_some (turn_in a.drains.items p n) ≡ true → list_any (is_write_in p n) a.items.items ≡ true
  pub once : IsDistinct same_entry (map entry_key a.drains.items)
  -- the table has the turns, and room for more
  pub told : (p n : ℕ) → get same_entry a.turns (p, n) ≡ turn_in a.drains.items p n
  pub spare : vec_capacity a.items ≤ length a.drains.items + spare a.turns
