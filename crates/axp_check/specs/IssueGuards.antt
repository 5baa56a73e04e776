-- What the pass for the issue constraint keeps of the accesses so far.
use Rattle.std.specs.Prelude.{◌≡◌, ℕ, ◌+◌, ◌*◌, ◌/◌, ◌%◌, ◌==◌, Bool, not, ◌&&◌, List, length, slice_index_or}
use Rattle.std.specs.List.{AllByRecursion}
use Rattle.axp_access.specs.Kinds.{is_memory_write}
use Rattle.axp_access.specs.Lists.{Accesses, IsSound, accesses_to, times_of}
use Rattle.axp_access.specs.Numbering.{NumberedAccess, cpu_of}
use Rattle.axp_model.specs.Issue.{has_place}
use Rattle.axp_check.specs.Guards.{AreUpTo}
use Rattle.axp_check.specs.declared.issue.IssueTops.{IssueTops}

-- an access of processor p that has a place and is no memory write
abbrev pub is_own_other : ℕ → NumberedAccess → Bool
is_own_other p u = (cpu_of u == p) && (not (is_memory_write u.access) && has_place u.access.place)

abbrev pub is_own_memory_write : ℕ → NumberedAccess → Bool
is_own_memory_write p u = (cpu_of u == p) && is_memory_write u.access

-- the slot of the quadword in which an address lies, for a processor
abbrev pub slot_at : ℕ → ℕ → ℕ
slot_at p address = (address / 8 + address / 8 / 512 + address / 8 / 262144 + p * 64) % 512

-- a memory write of a slot
abbrev pub is_slot_write : ℕ → NumberedAccess → Bool
is_slot_write s u = (slot_at (cpu_of u) u.access.address == s) && is_memory_write u.access

-- the greatest ranks of processor p's memory writes among the first n accesses, and of what else has a place
pub record HasIssueTops (list : Accesses) (n p : ℕ) (tops : IssueTops) : Type 0 where
  pub others : AreUpTo (times_of list) (is_own_other p) (accesses_to list n) tops.others
  pub writes : AreUpTo (times_of list) (is_own_memory_write p) (accesses_to list n) tops.writes

-- and of the memory writes of a slot
abbrev pub HasSlotTop : Accesses → ℕ → ℕ → ℕ → Type 0
HasSlotTop list n s top = AreUpTo (times_of list) (is_slot_write s) (accesses_to list n) top

-- so it is with each processor and slot
pub record KeepsIssueTops (list : Accesses) (n : ℕ) (tops : List IssueTops) (slots : List ℕ) : Type 0 where
  pub sound : AllByRecursion (λ u. IsSound u.access) (accesses_to list n)
  pub each : (p : ℕ) → HasIssueTops list n p (slice_index_or tops p (record { others = 0; writes = 0 }))
  pub slot : (s : ℕ) → HasSlotTop list n s (slice_index_or slots s 0)
  pub number : length tops ≡ 8
  pub size : length slots ≡ 512
