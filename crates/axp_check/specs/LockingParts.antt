-- What a scan for the first store-conditional that breaks locking keeps and tells.
use Rattle.std.specs.Prelude.{◌≡◌, ℕ, ◌<◌, ◌≤◌, ◌==◌, Bool, false, ◌&&◌, if◌then◌else◌, List, length, slice_index, Option, Some, None}
use Rattle.axp_base.specs.declared.processors.TheConstants.{MAX_CPUS}
use Rattle.axp_base.specs.Blocks.{block_of}
use Rattle.axp_access.specs.Kinds.{is_locked, is_success}
use Rattle.axp_access.specs.Lists.{Accesses, access_at, accesses_in, accesses_to, times_of}
use Rattle.axp_access.specs.Numbering.{NumberedAccess}
use Rattle.axp_check.specs.Locking.{last_locking, pair_by, disturber}

-- the access of a number, none where it is 0
abbrev pub access_or_none : Accesses → ℕ → Option NumberedAccess
access_or_none list n = if n == 0 then None else access_at list n

-- an LDx_L, of v's block
abbrev pub is_pair : NumberedAccess → Option NumberedAccess → Bool
is_pair v None = false
is_pair v (Some u) = is_locked u.access.kind && (block_of u.access.address == block_of v.access.address)

-- what breaks locking at v, by its processor's newest LDx_L or STx_C in front of it
abbrev pub fault_by : Accesses → NumberedAccess → Option NumberedAccess → Option ℕ
fault_by list v last = if is_success v.access then disturber (times_of list) (accesses_in list) v (pair_by v last) else None

-- the numbers of each processor's newest LDx_L or STx_C of the first n accesses, 0 where it has none
pub record AreNewest (list : Accesses) (n : ℕ) (numbers : List ℕ) : Type 0 where
  pub count : length numbers ≡ MAX_CPUS
  pub within : (p : ℕ) → p < MAX_CPUS → slice_index numbers p ≤ n
  pub each : (p : ℕ) → p < MAX_CPUS → access_or_none list (slice_index numbers p) ≡ last_locking p (accesses_to list n)
