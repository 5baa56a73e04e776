-- What a pass keeps of the accesses so far, to know without looking back that none of them is to be BEFORE
-- the next and is not.
use Rattle.std.specs.Prelude.{◌≡◌, ℕ, ◌==◌, ◌≤◌, Bool, true, false, ◌&&◌, nat_lt, List, length, slice_index_or}
use Rattle.std.specs.List.{AllByRecursion}
use Rattle.axp_access.specs.Kinds.{is_write}
use Rattle.axp_access.specs.Lists.{Accesses, accesses_to, times_of}
use Rattle.axp_access.specs.Numbering.{NumberedAccess, cpu_of, write_barriers_in}
use Rattle.axp_access.specs.Order.{Times, key}
use Rattle.axp_access.specs.Ranks.{FitsRank, rank}
use Rattle.axp_check.specs.declared.barrier.WriteTops.{WriteTops}

-- the access has a place, and its rank is not above a bound
pub record IsUpTo (t : Times) (bound : ℕ) (u : NumberedAccess) : Type 0 where
  pub fits : FitsRank (key t u)
  pub placed : (rank t u == 0) ≡ false
  pub most : rank t u ≤ bound

-- so it is with each that passes a test
abbrev pub AreUpTo : Times → (NumberedAccess → Bool) → List NumberedAccess → ℕ → Type 0
AreUpTo t test us bound = AllByRecursion (λ u. test u ≡ true → IsUpTo t bound u) us

-- a write of processor p
abbrev pub is_own_write : ℕ → NumberedAccess → Bool
is_own_write p u = (cpu_of u == p) && is_write u.access

-- one that had fewer WMBs before it
abbrev pub is_parted_write : ℕ → ℕ → NumberedAccess → Bool
is_parted_write p parts u = is_own_write p u && nat_lt u.parts parts

-- the greatest ranks of processor p's writes among the first n accesses, and of those with a WMB behind them
pub record HasTops (list : Accesses) (n p : ℕ) (tops : WriteTops) : Type 0 where
  pub all : AreUpTo (times_of list) (is_own_write p) (accesses_to list n) tops.all
  pub closed : AreUpTo (times_of list) (is_parted_write p (write_barriers_in p (accesses_to list n))) (accesses_to list n) tops.closed

-- so it is with each processor's tops
pub record KeepsTops (list : Accesses) (n : ℕ) (tops : List WriteTops) : Type 0 where
  pub each : (p : ℕ) → HasTops list n p (slice_index_or tops p (record { all = 0; closed = 0 }))
  pub number : length tops ≡ 8
