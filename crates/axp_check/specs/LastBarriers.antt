-- The last WMB in front of an access.
use Rattle.std.specs.Prelude.{◌≡◌, ℕ, ◌-◌, ◌≤◌, nat_lt, nat_le}
use Rattle.axp_access.specs.Lists.{Accesses, accesses_to}
use Rattle.axp_access.specs.Numbering.{write_barriers_in}

-- a WMB of processor p stands between the i-th access and the j-th just where i is not above the number
pub record IsLastBarrier (list : Accesses) (p j last : ℕ) : Type 0 where
  pub parts : (i : ℕ) → 1 ≤ i → nat_lt (write_barriers_in p (accesses_to list (i - 1))) (write_barriers_in p (accesses_to list (j - 1))) ≡ nat_le i last
