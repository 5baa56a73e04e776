-- BEFORE as an order of numbers, which are quick to compare and to sort.
use Rattle.std.specs.Prelude.{ℕ, ◌+◌, ◌*◌, ◌^◌, ◌<◌, ◌≤◌, Bool, if◌then◌else◌}
use Rattle.axp_access.specs.declared.Place.{Place}
use Rattle.axp_access.specs.declared.Place.TheVariants.{At, Entry, Absent}
use Rattle.axp_access.specs.Numbering.{NumberedAccess}
use Rattle.axp_access.specs.Order.{Times, Key, key}

abbrev pub bit : Bool → ℕ
bit b = if b then 1 else 0

-- the number of a key: of two that have a place, the one BEFORE has the lesser; 0 where there is no place
unfoldable pub rank_of : Key → ℕ
rank_of k = if k.spot.placed then bit k.spot.last * 2 ^ 105 + (k.spot.place * 2 ^ 41 + (bit k.other * 2 ^ 40 + (k.cpu * 2 ^ 32 + k.number))) else 0

abbrev pub rank : Times → NumberedAccess → ℕ
rank t u = rank_of (key t u)

-- the rank of access n of a processor at a settled place
abbrev pub rank_by : Place → Bool → ℕ → ℕ → ℕ
rank_by (At turn) other cpu n = turn * 2 ^ 41 + (bit other * 2 ^ 40 + (cpu * 2 ^ 32 + n))
rank_by (Entry entry) other cpu n = 2 ^ 105 + (bit other * 2 ^ 40 + (cpu * 2 ^ 32 + n))
rank_by Absent other cpu n = 0

-- a turn is a number of 64 bits
abbrev pub FitsPlace : Place → Type 0
FitsPlace (At turn) = turn < 2 ^ 64
FitsPlace (Entry n) = Unit {0}
FitsPlace Absent = Unit {0}

-- the parts of a key do not run into each other
pub record FitsRank (k : Key) : Type 0 where
  pub place : k.spot.place < 2 ^ 64
  pub cpu : k.cpu < 2 ^ 8
  pub number : k.number < 2 ^ 32
  pub first : 1 ≤ k.number
