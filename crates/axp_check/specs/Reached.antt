-- What the values that a list's reads and fetches took may have come from, by one number for each processor.
use Rattle.std.specs.Prelude.{◌≡◌, ◌⊎◌, ℕ, zero, suc, ◌+◌, ◌<◌, ◌≤◌, nat_lt, Bool, true, false, if◌then◌else◌, IfSome, List, [], ◌∷◌, length, slice_index, sum, Some}
use Rattle.std.specs.List.{list_any}
use Rattle.std.specs.Option.{option_map_or}
use Rattle.axp_base.specs.declared.processors.TheConstants.{MAX_CPUS}
use Rattle.axp_access.specs.Lists.{Accesses, access_at, accesses_in, times_of}
use Rattle.axp_access.specs.Numbering.{NumberedAccess, cpu_of}
use Rattle.axp_access.specs.Order.{Times}
use Rattle.axp_model.specs.Sources.{takes_bytes}
use Rattle.axp_check.specs.declared.reached.Reached.{Reached}
use Rattle.axp_check.specs.Loops.{leads, may_cause}
use Rattle.axp_check.specs.Sources.{source_of_byte}

-- the numbers of the sources of n bytes of v from byte k on
abbrev pub numbers_from : Times → List NumberedAccess → NumberedAccess → ℕ → ℕ → List ℕ
numbers_from t us v zero k = []
numbers_from t us v (suc n) k = source_of_byte t us v k ∷ numbers_from t us v n (k + 1)

-- of each byte of a read or fetch; of no byte of another access
abbrev pub source_numbers : Accesses → NumberedAccess → List ℕ
source_numbers list v = if takes_bytes v then numbers_from (times_of list) (accesses_in list) v v.access.size 0 else []

-- a processor's number, and the sum of all
abbrev pub least_of : Reached → ℕ → ℕ
least_of reached p = slice_index reached.least p

abbrev pub total_of : Reached → ℕ
total_of reached = sum reached.least

-- the access of this number is behind its processor's number; 0, the image, is behind none
abbrev pub is_behind : Accesses → Reached → ℕ → Bool
is_behind list reached m = option_map_or (λ w. nat_lt (least_of reached (cpu_of w)) m) (access_at list m) false

-- v is a read or fetch with such a source
abbrev pub has_source_behind : Accesses → Reached → NumberedAccess → Bool
has_source_behind list reached v = list_any (is_behind list reached) (source_numbers list v)

-- then its own processor's number is not above it
abbrev pub IsClosedAt : Accesses → Reached → NumberedAccess → Type 0
IsClosedAt list reached v = has_source_behind list reached v ≡ true → least_of reached (cpu_of v) ≤ v.number

-- so it is of the first n accesses
abbrev pub IsClosedTo : Accesses → Reached → ℕ → Type 0
IsClosedTo list reached n = (m : ℕ) → m < n → IfSome (access_at list (m + 1)) (IsClosedAt list reached)

-- number n of processor p is that of a read or fetch that is r, or whose value may have come from r's
pub record IsReachedAs (list : Accesses) (r : NumberedAccess) (p n : ℕ) : Type 0 where
  pub read : NumberedAccess
  pub number : read.number ≡ n
  pub first : 1 ≤ n
  pub found : access_at list n ≡ Some read
  pub cpu : cpu_of read ≡ p
  pub takes : takes_bytes read ≡ true
  pub way : (read ≡ r) ⊎ ((k : ℕ) × (leads (may_cause (times_of list) (accesses_in list)) (accesses_in list) k r read ≡ true))

-- each processor's number is, or no access of the list is behind it; that of r's processor is not above r
pub record IsReaching (list : Accesses) (reached : Reached) (r : NumberedAccess) : Type 0 where
  pub start : least_of reached (cpu_of r) ≤ r.number
  pub each : (p : ℕ) → p < MAX_CPUS → (length list.items ≤ least_of reached p) ⊎ IsReachedAs list r p (least_of reached p)
