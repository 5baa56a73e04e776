-- Sources by their numbers, as a judge keeps them.
use Rattle.std.specs.Prelude.{◌≡◌, ℕ, ◌+◌, ◌-◌, ◌*◌, ◌<◌, true, IfSome, List, length, slice_index, Option}
use Rattle.std.specs.Option.{option_map_or}
use Rattle.axp_base.specs.declared.parts.TheConstants.{QUADWORD_BYTES}
use Rattle.axp_access.specs.Lists.{Accesses, access_at, accesses_in, times_of}
use Rattle.axp_access.specs.Numbering.{NumberedAccess}
use Rattle.axp_access.specs.Order.{Times}
use Rattle.axp_model.specs.Sources.{source, takes_bytes}

-- the number of a source, 0 where it is the image
abbrev pub source_number : Option NumberedAccess → ℕ
source_number u = option_map_or (λ u. u.number) u 0

-- the number of the source of byte k of v
abbrev pub source_of_byte : Times → List NumberedAccess → NumberedAccess → ℕ → ℕ
source_of_byte t us v k = source_number (source t (v.access.address + k) v us)

-- a list of numbers has the sources of access n, a read or fetch, at as many places as a quadword has
-- bytes, from the lowest byte on
abbrev pub HasSourcesAt : Accesses → List ℕ → ℕ → NumberedAccess → Type 0
HasSourcesAt list numbers n v = takes_bytes v ≡ true → (k : ℕ) → k < v.access.size → slice_index numbers ((n - 1) * QUADWORD_BYTES + k) ≡ source_of_byte (times_of list) (accesses_in list) v k

-- so it has of each access
pub record AreSources (list : Accesses) (numbers : List ℕ) : Type 0 where
  pub count : length numbers ≡ length list.items * QUADWORD_BYTES
  pub each : (n : ℕ) → IfSome (access_at list n) (HasSourcesAt list numbers n)
