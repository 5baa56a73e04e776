-- Storage over a list of accesses: the first byte of a read or fetch that is not its source's.
use Rattle.std.specs.Prelude.{◌≡◌, ℕ, zero, suc, ◌+◌, ◌==◌, ◌<◌, Bool, true, if◌then◌else◌, List, [], ◌∷◌, Option, Some, None}
use Rattle.std.specs.Option.{option_or, option_map}
use Rattle.axp_base.specs.Parts.{byte}
use Rattle.axp_access.specs.Numbering.{NumberedAccess}
use Rattle.axp_access.specs.Order.{Times}
use Rattle.axp_model.specs.Sources.{source, takes_bytes, byte_of_source}
use Rattle.axp_check.specs.Sources.{source_of_byte}

-- the byte that the source of byte k of v has there
abbrev pub right_byte : (ℕ → ℕ) → Times → List NumberedAccess → NumberedAccess → ℕ → ℕ
right_byte image t us v k = byte_of_source image (v.access.address + k) (source t (v.access.address + k) v us)

-- byte k of v is that one
abbrev pub is_right : (ℕ → ℕ) → Times → List NumberedAccess → NumberedAccess → ℕ → Bool
is_right image t us v k = byte v.access.value k == right_byte image t us v k

-- the first of the n bytes from byte k on that is wrong
abbrev pub wrong_from : (ℕ → Bool) → ℕ → ℕ → Option ℕ
wrong_from right zero k = None
wrong_from right (suc n) k = if right k then wrong_from right n (k + 1) else Some k

-- v's lowest wrong byte
abbrev pub wrong_byte : (ℕ → ℕ) → Times → List NumberedAccess → NumberedAccess → Option ℕ
wrong_byte image t us v = if takes_bytes v then wrong_from (is_right image t us v) v.access.size 0 else None

-- the number of its source, over all accesses; 0: the image
abbrev pub wrong_source : (ℕ → ℕ) → Times → List NumberedAccess → NumberedAccess → Option ℕ
wrong_source image t us v = option_map (source_of_byte t us v) (wrong_byte image t us v)

-- the oldest of these that has a wrong byte, with that source in front
abbrev pub first_wrong : (NumberedAccess → Option ℕ) → List NumberedAccess → Option (ℕ × ℕ)
first_wrong wrong [] = None
first_wrong wrong (v ∷ vs) = option_or (first_wrong wrong vs) (option_map (λ first. (first, v.number)) (wrong v))

-- the pair by which a list breaks storage
abbrev pub storage_fault : (ℕ → ℕ) → Times → List NumberedAccess → Option (ℕ × ℕ)
storage_fault image t us = first_wrong (wrong_source image t us) us

-- a read or fetch has the bytes of its sources
abbrev pub HasSourcesIn : (ℕ → ℕ) → Times → List NumberedAccess → NumberedAccess → Type 0
HasSourcesIn image t us v = takes_bytes v ≡ true → (k : ℕ) → k < v.access.size → byte v.access.value k ≡ right_byte image t us v k
