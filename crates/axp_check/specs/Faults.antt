-- What a fault's numbers say of a list of accesses: which two break the rule, and that none do earlier.
use Rattle.std.specs.Prelude.{◌≡◌, ◌≢◌, ◌⊎◌, ℕ, ◌<◌, ◌≤◌, Bool, true, Contains, List}
use Rattle.axp_base.specs.Parts.{byte}
use Rattle.axp_access.specs.Kinds.{is_success}
use Rattle.axp_access.specs.Numbering.{NumberedAccess}
use Rattle.axp_access.specs.Order.{Times}
use Rattle.axp_model.specs.Locking.{IsPaired, IsApart}
use Rattle.axp_model.specs.Sources.{takes_bytes}
use Rattle.axp_check.specs.Locking.{HasLockIn}
use Rattle.axp_check.specs.Sources.{source_of_byte}
use Rattle.axp_check.specs.Storage.{right_byte, HasSourcesIn}

-- of two pairs of numbers the one of k and l has the greater second, or the same and no lesser first
abbrev pub IsNotLess : ℕ → ℕ → ℕ → ℕ → Type 0
IsNotLess i j k l = (j < l) ⊎ ((l ≡ j) × (i ≤ k))

-- a relation holds of the accesses i and j of a list, and of none of a lesser second, nor of the same
-- second and a lesser first
pub record IsLeastPair (bad : NumberedAccess → NumberedAccess → Bool) (us : List NumberedAccess) (i j : ℕ) : Type 0 where
  pub first : NumberedAccess
  pub second : NumberedAccess
  pub has_first : Contains us first
  pub has_second : Contains us second
  pub first_number : first.number ≡ i
  pub second_number : second.number ≡ j
  pub broken : bad first second ≡ true
  pub least : (u v : NumberedAccess) → Contains us u → Contains us v → bad u v ≡ true → IsNotLess i j u.number v.number

-- a byte of the read or fetch j is not its source's, which is the write i, or the image where that is 0;
-- the bytes below it are, and so is each byte of the accesses before j
pub record IsFirstWrong (image : ℕ → ℕ) (t : Times) (us : List NumberedAccess) (i j : ℕ) : Type 0 where
  pub second : NumberedAccess
  pub offset : ℕ
  pub has_second : Contains us second
  pub second_number : second.number ≡ j
  pub takes : takes_bytes second ≡ true
  pub inside : offset < second.access.size
  pub wrong : byte second.access.value offset ≢ right_byte image t us second offset
  pub source : source_of_byte t us second offset ≡ i
  pub lower : (k : ℕ) → k < offset → byte second.access.value k ≡ right_byte image t us second k
  pub earlier : (v : NumberedAccess) → Contains us v → v.number < j → HasSourcesIn image t us v

-- the write i stands between v and the LDx_L that v is paired with, and none of a lesser number does
pub record IsDisturbedBy (t : Times) (us : List NumberedAccess) (v : NumberedAccess) (i : ℕ) : Type 0 where
  pub lock : NumberedAccess
  pub first : NumberedAccess
  pub has_lock : Contains us lock
  pub has_first : Contains us first
  pub first_number : first.number ≡ i
  pub paired : IsPaired us lock v
  pub between : IsApart t lock v first → ⊥
  pub least : (w : NumberedAccess) → Contains us w → w.number < i → IsApart t lock v w

-- v is paired with no access of a list
abbrev pub IsUnpaired : List NumberedAccess → NumberedAccess → Type 0
IsUnpaired us v = (u : NumberedAccess) → Contains us u → IsPaired us u v → ⊥

-- the STx_C j succeeds and is not paired, where i is 0, or the write i disturbs it; those that succeed
-- before it have their locks
pub record IsFirstUnlocked (t : Times) (us : List NumberedAccess) (i j : ℕ) : Type 0 where
  pub second : NumberedAccess
  pub has_second : Contains us second
  pub second_number : second.number ≡ j
  pub success : is_success second.access ≡ true
  pub fault : ((i ≡ 0) × IsUnpaired us second) ⊎ IsDisturbedBy t us second i
  pub earlier : (v : NumberedAccess) → Contains us v → v.number < j → is_success v.access ≡ true → HasLockIn t us v
