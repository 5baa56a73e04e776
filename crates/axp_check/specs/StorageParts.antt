-- What the parts of the search for wrong bytes ask for.
use Rattle.std.specs.Prelude.{◌≡◌, ℕ, true, Option, Some, None}
use Rattle.axp_access.specs.Kinds.{has_byte, is_memory_write}
use Rattle.axp_access.specs.Numbering.{NumberedAccess}

-- u is a memory write of the byte at an address
pub record WritesByte (at : ℕ) (u : NumberedAccess) : Type 0 where
  pub write : is_memory_write u.access ≡ true
  pub has : has_byte at u.access ≡ true

-- so a source is, where it is not the image
abbrev pub HasByteAt : ℕ → Option NumberedAccess → Type 0
HasByteAt at None = Unit {0}
HasByteAt at (Some u) = WritesByte at u
