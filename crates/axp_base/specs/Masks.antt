-- A mask is seen as the number of its bits.
use Rattle.std.specs.Prelude.{ℕ, ◌-◌, ◌*◌, ◌/◌, ◌%◌, ◌^◌, ◌≡◌, ◌⊎◌, ◌==◌, Bool}
use Rattle.axp_base.specs.declared.lines.TheConstants.{LINE_BYTES}
use Rattle.axp_base.specs.declared.masks.Mask.{Mask}

abbrev pub mask_bits : Mask → ℕ
mask_bits m = m.0

-- how many bytes an access takes
abbrev pub IsSize : ℕ → Type 0
IsSize size = (size ≡ 1) ⊎ ((size ≡ 2) ⊎ ((size ≡ 4) ⊎ (size ≡ 8)))

-- the bits of the bytes that an access of this size at this address takes of its line
abbrev pub span_of : ℕ → ℕ → ℕ
span_of address size = (2 ^ size - 1) * 2 ^ (address % LINE_BYTES)

-- bit n of a number is 1
abbrev pub has_bit : ℕ → ℕ → Bool
has_bit m n = m / 2 ^ n % 2 == 1
