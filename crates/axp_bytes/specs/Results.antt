-- What the rows of the byte instructions are made of: a datum of this size in a quadword a, n bytes up.
use Rattle.std.specs.Prelude.{ℕ, zero, suc, ◌+◌, ◌-◌, ◌*◌, ◌/◌, ◌%◌, ◌^◌, if◌then◌else◌}
use Rattle.axp_base.specs.Masks.{has_bit}
use Rattle.axp_base.specs.Numbers.{sign_extended}
use Rattle.axp_base.specs.Parts.{byte}
use Rattle.axp_base.specs.Sizes.{bytes_of, low_datum}
use Rattle.axp_base.specs.declared.sizes.Size.{Size}

-- the low datum of a shifted right by n bytes, and of a shifted left by the bytes that are left of 8
abbrev pub extracted_low : Size → ℕ → ℕ → ℕ
extracted_low size a n = low_datum size (a / 2 ^ (8 * n))

abbrev pub extracted_high : Size → ℕ → ℕ → ℕ
extracted_high size a n = low_datum size (a * 2 ^ ((64 - 8 * n) % 64) % 2 ^ 64)

-- the low datum of a, n bytes up, as a number of 16 bytes; its low and its high quadword
abbrev pub moved_up : Size → ℕ → ℕ → ℕ
moved_up size a n = low_datum size a * 2 ^ (8 * n)

abbrev pub inserted_low : Size → ℕ → ℕ → ℕ
inserted_low size a n = moved_up size a n % 2 ^ 64

abbrev pub inserted_high : Size → ℕ → ℕ → ℕ
inserted_high size a n = moved_up size a n / 2 ^ 64

-- the bytes below byte n, and those from it on
abbrev pub below_byte : ℕ → ℕ → ℕ
below_byte a n = a % 2 ^ (8 * n)

abbrev pub from_byte : ℕ → ℕ → ℕ
from_byte a n = a / 2 ^ (8 * n) * 2 ^ (8 * n)

-- a with the bytes of the datum cleared, as far as they lie in the low quadword, and in the high one
abbrev pub masked_low : Size → ℕ → ℕ → ℕ
masked_low size a n = from_byte a (n + bytes_of size) + below_byte a n

abbrev pub masked_high : Size → ℕ → ℕ → ℕ
masked_high size a n = from_byte a (n + bytes_of size - 8)

-- the first n bytes of a, with each cleared whose bit of b is 1
unfoldable pub zapped : ℕ → ℕ → ℕ → ℕ
zapped zero a b = 0
zapped (suc n) a b = zapped n a b + (if has_bit b n then 0 else byte a n * 2 ^ (8 * n))

-- a shifted right by k bits, with the sign bit repeated above
abbrev pub shifted_arithmetic : ℕ → ℕ → ℕ
shifted_arithmetic a k = sign_extended (64 - k) (a / 2 ^ k)
