-- Numbers of 64 bits.
use Rattle.std.specs.Prelude.{ℕ, ℤ, ◌+◌, ◌-◌, ◌*◌, ◌%◌, ◌^◌, Bool, nat_lt, nat_le, if◌then◌else◌}
use Rattle.std.specs.Int.{cast_signed, w64}

-- sum, difference and product modulo 2 ^ 64
abbrev pub add : ℕ → ℕ → ℕ
add a b = (a + b) % 2 ^ 64

abbrev pub sub : ℕ → ℕ → ℕ
sub a b = (a + (2 ^ 64 - b)) % 2 ^ 64

abbrev pub mul : ℕ → ℕ → ℕ
mul a b = a * b % 2 ^ 64

-- every bit the other way round
abbrev pub complement : ℕ → ℕ
complement a = 2 ^ 64 - 1 - a

-- the integer that the bits are in two's complement, and whether it is below 0
abbrev pub signed : ℕ → ℤ
signed a = cast_signed w64 a

abbrev pub is_negative : ℕ → Bool
is_negative a = nat_le (2 ^ 63) a

-- the low k bits, with bit k - 1 repeated above
unfoldable pub sign_extended : ℕ → ℕ → ℕ
sign_extended k x = if nat_lt (x % 2 ^ k) (2 ^ (k - 1)) then x % 2 ^ k else x % 2 ^ k + (2 ^ 64 - 2 ^ k)
