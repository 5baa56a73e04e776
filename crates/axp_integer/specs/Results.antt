-- What the rows of the integer instructions are made of.
use Rattle.std.specs.Prelude.{ℕ, zero, suc, ℤ, pos, negsuc, ◌+◌, ◌%◌, ◌^◌, Bool, if◌then◌else◌, nat_le, int_lt}
use Rattle.std.specs.Int.{cast_signed, w32}
use Rattle.axp_base.specs.Numbers.{sign_extended, signed}
use Rattle.axp_base.specs.Parts.{byte}

-- the low longword, sign-extended, and the integer that it is
abbrev pub longword : ℕ → ℕ
longword x = sign_extended 32 x

abbrev pub signed_longword : ℕ → ℤ
signed_longword x = cast_signed w32 (x % 2 ^ 32)

-- the comparison of two integers
abbrev pub is_less : ℕ → ℕ → Bool
is_less a b = int_lt (signed a) (signed b)

-- a comparison's result
abbrev pub one_if : Bool → ℕ
one_if holds = if holds then 1 else 0

-- an integer lies outside of the signed numbers of h + 1 bits
unfoldable pub overflows : ℕ → ℤ → Bool
overflows h (pos n) = nat_le (2 ^ h) n
overflows h (negsuc n) = nat_le (2 ^ h) n

-- of the first n bytes: bit k is 1 where byte k of a is at least that of b
unfoldable pub bytes_at_least : ℕ → ℕ → ℕ → ℕ
bytes_at_least zero a b = 0
bytes_at_least (suc n) a b = bytes_at_least n a b + (if nat_le (byte b n) (byte a n) then 2 ^ n else 0)
