-- The fields of a line, read. What a word would mean is guessed without regard to its spelling, and is always in the
-- range of its field: the line is spelled again and compared. 35 is a number sign, 45 a minus sign, and 48 the digit 0.
use Rattle.std.specs.Prelude.{ℕ, ◌+◌, ◌-◌, ◌*◌, ◌%◌, ◌^◌, ◌==◌, Bool, false, if◌then◌else◌, List, [], ◌∷◌}
use Rattle.std.specs.Char.{is_ascii_digit}
use Rattle.axp_trace.specs.Digits.{hex_value}
use Rattle.axp_decode.specs.declared.instructions.Operand.{Operand}
use Rattle.axp_decode.specs.declared.instructions.Operand.TheVariants.{Reg, Literal}

-- the number of the digits so far and one more byte, which counts if it is a digit
abbrev pub digit_behind : ℕ → ℕ → ℕ
digit_behind n c = if is_ascii_digit c then n * 10 + (c - 48) else n

-- the same of more bytes
abbrev pub digits_behind : ℕ → List ℕ → ℕ
digits_behind n [] = n
digits_behind n (c ∷ cs) = digits_behind (digit_behind n c) cs

-- the number of the decimal digits among the bytes of a word, without what is above 64 bits
unfoldable pub number_in : List ℕ → ℕ
number_in word = digits_behind 0 word % 2 ^ 64

-- the number of hexadecimal digits, without what is above 64 bits
unfoldable pub hex_in : List ℕ → ℕ
hex_in word = hex_value word % 2 ^ 64

-- the word begins with this byte
abbrev pub begins : ℕ → List ℕ → Bool
begins byte [] = false
begins byte (b ∷ bs) = b == byte

-- the register that a word names
abbrev pub register_in : List ℕ → ℕ
register_in word = number_in word % 2 ^ 5

-- the bits of a displacement
abbrev pub signed_in : ℕ → List ℕ → ℕ
signed_in half word = if begins 45 word then (2 * half - number_in word % (2 * half)) % (2 * half) else number_in word % (2 * half)

-- the second operand of the operate format
abbrev pub operand_in : List ℕ → Operand
operand_in word = if begins 35 word then Literal (number_in word % 2 ^ 8) else Reg (register_in word) 0
