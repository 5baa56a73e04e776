-- Numbers as digits, and digits as numbers.
use Rattle.std.specs.Prelude.{ℕ, suc, zero, ◌+◌, ◌-◌, ◌*◌, ◌/◌, ◌%◌, ◌^◌, ◌&&◌, nat_lt, nat_le, if◌then◌else◌, List, [], ◌∷◌, ◌++◌, length, Option, Some, None}
use Rattle.axp_trace.specs.declared.digits.TheConstants.{MOST_DIGITS}

-- one hexadecimal digit, in upper case
abbrev pub hex_digit : ℕ → ℕ
hex_digit d = if nat_lt d 10 then 48 + d else 55 + d

-- the lowest k hexadecimal digits of a number, the highest first
unfoldable pub hex : ℕ → ℕ → List ℕ
hex zero n = []
hex (suc k) n = hex_digit (n / 2 ^ (4 * k) % 16) ∷ hex k n

-- what a hexadecimal digit stands for; for any other byte some number below 16
abbrev pub hex_digit_value : ℕ → ℕ
hex_digit_value c = (if nat_lt c 65 then c - 48 else c - 55) % 16

-- the number that hexadecimal digits stand for, where those before them stand for acc
abbrev pub hex_value_after : ℕ → List ℕ → ℕ
hex_value_after acc [] = acc
hex_value_after acc (c ∷ cs) = hex_value_after (acc * 16 + hex_digit_value c) cs

abbrev pub hex_value : List ℕ → ℕ
hex_value cs = hex_value_after 0 cs

-- the number that decimal digits stand for, where those before them stand for acc
abbrev pub decimal_value_after : ℕ → List ℕ → ℕ
decimal_value_after acc [] = acc
decimal_value_after acc (c ∷ cs) = decimal_value_after (acc * 10 + (c - 48)) cs

-- the number that a word stands for if its bytes are decimal digits; none for more bytes than a number of a line has
abbrev pub number_of : List ℕ → Option ℕ
number_of word = if nat_le (length word) MOST_DIGITS then Some (decimal_value_after 0 word) else None

-- the number that a word stands for if its bytes are hexadecimal digits; none for more than this many bytes
abbrev pub hex_number_of : ℕ → List ℕ → Option ℕ
hex_number_of most word = if nat_le (length word) most then Some (hex_value word) else None

-- the number, where it is one of these
abbrev pub within : ℕ → ℕ → Option ℕ → Option ℕ
within least most None = None
within least most (Some n) = if nat_le least n && nat_le n most then Some n else None

-- the number of a word in decimal, from the least to the most
abbrev pub number_within : ℕ → ℕ → List ℕ → Option ℕ
number_within least most word = within least most (number_of word)

-- ---- bytes, each as two hexadecimal digits

abbrev pub hex_pairs : List ℕ → List ℕ
hex_pairs [] = []
hex_pairs (b ∷ bs) = hex 2 b ++ hex_pairs bs

-- the bytes that pairs of hexadecimal digits stand for
abbrev pub pairs_value : List ℕ → List ℕ
pairs_value [] = []
pairs_value (c ∷ []) = []
pairs_value (c ∷ d ∷ cs) = hex_value (c ∷ d ∷ []) ∷ pairs_value cs
