-- A line is seen as its number.
use Rattle.std.specs.Prelude.{ℕ, ◌%◌, ◌==◌, if◌then◌else◌, ◌≡◌, ◌*◌, ◌/◌, ◌^◌, nat_lt, Bool, true, false, not, refl}
use Rattle.axp_base.specs.declared.lines.Line.{Line}
use Rattle.axp_base.specs.declared.lines.Bank.{Bank}
use Rattle.axp_base.specs.declared.lines.Bank.TheVariants.{Even, Odd, Code}
use Rattle.axp_base.specs.declared.lines.TheConstants.{LINE_BYTES}

abbrev pub line_number : Line → ℕ
line_number l = l.number

-- a line of data belongs to the bank of its number modulo 2
abbrev pub data_bank : ℕ → Bank
data_bank n = if n % 2 == 0 then Even else Odd

-- the number of the line that an address is in
abbrev pub line_of : ℕ → ℕ
line_of address = address / LINE_BYTES

-- the line of this number, by the test whether its bytes have addresses; line 0 where they have none
abbrev pub line_by : (n : ℕ) (addressed : Bool) → nat_lt (n * LINE_BYTES) (2 ^ 64) ≡ addressed → Line
line_by n true h = record { number = n; addressed = h }
line_by n false h = record { number = 0; addressed = refl }

abbrev pub line_numbered : ℕ → Line
line_numbered n = line_by n (nat_lt (n * LINE_BYTES) (2 ^ 64)) refl

-- the line that an address is in
abbrev pub line_at : ℕ → Line
line_at address = line_numbered (line_of address)

abbrev pub is_line : ℕ → Line → Bool
is_line l k = line_number k == l

-- a line of this number belongs to this data bank
abbrev pub in_bank : Bank → ℕ → Bool
in_bank Even l = l % 2 == 0
in_bank Odd l = not (l % 2 == 0)
in_bank Code l = false

abbrev pub same_bank : Bank → Bank → Bool
same_bank Even Even = true
same_bank Odd Odd = true
same_bank Code Code = true
same_bank _ _ = false
