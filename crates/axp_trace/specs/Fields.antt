-- The fields of a line, read. What a word would mean is guessed without regard to its spelling: the whole line is
-- spelled again and compared.
use Rattle.std.specs.Prelude.{◌≡◌, ℕ, ◌*◌, ◌/◌, ◌%◌, ◌^◌, nat_lt, ◌==◌, ◌&&◌, ◌||◌, Bool, true, false, if◌then◌else◌, List, [], ◌∷◌, codes, Option, Some, None, refl}
use Rattle.std.specs.Borrow.{Bor}
use Rattle.std.specs.Str.{bytes_eq}
use Rattle.std.specs.List.{slice_split}
use Rattle.axp_base.specs.Cpus.{cpu_of}
use Rattle.axp_base.specs.declared.lines.Bank.{Bank}
use Rattle.axp_base.specs.declared.lines.Bank.TheVariants.{Even, Odd, Code}
use Rattle.axp_base.specs.declared.lines.Line.{Line}
use Rattle.axp_base.specs.declared.lines.TheConstants.{LINE_BYTES}
use Rattle.axp_base.specs.declared.processors.Cpu.{Cpu}
use Rattle.axp_base.specs.declared.processors.TheConstants.{MAX_BUDGET}
use Rattle.axp_trace.specs.Digits.{number_of, hex_number_of, number_within}
use Rattle.axp_trace.specs.declared.digits.TheConstants.{ADDRESS_DIGITS}
use Rattle.axp_trace.specs.declared.fields.Moved.{Moved}
use Rattle.axp_trace.specs.declared.fields.TheConstants.{BLANK, MOST_NUMBER}

-- the words of a line, cut at each blank
abbrev pub words_of : List ℕ → List (List ℕ)
words_of line = slice_split (λ b. b == BLANK) line

-- both parts, with a byte more in front of the first
abbrev pub with_front : ℕ → Option (List ℕ × List ℕ) → Option (List ℕ × List ℕ)
with_front b None = None
with_front b (Some p) = Some (b ∷ p.0, p.1)

-- what stands before the first such byte, and what follows it
abbrev pub cut_at : ℕ → List ℕ → Option (List ℕ × List ℕ)
cut_at byte [] = None
cut_at byte (b ∷ bs) = if b == byte then Some ([], bs) else with_front b (cut_at byte bs)

-- both parts of a text that was cut
abbrev pub parts_of : Option (Bor (List ℕ) × Bor (List ℕ)) → Option (List ℕ × List ℕ)
parts_of None = None
parts_of (Some p) = Some (p.0.now, p.1.now)

-- the processor of a number
abbrev pub cpu_in : Option ℕ → Option Cpu
cpu_in None = None
cpu_in (Some n) = cpu_of n

-- the line of this number, by the test whether its bytes have addresses
abbrev pub line_by : (n : ℕ) (addressed : Bool) → nat_lt (n * LINE_BYTES) (2 ^ 64) ≡ addressed → Option Line
line_by n true h = Some (record { number = n; addressed = h })
line_by n false h = None

-- the line of this number, where its bytes have addresses
abbrev pub line_of_number : ℕ → Option Line
line_of_number n = line_by n (nat_lt (n * LINE_BYTES) (2 ^ 64)) refl

-- the line of the byte at an address
abbrev pub line_in : Option ℕ → Option Line
line_in None = None
line_in (Some address) = if nat_lt address (2 ^ 32) then line_of_number (address / LINE_BYTES) else None

-- the bank of a name
abbrev pub bank_in : List ℕ → Option Bank
bank_in name = if bytes_eq name (codes "d0") then Some Even else if bytes_eq name (codes "d1") then Some Odd else if bytes_eq name (codes "i") then Some Code else None

-- the data bank of a number
abbrev pub data_bank_in : Option ℕ → Option Bank
data_bank_in None = None
data_bank_in (Some n) = if n == 0 then Some Even else if n == 1 then Some Odd else None

-- the place or turn that a word names behind its first byte
abbrev pub turn_in : List ℕ → Option ℕ
turn_in [] = None
turn_in (sign ∷ digits) = number_within 0 MOST_NUMBER digits

-- the entry of a write buffer that a word names behind its first byte
abbrev pub entry_in : List ℕ → Option ℕ
entry_in [] = None
entry_in (sign ∷ digits) = number_within 1 MAX_BUDGET digits

-- an access may have so many bytes
abbrev pub is_size : ℕ → Bool
is_size n = n == 1 || n == 2 || n == 4 || n == 8

-- these bytes
abbrev pub moved_of : ℕ → ℕ → Option ℕ → Option Moved
moved_of address size None = None
moved_of address size (Some value) = Some (record { address = address; size = size; value = value })

-- the bytes of an access, if they lie at a multiple of their number; the last word has two digits for each
abbrev pub moved_in : Option ℕ → Option ℕ → List ℕ → Option Moved
moved_in None size word = None
moved_in (Some address) None word = None
moved_in (Some address) (Some size) word = if is_size size && address % size == 0 then moved_of address size (hex_number_of (2 * size) word) else None

-- the bytes that the words of an address, a size and a value name
abbrev pub data_in : List ℕ → List ℕ → List ℕ → Option Moved
data_in address size value = moved_in (hex_number_of ADDRESS_DIGITS address) (number_of size) value

-- no bytes of memory, but a number
abbrev pub bare_of : Option ℕ → Option Moved
bare_of None = None
bare_of (Some value) = Some (record { address = 0; size = 0; value = value })
