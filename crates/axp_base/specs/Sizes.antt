-- The sizes of a datum, in bytes and in bits.
use Rattle.std.specs.Prelude.{ℕ, ◌%◌, ◌^◌}
use Rattle.axp_base.specs.declared.sizes.Size.{Size}
use Rattle.axp_base.specs.declared.sizes.Size.TheVariants.{Byte, Word, Long, Quad}

abbrev pub bytes_of : Size → ℕ
bytes_of Byte = 1
bytes_of Word = 2
bytes_of Long = 4
bytes_of Quad = 8

abbrev pub bits_of : Size → ℕ
bits_of Byte = 8
bits_of Word = 16
bits_of Long = 32
bits_of Quad = 64

-- the low datum of a number
abbrev pub low_datum : Size → ℕ → ℕ
low_datum size x = x % 2 ^ bits_of size
