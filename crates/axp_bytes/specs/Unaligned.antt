-- A datum that stands n bytes up in a quadword and may reach into the next one.
use Rattle.std.specs.Prelude.{ℕ, ◌+◌, ◌*◌, ◌^◌}
use Rattle.std.specs.Int.Bits.{bit_or}
use Rattle.axp_base.specs.Sizes.{bytes_of}
use Rattle.axp_base.specs.declared.sizes.Size.{Size}
use Rattle.axp_bytes.specs.Results.{extracted_low, extracted_high, moved_up, inserted_low, inserted_high, below_byte, from_byte, masked_low, masked_high}

-- two quadwords one after the other, as a number of 16 bytes
abbrev pub joined : ℕ → ℕ → ℕ
joined first last = first + last * 2 ^ 64

-- what extract low of the first quadword, extract high of the last and BIS (a bitwise or) put together
abbrev pub loaded : Size → ℕ → ℕ → ℕ → ℕ
loaded size first last n = bit_or (extracted_low size first n) (extracted_high size last n)

-- the first and the last quadword after mask, insert and BIS
abbrev pub stored_first : Size → ℕ → ℕ → ℕ → ℕ
stored_first size first datum n = bit_or (masked_low size first n) (inserted_low size datum n)

abbrev pub stored_last : Size → ℕ → ℕ → ℕ → ℕ
stored_last size last datum n = bit_or (masked_high size last n) (inserted_high size datum n)

-- a with its bytes from byte n on, as many as the size has, replaced by the low ones of datum
abbrev pub replaced : Size → ℕ → ℕ → ℕ → ℕ
replaced size a datum n = from_byte a (n + bytes_of size) + moved_up size datum n + below_byte a n
