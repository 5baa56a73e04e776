-- Numbers as bytes, the lowest first.
use Rattle.std.specs.Prelude.{ℕ, zero, suc, ◌+◌, ◌*◌, ◌/◌, ◌%◌, ◌^◌, List, slice_index, slice_set}

-- byte n of a number
abbrev pub byte : ℕ → ℕ → ℕ
byte v n = v / 2 ^ (8 * n) % 2 ^ 8

-- the number of n bytes from an address on, where each address has this byte
unfoldable pub number_at : (ℕ → ℕ) → ℕ → ℕ → ℕ
number_at byte_at address zero = 0
number_at byte_at address (suc n) = number_at byte_at address n + byte_at (address + n) * 2 ^ (8 * n)

-- the number of n bytes of a list from an offset on
abbrev pub part : List ℕ → ℕ → ℕ → ℕ
part bytes offset n = number_at (slice_index bytes) offset n

-- the list after n bytes of a number are put from an offset on
unfoldable pub with_part : List ℕ → ℕ → ℕ → ℕ → List ℕ
with_part bytes offset zero v = bytes
with_part bytes offset (suc n) v = slice_set (with_part bytes offset n v) (offset + n) (byte v n)
