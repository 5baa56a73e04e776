-- The image files of version 1, and what each says. The fields are tested in order of their offsets,
-- the segments' records one by one, then the segments' bytes; the first test that fails decides.
use Rattle.std.specs.Prelude.{ℕ, zero, suc, ◌+◌, ◌-◌, ◌*◌, ◌/◌, ◌%◌, Bool, ◌==◌, ◌&&◌, nat_le, nat_lt, if◌then◌else◌, List, [], ◌∷◌, length, take, drop, Option, Some, None, option_and_then}
use Rattle.byteorder.specs.Endian.{little_number}
use Rattle.axp_image.specs.declared.limits.TheConstants.{PAGE_BYTES, MAX_MEMORY, MAX_SEGMENTS, KSEG, INSTRUCTION_BYTES}
use Rattle.axp_image.specs.declared.layout.TheConstants.{MAGIC, VERSION, MAGIC_AT, VERSION_AT, COUNT_AT, SIZE_AT, ENTRY_AT, STACK_AT, TABLE_AT, HEADER_BYTES, RECORD_BYTES, ADDRESS_AT, LENGTH_AT, ZERO_AT}
use Rattle.axp_image.specs.declared.reading.Header.{Header}
use Rattle.axp_image.specs.declared.reading.Extent.{Extent}
use Rattle.axp_image.specs.Contents.{Segment, Contents, segment_of, contents}

-- what follows a test is read where the test passed
infixl 10 ◌>>=◌
abbrev pub ◌>>=◌ : {A B : Type 0} → Option A → (A → Option B) → Option B
o >>= f = option_and_then f o

-- the n bytes from an offset, which must lie in the file
unfoldable pub piece_at : List ℕ → ℕ → ℕ → Option (List ℕ)
piece_at bytes at n = if nat_le (at + n) (length bytes) then Some (take n (drop at bytes)) else None

-- the number of n bytes at an offset
unfoldable pub number_at : List ℕ → ℕ → ℕ → Option ℕ
number_at bytes at n = do
  piece ← piece_at bytes at n
  Some (little_number n piece)

-- the field of n bytes at an offset, which must pass the test
abbrev pub field : List ℕ → ℕ → ℕ → (ℕ → Bool) → Option ℕ
field bytes at n good = do
  number ← number_at bytes at n
  if good number then Some number else None

abbrev pub is_memory_size : ℕ → Bool
is_memory_size n = (n % PAGE_BYTES == 0) && (nat_le PAGE_BYTES n && nat_le n MAX_MEMORY)

abbrev pub is_entry : ℕ → ℕ → Bool
is_entry size n = (n % INSTRUCTION_BYTES == 0) && (nat_le KSEG n && nat_le n (KSEG + size - INSTRUCTION_BYTES))

unfoldable pub header_of : List ℕ → Option Header
header_of bytes = do
  magic ← field bytes MAGIC_AT 4 (λ n. n == MAGIC)
  version ← field bytes VERSION_AT 2 (λ n. n == VERSION)
  count ← field bytes COUNT_AT 2 (λ n. nat_le n MAX_SEGMENTS)
  size ← field bytes SIZE_AT 8 is_memory_size
  entry ← field bytes ENTRY_AT 8 (is_entry size)
  stack ← number_at bytes STACK_AT 8
  table ← field bytes TABLE_AT 8 (λ n. nat_lt n (size / PAGE_BYTES))
  Some (record { count = count; size = size; entry = entry; stack = stack; table = table })

-- a record's segment has bytes, lies in memory and at or above `from`, and the last word is zero
abbrev pub is_extent : ℕ → ℕ → Extent → ℕ → Bool
is_extent size from e last = nat_le from e.address && (nat_le 1 e.length && (nat_le (e.address + e.length) size && (last == 0)))

abbrev pub extent : ℕ → ℕ → Extent
extent address len = record { address = address; length = len }

-- where the record at an offset puts its segment, in a memory of this size
unfoldable pub extent_at : List ℕ → ℕ → ℕ → ℕ → Option Extent
extent_at bytes size from at = do
  piece ← piece_at bytes at RECORD_BYTES
  address ← number_at piece ADDRESS_AT 8
  len ← number_at piece LENGTH_AT 4
  last ← number_at piece ZERO_AT 4
  if is_extent size from (extent address len) last then Some (extent address len) else None

-- the records from an offset on, each at or above the end of the one before it
unfoldable pub extents_at : List ℕ → ℕ → ℕ → ℕ → ℕ → Option (List Extent)
extents_at bytes size zero from at = Some []
extents_at bytes size (suc count) from at = do
  first ← extent_at bytes size from at
  others ← extents_at bytes size count (first.address + first.length) (at + RECORD_BYTES)
  Some (first ∷ others)

-- the segments whose bytes stand from an offset on, with nothing behind them
unfoldable pub segments_at : List ℕ → ℕ → List Extent → Option (List Segment)
segments_at bytes at [] = if nat_lt at (length bytes) then None else Some []
segments_at bytes at (e ∷ es) = do
  own ← piece_at bytes at e.length
  others ← segments_at bytes (at + e.length) es
  Some (segment_of e.address own ∷ others)

-- what a whole file says
unfoldable pub image_of : List ℕ → Option Contents
image_of bytes = do
  header ← header_of bytes
  extents ← extents_at bytes header.size header.count 0 HEADER_BYTES
  segments ← segments_at bytes (HEADER_BYTES + header.count * RECORD_BYTES) extents
  Some (contents header.size header.entry header.stack header.table segments)
