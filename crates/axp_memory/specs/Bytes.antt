-- Memory is seen as the list of its bytes, a whole number of lines.
use Rattle.std.specs.Prelude.{◌≡◌, ◌≢◌, ℕ, ◌+◌, ◌-◌, ◌*◌, ◌/◌, ◌%◌, ◌<◌, ◌&&◌, nat_lt, nat_le, List, ◌++◌, length, take, drop, slice_index, if◌then◌else◌}
use Rattle.axp_base.specs.Masks.{has_bit}
use Rattle.axp_base.specs.declared.lines.TheConstants.{LINE_BYTES}
use Rattle.axp_image.specs.Contents.{Contents, byte_in}
use Rattle.axp_line.specs.Lines.{merged}

abbrev pub AreLines : List ℕ → Type 0
AreLines bytes = length bytes % LINE_BYTES ≡ 0

-- the memory is the image's
pub record IsLoaded (image : Contents) (memory : List ℕ) : Type 0 where
  pub size : length memory ≡ image.size
  pub bytes : (k : ℕ) → k < image.size → slice_index memory k ≡ byte_in image.segments k

-- the bytes of a line, from an address on
unfoldable pub bytes_at : ℕ → List ℕ → List ℕ
bytes_at at bytes = take LINE_BYTES (drop at bytes)

-- the bytes of the line of this number
abbrev pub line_in : ℕ → List ℕ → List ℕ
line_in line bytes = bytes_at (line * LINE_BYTES) bytes

-- the list with a piece in place of its bytes from an offset on
unfoldable pub spliced : ℕ → List ℕ → List ℕ → List ℕ
spliced at piece bytes = take at bytes ++ (piece ++ drop (at + length piece) bytes)

-- the bytes of a line from an address on are merged with those that a mask has
unfoldable pub merged_at : ℕ → ℕ → List ℕ → List ℕ → List ℕ
merged_at at mask from bytes = spliced at (merged mask from (bytes_at at bytes)) bytes

-- memory after the bytes that a mask has are written to the line of this number
abbrev pub written : ℕ → ℕ → List ℕ → List ℕ → List ℕ
written line mask from bytes = merged_at (line * LINE_BYTES) mask from bytes

-- the new list has the piece's bytes from an offset on, and else those of the old
pub record PutsPiece (old new : List ℕ) (at : ℕ) (piece : List ℕ) : Type 0 where
  pub size : length new ≡ length old
  pub bytes : (k : ℕ) → k < length old → slice_index new k ≡ (if nat_le at k && nat_lt k (at + length piece) then slice_index piece (k - at) else slice_index old k)

-- what a write leaves of each byte, where the line is in memory
pub record ChangesOneLine (line mask : ℕ) (from bytes : List ℕ) : Type 0 where
  pub whole_line : line_in line (written line mask from bytes) ≡ merged mask from (line_in line bytes)
  pub inside : (k : ℕ) → k / LINE_BYTES ≡ line → slice_index (written line mask from bytes) k ≡ (if has_bit mask (k % LINE_BYTES) then slice_index from (k % LINE_BYTES) else slice_index bytes k)
  pub outside : (k : ℕ) → k / LINE_BYTES ≢ line → slice_index (written line mask from bytes) k ≡ slice_index bytes k
  pub others : (other : ℕ) → other ≢ line → line_in other (written line mask from bytes) ≡ line_in other bytes
  pub size : length (written line mask from bytes) ≡ length bytes
