-- Which byte stands where, for the segments of an image; and the smallest image file.
use Rattle.std.specs.Prelude.{◌≡◌, ℕ, ◌+◌, ◌<◌, IsTrue, List, [], ◌∷◌, length, slice_get, slice_index, Some}
use Rattle.axp_image.specs.declared.limits.TheConstants.{PAGE_BYTES, KSEG}
use Rattle.axp_image.specs.Contents.{Segment, Contents, contents, covers, byte_in}

-- no byte of memory is in two segments
abbrev pub DoNotOverlap : List Segment → Type 0
DoNotOverlap segments = (i j : ℕ) (s t : Segment) (address : ℕ) → slice_get segments i ≡ Some s → slice_get segments j ≡ Some t
    → IsTrue (covers s address) → IsTrue (covers t address) → i ≡ j

-- memory holds each byte of each segment at its place
abbrev pub HaveTheirBytes : List Segment → Type 0
HaveTheirBytes segments = (i k : ℕ) (s : Segment) → slice_get segments i ≡ Some s → k < length s.bytes
    → byte_in segments (s.address + k) ≡ slice_index s.bytes k

-- memory is 0 at each address that no segment has
abbrev pub AreZeroElsewhere : List Segment → Type 0
AreZeroElsewhere segments = (address : ℕ) → ((i : ℕ) (s : Segment) → slice_get segments i ≡ Some s → IsTrue (covers s address) → ⊥)
    → byte_in segments address ≡ 0

-- the smallest image file: one page of zeros, which processors start at the first word of
abbrev pub smallest_file : List ℕ
smallest_file =
    0x41 ∷ 0x58 ∷ 0x50 ∷ 0x49 ∷ 1 ∷ 0 ∷ 0 ∷ 0 ∷ 0 ∷ 0x20 ∷ 0 ∷ 0 ∷ 0 ∷ 0 ∷ 0 ∷ 0
    ∷ 0 ∷ 0 ∷ 0 ∷ 0 ∷ 0 ∷ 0xFC ∷ 0xFF ∷ 0xFF ∷ 0 ∷ 0 ∷ 0 ∷ 0 ∷ 0 ∷ 0 ∷ 0 ∷ 0 ∷ 0 ∷ 0 ∷ 0 ∷ 0 ∷ 0 ∷ 0 ∷ 0 ∷ 0 ∷ []

abbrev pub smallest : Contents
smallest = contents PAGE_BYTES KSEG 0 0 []
