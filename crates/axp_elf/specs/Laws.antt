-- Where headers lie, and which byte of a file stands where in memory; and a program of one word.
use Rattle.std.specs.Prelude.{◌≡◌, ℕ, ◌+◌, ◌<◌, ◌≤◌, Bool, ◌&&◌, IsTrue, nat_le, nat_lt, List, [], ◌∷◌, ◌++◌, take, drop, slice_get, slice_index, Some}
use Rattle.axp_image.specs.declared.limits.TheConstants.{PAGE_BYTES, KSEG}
use Rattle.axp_image.specs.Contents.{Segment, Contents, contents, byte_in}
use Rattle.axp_elf.specs.declared.headers.ProgramHeader.{ProgramHeader}
use Rattle.axp_elf.specs.Headers.{headers_of, physical, memory_end, headers_with_bytes}

-- a header's bytes lie in the kernel's directly mapped memory, which has this size, and the file has no more of them
pub record IsInMemory (memory : ℕ) (h : ProgramHeader) : Type 0 where
  pub in_kernel : KSEG ≤ h.address
  pub within : memory_end h ≤ memory
  pub in_file : h.file_size ≤ h.memory_size

-- a header ends in memory at or below the start of another
abbrev pub EndsBelow : ProgramHeader → ProgramHeader → Type 0
EndsBelow h g = memory_end h ≤ physical g

-- a header's bytes in the file have this address
abbrev pub fills : ProgramHeader → ℕ → Bool
fills h address = nat_le (physical h) address && nat_lt address (physical h + h.file_size)

-- memory holds each byte that a header has in the file at its place
abbrev pub HasFileBytes : List ℕ → Contents → Type 0
HasFileBytes bytes c = (i k : ℕ) (h : ProgramHeader) → slice_get (headers_with_bytes (headers_of bytes)) i ≡ Some h → k < h.file_size
    → byte_in c.segments (physical h + k) ≡ slice_index bytes (h.offset + k)

-- memory is 0 at each address that no header's bytes in the file have, as behind them up to a header's size in memory
abbrev pub IsZeroElsewhere : List ℕ → Contents → Type 0
IsZeroElsewhere bytes c = (address : ℕ) → ((i : ℕ) (h : ProgramHeader) → slice_get (headers_with_bytes (headers_of bytes)) i ≡ Some h → IsTrue (fills h address) → ⊥)
    → byte_in c.segments address ≡ 0

-- the parts of a program of one word
abbrev pub file_header : List ℕ
file_header =
    0x7F ∷ 0x45 ∷ 0x4C ∷ 0x46 ∷ 2 ∷ 1 ∷ 1 ∷ 0 ∷ 0 ∷ 0 ∷ 0 ∷ 0 ∷ 0 ∷ 0 ∷ 0 ∷ 0 ∷ 2 ∷ 0 ∷ 0x26 ∷ 0x90 ∷ 1 ∷ 0 ∷ 0 ∷ 0 ∷ 0 ∷ 0 ∷ 0 ∷ 0 ∷ 0 ∷ 0xFC ∷ 0xFF ∷ 0xFF
    ∷ 0x40 ∷ 0 ∷ 0 ∷ 0 ∷ 0 ∷ 0 ∷ 0 ∷ 0 ∷ 0 ∷ 0 ∷ 0 ∷ 0 ∷ 0 ∷ 0 ∷ 0 ∷ 0 ∷ 0 ∷ 0 ∷ 0 ∷ 0 ∷ 0x40 ∷ 0 ∷ 0x38 ∷ 0 ∷ 1 ∷ 0 ∷ 0 ∷ 0 ∷ 0 ∷ 0 ∷ 0 ∷ 0 ∷ []

abbrev pub program_header : List ℕ
program_header =
    1 ∷ 0 ∷ 0 ∷ 0 ∷ 5 ∷ 0 ∷ 0 ∷ 0 ∷ 0x78 ∷ 0 ∷ 0 ∷ 0 ∷ 0 ∷ 0 ∷ 0 ∷ 0 ∷ 0 ∷ 0 ∷ 0 ∷ 0 ∷ 0 ∷ 0xFC ∷ 0xFF ∷ 0xFF ∷ 0 ∷ 0 ∷ 0 ∷ 0 ∷ 0 ∷ 0xFC ∷ 0xFF ∷ 0xFF
    ∷ 4 ∷ 0 ∷ 0 ∷ 0 ∷ 0 ∷ 0 ∷ 0 ∷ 0 ∷ 4 ∷ 0 ∷ 0 ∷ 0 ∷ 0 ∷ 0 ∷ 0 ∷ 0 ∷ 0 ∷ 0x20 ∷ 0 ∷ 0 ∷ 0 ∷ 0 ∷ 0 ∷ 0 ∷ []

-- a program of one word, which is 0, at the first address of memory
abbrev pub program : List ℕ
program = file_header ++ (program_header ++ (0 ∷ 0 ∷ 0 ∷ 0 ∷ []))

-- the same with another byte at one place
abbrev pub with_byte : ℕ → ℕ → List ℕ
with_byte at b = take at program ++ b ∷ drop (at + 1) program

-- one page of memory, started at its first address, with these segments
abbrev pub page_with : List Segment → Contents
page_with segments = contents PAGE_BYTES KSEG 0 0 segments
