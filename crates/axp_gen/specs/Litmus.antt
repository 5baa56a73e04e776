-- The images of the litmus tests.
use Rattle.std.specs.Prelude.{ℕ, ◌+◌, ◌*◌, ◌^◌, List, [], ◌∷◌}
use Rattle.std.specs.Int.{to_le_bytes, w32, w64}
use Rattle.std.specs.List.{flat_map}
use Rattle.axp_image.specs.declared.limits.TheConstants.{KSEG}
use Rattle.axp_image.specs.Contents.{Contents, Segment, contents, segment_of, with_segment}
use Rattle.axp_gen.specs.declared.shapes.Shape.{Shape}
use Rattle.axp_gen.specs.declared.shapes.Shape.TheVariants.{Sb, Dl, Dm, Lock}
use Rattle.axp_gen.specs.Programs.{code_of}

-- the bytes of words in memory: of each word the lowest first
abbrev pub bytes_of : List ℕ → List ℕ
bytes_of words = flat_map (to_le_bytes w32) words

-- a quadword at an address
abbrev pub quadword_at : ℕ → ℕ → Segment
quadword_at address value = segment_of address (to_le_bytes w64 value)

-- these words of code in a memory of four pages, with the data behind its page
abbrev pub with_code : List ℕ → Contents
with_code words = contents 0x8000 (KSEG + 0x2000) (KSEG + 0x4000) 0 (segment_of 0x2000 (bytes_of words) ∷ [])

-- the same with a pointer where the data begin, to the second line behind its own
abbrev pub with_pointer : List ℕ → Contents
with_pointer words = with_segment (with_code words) (quadword_at 0x4000 (KSEG + 0x4080))

-- a page-table entry: the number of a page, and bits that say what may be done with it
abbrev pub table_entry : ℕ → ℕ → ℕ
table_entry page bits = page * 2 ^ 32 + bits

-- these words of code in a memory of eight pages, with a page table that maps virtual page 1 to page 7 for the kernel
abbrev pub with_table : List ℕ → Contents
with_table words = contents 0x10000 (KSEG + 0x2000) (KSEG + 0x8000) 3 (
    segment_of 0x2000 (bytes_of words)
    -- the first two levels: the entry is valid, and leads to the next level's page
    ∷ quadword_at 0x6000 (table_entry 5 1)
    ∷ quadword_at 0xA000 (table_entry 6 1)
    -- the second entry of the last: valid in every address space, read and written by the kernel
    ∷ quadword_at 0xC008 (table_entry 7 0x1111)
    ∷ [])

-- the image of a shape
unfoldable pub litmus_image : Shape → Contents
litmus_image Sb = with_code (code_of Sb)
litmus_image Dl = with_pointer (code_of Dl)
litmus_image Dm = with_pointer (code_of Dm)
litmus_image Lock = with_table (code_of Lock)
