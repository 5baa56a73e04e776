-- The program headers of an executable, and what they say of memory.
use Rattle.std.specs.Prelude.{ℕ, zero, suc, ◌+◌, ◌-◌, ◌*◌, Bool, ◌==◌, ◌&&◌, ◌||◌, nat_le, nat_lt, if◌then◌else◌, List, [], ◌∷◌, ◌++◌, take, drop, map, filter, fold}
use Rattle.axp_image.specs.declared.limits.TheConstants.{KSEG, MAX_SEGMENTS}
use Rattle.axp_image.specs.Contents.{Segment, segment_of}
use Rattle.axp_image.specs.Faults.{number_in}
use Rattle.axp_elf.specs.declared.headers.ProgramHeader.{ProgramHeader}
use Rattle.axp_elf.specs.declared.layout.TheConstants.{HEADER_BYTES, START_AT, COUNT_AT, LOAD, DYNAMIC, INTERPRETER, KIND_AT, OFFSET_AT, ADDRESS_AT, FILE_SIZE_AT, MEMORY_SIZE_AT}

-- ---- the headers of a file

-- the header at an offset
unfoldable pub header_in : List ℕ → ℕ → ProgramHeader
header_in bytes at = record {
  kind = number_in bytes (at + KIND_AT) 4;
  offset = number_in bytes (at + OFFSET_AT) 8;
  address = number_in bytes (at + ADDRESS_AT) 8;
  file_size = number_in bytes (at + FILE_SIZE_AT) 8;
  memory_size = number_in bytes (at + MEMORY_SIZE_AT) 8;
}

-- the offset of header n, where the first stands at `start`
abbrev pub header_at : ℕ → ℕ → ℕ
header_at start n = start + n * HEADER_BYTES

-- the first n headers
abbrev pub headers_in : List ℕ → ℕ → ℕ → List ProgramHeader
headers_in bytes start zero = []
headers_in bytes start (suc n) = headers_in bytes start n ++ header_in bytes (header_at start n) ∷ []

-- all headers of a file
abbrev pub headers_of : List ℕ → List ProgramHeader
headers_of bytes = headers_in bytes (number_in bytes START_AT 8) (number_in bytes COUNT_AT 2)

-- ---- what a header says

-- it asks for dynamic linking, or for an interpreter that links
abbrev pub is_dynamic : ProgramHeader → Bool
is_dynamic h = (h.kind == DYNAMIC) || (h.kind == INTERPRETER)

-- it stands for bytes of memory; no other header says anything of the image
abbrev pub is_loaded : ProgramHeader → Bool
is_loaded h = (h.kind == LOAD) && nat_lt 0 h.memory_size

-- it is loaded, and the first of its bytes are the file's
abbrev pub has_bytes : ProgramHeader → Bool
has_bytes h = is_loaded h && nat_lt 0 h.file_size

-- the physical address of its first byte
abbrev pub physical : ProgramHeader → ℕ
physical h = h.address - KSEG

-- the physical address behind its last byte in memory
abbrev pub memory_end : ProgramHeader → ℕ
memory_end h = physical h + h.memory_size

-- a loaded header lies in the kernel's directly mapped memory, at or above `from`, and is not one too many with bytes in
-- the file, where `before` have some before it
abbrev pub is_placed : ℕ → ℕ → ℕ → ProgramHeader → Bool
is_placed memory from before h =
    nat_le h.file_size h.memory_size
    && (nat_le KSEG h.address && (nat_le (memory_end h) memory && (nat_le from (physical h) && (nat_lt before MAX_SEGMENTS || (h.file_size == 0)))))

-- ---- what headers say together

-- the end of the last loaded header, where those before this one end at `from`
abbrev pub end_past : ℕ → ProgramHeader → ℕ
end_past from h = if is_loaded h then memory_end h else from

-- the end of the last loaded header, 0 where there is none
abbrev pub end_of_all : List ProgramHeader → ℕ
end_of_all headers = fold end_past 0 headers

-- the loaded headers
abbrev pub loaded_headers : List ProgramHeader → List ProgramHeader
loaded_headers headers = filter is_loaded headers

-- the headers with bytes in the file
abbrev pub headers_with_bytes : List ProgramHeader → List ProgramHeader
headers_with_bytes headers = filter has_bytes headers

-- the bytes that a header has in the file, at its physical address
unfoldable pub segment_in : List ℕ → ProgramHeader → Segment
segment_in bytes h = segment_of (physical h) (take h.file_size (drop h.offset bytes))

-- the segments of an image: one for each header with bytes in the file, in order
abbrev pub segments_in : List ℕ → List ProgramHeader → List Segment
segments_in bytes headers = map (segment_in bytes) (headers_with_bytes headers)
