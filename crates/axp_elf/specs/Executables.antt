-- The image that an executable is read as.
use Rattle.std.specs.Prelude.{◌≡◌, ℕ, ◌/◌, ◌%◌, ◌^◌, ◌<◌, ◌≤◌, if◌then◌else◌, List, length, Option, Some, None, is_none}
use Rattle.axp_image.specs.declared.limits.TheConstants.{PAGE_BYTES, MAX_MEMORY}
use Rattle.axp_image.specs.Contents.{Contents, contents, with_segment}
use Rattle.axp_image.specs.Faults.{number_in}
use Rattle.axp_elf.specs.declared.headers.ProgramHeader.{ProgramHeader}
use Rattle.axp_elf.specs.declared.layout.TheConstants.{ENTRY_AT}
use Rattle.axp_elf.specs.Headers.{has_bytes, header_in, headers_of, segment_in, segments_in}
use Rattle.axp_elf.specs.Faults.{Fault, first_fault, first_of, parts_of}

-- the contents with the bytes of one more header
abbrev pub with_header : List ℕ → Contents → ProgramHeader → Contents
with_header bytes c h = if has_bytes h then with_segment c (segment_in bytes h) else c

-- the fault of the header at an offset or of its bytes, where the headers before it filled the image and end at `from`
abbrev pub parts_fault : List ℕ → Contents → ℕ → ℕ → Option Fault
parts_fault bytes c from at = first_of (length bytes) (parts_of c.size from (length c.segments) at (header_in bytes at))

-- what the fields of a file say
abbrev pub image_in : List ℕ → ℕ → ℕ → ℕ → Contents
image_in bytes memory stack table = contents memory (number_in bytes ENTRY_AT 8) stack table (segments_in bytes (headers_of bytes))

-- a size of memory that an image may have, a stack word, and a page of memory
pub record IsSetting (memory stack table : ℕ) : Type 0 where
  pub whole_pages : memory % PAGE_BYTES ≡ 0
  pub least_memory : PAGE_BYTES ≤ memory
  pub most_memory : memory ≤ MAX_MEMORY
  pub stack_word : stack < 2 ^ 64
  pub table_page : table < memory / PAGE_BYTES

-- the image of a file, for this size of memory, stack word and page of the page table; none where the file has a fault
unfoldable pub image_of : List ℕ → ℕ → ℕ → ℕ → Option Contents
image_of bytes memory stack table = if is_none (first_fault bytes memory) then Some (image_in bytes memory stack table) else None
