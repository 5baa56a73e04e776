-- The first fault of a file. A file has parts, in order of their offsets: the header's fields, each segment's record, all
-- the segments' bytes together, and its end. The first part that is not wholly in the file, or does not pass its test,
-- names the fault.
use Rattle.std.specs.Prelude.{◌≡◌, ℕ, zero, suc, ◌+◌, ◌*◌, ◌/◌, Bool, ◌==◌, nat_le, nat_lt, if◌then◌else◌, List, [], ◌∷◌, ◌++◌, length, codes, Option, Some, None, option_map}
use Rattle.std.specs.Option.{option_or, unwrap_or}
use Rattle.axp_image.specs.declared.faults.ImageError.{ImageError}
use Rattle.axp_image.specs.declared.faults.ImageError.TheVariants as error
use Rattle.axp_image.specs.declared.faults.ImageKind.{ImageKind}
use Rattle.axp_image.specs.declared.faults.ImageKind.TheVariants as kind
use Rattle.axp_image.specs.declared.limits.TheConstants.{PAGE_BYTES, MAX_SEGMENTS}
use Rattle.axp_image.specs.declared.layout.TheConstants.{MAGIC, VERSION, MAGIC_AT, VERSION_AT, COUNT_AT, SIZE_AT, ENTRY_AT, STACK_AT, TABLE_AT, HEADER_BYTES, RECORD_BYTES, ADDRESS_AT, LENGTH_AT, ZERO_AT}
use Rattle.axp_image.specs.declared.reading.Extent.{Extent}
use Rattle.axp_image.specs.Grammar.{number_at, is_memory_size, is_entry, is_extent, extent}

-- the word by which a kind of fault is printed
abbrev pub kind_name : ImageKind → List ℕ
kind_name kind.Magic = codes "magic"
kind_name kind.Version = codes "version"
kind_name kind.Count = codes "count"
kind_name kind.Size = codes "size"
kind_name kind.Entry = codes "entry"
kind_name kind.Table = codes "table"
kind_name kind.Segment = codes "segment"
kind_name kind.Short = codes "short"
kind_name kind.Extra = codes "extra"

-- a fault: its kind, and the offset at which it lies
abbrev pub Fault : Type 0
Fault = ImageKind × ℕ

-- a part of a file: its offset, its number of bytes, and what is wrong with these bytes, if anything is
pub record Part : Type 0 where
  pub at : ℕ
  pub size : ℕ
  pub wrong : Option ImageKind

-- the part whose bytes must pass a test
abbrev pub tested : ℕ → ℕ → ImageKind → Bool → Part
tested at size kind passes = record { at = at; size = size; wrong = if passes then None else Some kind }

-- the part whose bytes may be any
abbrev pub untested : ℕ → ℕ → Part
untested at size = record { at = at; size = size; wrong = None }

-- the fault of a part in a file of this length
abbrev pub fault_of : ℕ → Part → Option Fault
fault_of len p = if nat_le (p.at + p.size) len then option_map (λ k. (k, p.at)) p.wrong else Some (kind.Short, len)

-- the fault of the first part that has one
abbrev pub first_of : ℕ → List Part → Option Fault
first_of len [] = None
first_of len (p ∷ ps) = option_or (fault_of len p) (first_of len ps)

-- the number of n bytes at an offset, 0 where the file ends before
abbrev pub number_in : List ℕ → ℕ → ℕ → ℕ
number_in bytes at n = unwrap_or (number_at bytes at n) 0

-- the header's fields
abbrev pub header_parts : List ℕ → List Part
header_parts bytes =
    let memory = number_in bytes SIZE_AT 8 in
    tested MAGIC_AT 4 kind.Magic (number_in bytes MAGIC_AT 4 == MAGIC)
    ∷ tested VERSION_AT 2 kind.Version (number_in bytes VERSION_AT 2 == VERSION)
    ∷ tested COUNT_AT 2 kind.Count (nat_le (number_in bytes COUNT_AT 2) MAX_SEGMENTS)
    ∷ tested SIZE_AT 8 kind.Size (is_memory_size memory)
    ∷ tested ENTRY_AT 8 kind.Entry (is_entry memory (number_in bytes ENTRY_AT 8))
    ∷ untested STACK_AT 8
    ∷ tested TABLE_AT 8 kind.Table (nat_lt (number_in bytes TABLE_AT 8) (memory / PAGE_BYTES))
    ∷ []

-- the offset of record n
abbrev pub record_at : ℕ → ℕ
record_at n = HEADER_BYTES + n * RECORD_BYTES

-- where the record at an offset puts its segment
abbrev pub extent_in : List ℕ → ℕ → Extent
extent_in bytes at = extent (number_in bytes (at + ADDRESS_AT) 8) (number_in bytes (at + LENGTH_AT) 4)

-- the end of the segment before segment n, 0 before the first
abbrev pub end_before : List ℕ → ℕ → ℕ
end_before bytes zero = 0
end_before bytes (suc n) = let e = extent_in bytes (record_at n) in e.address + e.length

-- the record at an offset, whose segment must lie in a memory of this size, at or above an address
abbrev pub record_part : List ℕ → ℕ → ℕ → ℕ → Part
record_part bytes memory from at = tested at RECORD_BYTES kind.Segment (is_extent memory from (extent_in bytes at) (number_in bytes (at + ZERO_AT) 4))

-- so many records, from record n on, in a memory of this size
abbrev pub record_parts : List ℕ → ℕ → ℕ → ℕ → List Part
record_parts bytes memory n zero = []
record_parts bytes memory n (suc count) = record_part bytes memory (end_before bytes n) (record_at n) ∷ record_parts bytes memory (suc n) count

-- where so many records, from record n on, put their segments
abbrev pub extents_in : List ℕ → ℕ → ℕ → List Extent
extents_in bytes n zero = []
extents_in bytes n (suc count) = extent_in bytes (record_at n) ∷ extents_in bytes (suc n) count

-- the number of bytes of all segments
abbrev pub total : List Extent → ℕ
total [] = 0
total (e ∷ es) = e.length + total es

-- the segments' bytes from an offset on, and the end of the file behind them
abbrev pub body_parts : ℕ → ℕ → List Extent → List Part
body_parts len start es =
    let ends = start + total es in
    untested start (total es) ∷ tested ends 0 kind.Extra (nat_le len ends) ∷ []

-- all parts of a file
abbrev pub parts_of : List ℕ → List Part
parts_of bytes =
    let count = number_in bytes COUNT_AT 2 in
    header_parts bytes ++ (record_parts bytes (number_in bytes SIZE_AT 8) 0 count ++ body_parts (length bytes) (record_at count) (extents_in bytes 0 count))

-- the first fault of a file; none where the file is an image
unfoldable pub first_fault : List ℕ → Option Fault
first_fault bytes = first_of (length bytes) (parts_of bytes)

-- an error names this fault; want of memory may come at any time
abbrev pub Names : Option Fault → ImageError → Type 0
Names fault (error.Bad k offset) = fault ≡ Some (k, offset)
Names fault error.Memory = Unit {0}
