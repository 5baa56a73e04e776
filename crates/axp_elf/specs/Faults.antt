-- The first fault of an executable. A file has parts: the fields of the file header in order of their offsets, and then
-- each program header, followed by its bytes where it has some. The first part that is not wholly in the file, or that is
-- wrong, names the fault.
use Rattle.std.specs.Prelude.{◌≡◌, ℕ, zero, suc, ◌+◌, Bool, ◌==◌, ◌&&◌, not, nat_le, if◌then◌else◌, List, [], ◌∷◌, ◌++◌, length, codes, Option, Some, None, option_map}
use Rattle.std.specs.Option.{option_or}
use Rattle.axp_image.specs.Grammar.{is_entry}
use Rattle.axp_image.specs.Faults.{number_in}
use Rattle.axp_elf.specs.declared.faults.ElfError.{ElfError}
use Rattle.axp_elf.specs.declared.faults.ElfError.TheVariants as error
use Rattle.axp_elf.specs.declared.faults.ElfField.{ElfField}
use Rattle.axp_elf.specs.declared.faults.ElfField.TheVariants as field
use Rattle.axp_elf.specs.declared.headers.ProgramHeader.{ProgramHeader}
use Rattle.axp_elf.specs.declared.layout.TheConstants.{MAGIC, CLASS, DATA, VERSION, EXECUTABLE, MACHINE, HEADER_BYTES, MAX_HEADERS, MAGIC_AT, CLASS_AT, DATA_AT, IDENTITY_AT, TYPE_AT, MACHINE_AT, VERSION_AT, ENTRY_AT, START_AT, HEADER_SIZE_AT, COUNT_AT}
use Rattle.axp_elf.specs.Headers.{header_in, header_at, headers_in, is_dynamic, is_loaded, has_bytes, is_placed, end_of_all, headers_with_bytes}

-- the word by which a fault is printed
abbrev pub field_name : ElfField → List ℕ
field_name field.Magic = codes "magic"
field_name field.Class = codes "class"
field_name field.Data = codes "data"
field_name field.Version = codes "version"
field_name field.Type = codes "type"
field_name field.Machine = codes "machine"
field_name field.Entry = codes "entry"
field_name field.Headers = codes "headers"
field_name field.Dynamic = codes "dynamic"
field_name field.Segment = codes "segment"
field_name field.Short = codes "short"

-- a fault: what is wrong, and the offset at which it lies
abbrev pub Fault : Type 0
Fault = ElfField × ℕ

-- a part of a file: its offset, its number of bytes, and what is wrong with these bytes, if anything is
pub record Part : Type 0 where
  pub at : ℕ
  pub size : ℕ
  pub wrong : Option ElfField

-- the part whose bytes must pass a test
abbrev pub tested_part : ℕ → ℕ → ElfField → Bool → Part
tested_part at size f passes = record { at = at; size = size; wrong = if passes then None else Some f }

-- the part whose bytes may be any
abbrev pub untested_part : ℕ → ℕ → Part
untested_part at size = record { at = at; size = size; wrong = None }

-- the part whose bytes must be this number
abbrev pub exact_part : List ℕ → ℕ → ℕ → ElfField → ℕ → Part
exact_part bytes at size f number = tested_part at size f (number_in bytes at size == number)

-- what is wrong with the part at an offset is a fault there
abbrev pub fault_at : ℕ → Option ElfField → Option Fault
fault_at at wrong = option_map (λ f. (f, at)) wrong

-- the fault of a part in a file of this length
abbrev pub fault_of : ℕ → Part → Option Fault
fault_of len p = if nat_le (p.at + p.size) len then fault_at p.at p.wrong else Some (field.Short, len)

-- the fault of the first part that has one
abbrev pub first_of : ℕ → List Part → Option Fault
first_of len [] = None
first_of len (p ∷ ps) = option_or (fault_of len p) (first_of len ps)

-- the fields of the file header
abbrev pub file_parts : List ℕ → ℕ → List Part
file_parts bytes memory =
    exact_part bytes MAGIC_AT 4 field.Magic MAGIC
    ∷ exact_part bytes CLASS_AT 1 field.Class CLASS
    ∷ exact_part bytes DATA_AT 1 field.Data DATA
    ∷ exact_part bytes IDENTITY_AT 1 field.Version VERSION
    ∷ exact_part bytes TYPE_AT 2 field.Type EXECUTABLE
    ∷ exact_part bytes MACHINE_AT 2 field.Machine MACHINE
    ∷ exact_part bytes VERSION_AT 4 field.Version VERSION
    ∷ tested_part ENTRY_AT 8 field.Entry (is_entry memory (number_in bytes ENTRY_AT 8))
    ∷ untested_part START_AT 8
    ∷ exact_part bytes HEADER_SIZE_AT 2 field.Headers HEADER_BYTES
    ∷ tested_part COUNT_AT 2 field.Headers (nat_le (number_in bytes COUNT_AT 2) MAX_HEADERS)
    ∷ []

-- what is wrong with a program header behind headers that end at `from`, of which `before` have bytes in the file
abbrev pub header_fault : ℕ → ℕ → ℕ → ProgramHeader → Option ElfField
header_fault memory from before h =
    if is_dynamic h then Some field.Dynamic else if is_loaded h && not (is_placed memory from before h) then Some field.Segment else None

-- a program header at an offset, and behind it its bytes
abbrev pub parts_of : ℕ → ℕ → ℕ → ℕ → ProgramHeader → List Part
parts_of memory from before at h =
    record { at = at; size = HEADER_BYTES; wrong = header_fault memory from before h }
    ∷ (if has_bytes h then untested_part h.offset h.file_size ∷ [] else [])

-- so many program headers from header n on, where the first stands at `start`
abbrev pub header_parts : List ℕ → ℕ → ℕ → ℕ → ℕ → List Part
header_parts bytes memory start n zero = []
header_parts bytes memory start n (suc left) =
    let earlier = headers_in bytes start n in
    let at = header_at start n in
    parts_of memory (end_of_all earlier) (length (headers_with_bytes earlier)) at (header_in bytes at) ++ header_parts bytes memory start (suc n) left

-- all parts of a file, for a memory of this size
abbrev pub parts_in : List ℕ → ℕ → List Part
parts_in bytes memory = file_parts bytes memory ++ header_parts bytes memory (number_in bytes START_AT 8) 0 (number_in bytes COUNT_AT 2)

-- the first fault of a file, for a memory of this size; none where the file is an executable that can be loaded
unfoldable pub first_fault : List ℕ → ℕ → Option Fault
first_fault bytes memory = first_of (length bytes) (parts_in bytes memory)

-- an error names this fault; want of memory may come at any time
abbrev pub Names : Option Fault → ElfError → Type 0
Names fault (error.Bad f offset) = fault ≡ Some (f, offset)
Names fault error.Memory = Unit {0}
