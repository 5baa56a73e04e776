-- The one file that says what an image says.
use Rattle.std.specs.Prelude.{ℕ, List, ◌++◌, length}
use Rattle.std.specs.List.{flat_map}
use Rattle.byteorder.specs.Endian.{little_bytes}
use Rattle.axp_image.specs.declared.layout.TheConstants.{MAGIC, VERSION}
use Rattle.axp_image.specs.Contents.{Segment, Contents}

-- a number as so many bytes, the lowest first
unfoldable pub number_bytes : ℕ → ℕ → List ℕ
number_bytes n x = little_bytes n x

-- the fields that say what the file is: magic number, version, number of segments
unfoldable pub format_bytes : ℕ → List ℕ
format_bytes count = number_bytes 4 MAGIC ++ (number_bytes 2 VERSION ++ number_bytes 2 count)

-- the fields before the records
unfoldable pub header_bytes : Contents → List ℕ
header_bytes c =
    format_bytes (length c.segments)
    ++ (number_bytes 8 c.size ++ (number_bytes 8 c.entry ++ (number_bytes 8 c.stack ++ number_bytes 8 c.table)))

-- a segment's record
unfoldable pub record_of : Segment → List ℕ
record_of s = number_bytes 8 s.address ++ (number_bytes 4 (length s.bytes) ++ number_bytes 4 0)

-- a segment's bytes
abbrev pub bytes_of : Segment → List ℕ
bytes_of s = s.bytes

-- the whole file
unfoldable pub spelling : Contents → List ℕ
spelling c = header_bytes c ++ (flat_map record_of c.segments ++ flat_map bytes_of c.segments)
