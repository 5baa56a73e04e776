-- What is wrong with an image file, in a person's words: the field at fault, its value and its limits.
use Rattle.std.specs.Prelude.{ℕ, ◌+◌, ◌/◌, List, ◌++◌, codes, decimal}
use Rattle.axp_explain.specs.declared.image_faults.TheConstants.{SIZE_AT, LENGTH_BEHIND, ZERO_BEHIND}
use Rattle.axp_image.specs.Faults.{number_in}
use Rattle.axp_image.specs.declared.faults.ImageKind.{ImageKind}
use Rattle.axp_image.specs.declared.faults.ImageKind.TheVariants as kind
use Rattle.axp_image.specs.declared.limits.TheConstants.{PAGE_BYTES}
use Rattle.axp_trace.specs.Digits.{hex}

abbrev pub version_words : ℕ → List ℕ
version_words version = codes "the version is " ++ decimal version ++ codes ": it must be 1"

abbrev pub count_words : ℕ → List ℕ
count_words count = codes "the number of segments is " ++ decimal count ++ codes ": it must be at most 64"

abbrev pub size_words : ℕ → List ℕ
size_words size = codes "the size of memory is " ++ decimal size ++ codes ": it must be a multiple of 8192 from 8192 to 16777216"

abbrev pub entry_words : ℕ → ℕ → List ℕ
entry_words entry size =
    codes "the entry address is " ++ hex 16 entry ++ codes ": it must be a multiple of 4 within the " ++ decimal size ++ codes " bytes from FFFFFC0000000000 on"

abbrev pub table_words : ℕ → ℕ → List ℕ
table_words table pages = codes "the page table begins on page " ++ decimal table ++ codes ": it must be one of the " ++ decimal pages ++ codes " pages of memory, counted from 0"

-- the record at an offset: where its segment is, how long it is and what the last word is, and the limits, by the size of memory
abbrev pub place_words : ℕ → ℕ → List ℕ
place_words at address = codes "the segment of the record at byte " ++ decimal at ++ codes " is at " ++ hex 16 address ++ codes ", "

abbrev pub extent_words : ℕ → ℕ → List ℕ
extent_words len last = codes "has the length " ++ decimal len ++ codes " and the last word " ++ decimal last ++ codes ": "

abbrev pub limit_words : ℕ → List ℕ
limit_words size = codes "it must begin at or behind the end of the segment before it, have a length of at least 1, end at " ++ decimal size ++ codes " or before, and have the last word 0"

abbrev pub segment_words : ℕ → ℕ → ℕ → ℕ → ℕ → List ℕ
segment_words at address len last size = place_words at address ++ extent_words len last ++ limit_words size

abbrev pub short_words : ℕ → List ℕ
short_words len = codes "the file ends after " ++ decimal len ++ codes " bytes, inside of a field, a record or the segments' bytes"

abbrev pub extra_words : ℕ → List ℕ
extra_words ends = codes "the file goes on behind the segments' bytes, which end at byte " ++ decimal ends

-- of a file with a fault of this kind at an offset
unfoldable pub image_words : List ℕ → ImageKind → ℕ → List ℕ
image_words bytes kind.Magic at = codes "the file does not begin with AXPI, as an image does"
image_words bytes kind.Version at = version_words (number_in bytes at 2)
image_words bytes kind.Count at = count_words (number_in bytes at 2)
image_words bytes kind.Size at = size_words (number_in bytes at 8)
image_words bytes kind.Entry at = entry_words (number_in bytes at 8) (number_in bytes SIZE_AT 8)
image_words bytes kind.Table at = table_words (number_in bytes at 8) (number_in bytes SIZE_AT 8 / PAGE_BYTES)
image_words bytes kind.Segment at = segment_words at (number_in bytes at 8) (number_in bytes (at + LENGTH_BEHIND) 4) (number_in bytes (at + ZERO_BEHIND) 4) (number_in bytes SIZE_AT 8)
image_words bytes kind.Short at = short_words at
image_words bytes kind.Extra at = extra_words at
