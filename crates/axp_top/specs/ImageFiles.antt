-- What a command prints that turns a source into an image file, or an image into its listing.
use Rattle.std.specs.Prelude.{ℕ, nat_lt, List, [], ◌∷◌, length, Option, Some, None, Result, Ok, Err, if◌then◌else◌}
use Rattle.axp_asm.specs.Listings.{listing}
use Rattle.axp_asm.specs.Sources.{assembled}
use Rattle.axp_asm.specs.declared.layout.TheConstants.{MAX_SOURCE}
use Rattle.axp_elf.specs.Executables as executables
use Rattle.axp_elf.specs.Faults as elf_faults
use Rattle.axp_image.specs.Contents.{Contents}
use Rattle.axp_image.specs.Spelling.{spelling}
use Rattle.axp_io.specs.Causes.{Ask}
use Rattle.axp_top.specs.declared.limits.TheConstants.{MAX_IMAGE_BYTES}
use Rattle.axp_top.specs.declared.status.Status.TheVariants as status
use Rattle.axp_top.specs.Replays.{Answer, answer_in_one_line}
use Rattle.axp_top.specs.Words.{Asm, Elf, SourceOrder}
use Rattle.axp_trace.specs.Executables.{bad_elf_line}
use Rattle.axp_trace.specs.Lines.{too_long_line}
use Rattle.axp_trace.specs.Sources.{bad_source_line}

-- the image file, as one piece
abbrev pub image_answer : Contents → Answer
image_answer c = record { status = status.Done; lines = spelling c ∷ [] }

abbrev pub bad_elf : elf_faults.Fault → Answer
bad_elf f = answer_in_one_line (status.BadElf f.0 f.1) (bad_elf_line (elf_faults.field_name f.0) f.1)

-- by the first fault of an executable; without one it is read as an image
abbrev pub elf_answer_by : Option elf_faults.Fault → Contents → Answer
elf_answer_by (Some f) c = bad_elf f
elf_answer_by None c = image_answer c

abbrev pub elf_answer : List ℕ → ℕ → ℕ → ℕ → Answer
elf_answer bytes memory stack table = elf_answer_by (elf_faults.first_fault bytes memory) (executables.image_in bytes memory stack table)

abbrev pub bad_source : ℕ → Answer
bad_source line = answer_in_one_line (status.BadSource line) (bad_source_line line)

-- by the image that an assembler source gives, or its line at fault
abbrev pub asm_answer_by : Result Contents ℕ → Answer
asm_answer_by (Ok c) = image_answer c
asm_answer_by (Err line) = bad_source line

abbrev pub asm_answer : List ℕ → Answer
asm_answer text = asm_answer_by (assembled text)

abbrev pub too_long_source : Answer
too_long_source = answer_in_one_line status.TooLong too_long_line

-- the most bytes of a source
abbrev pub source_limit : SourceOrder → ℕ
source_limit (Elf path memory stack table) = MAX_IMAGE_BYTES
source_limit (Asm path) = MAX_SOURCE

-- the answer by a source within its limit
abbrev pub answer_of_source : SourceOrder → List ℕ → Answer
answer_of_source (Elf path memory stack table) bytes = elf_answer bytes memory stack table
answer_of_source (Asm path) bytes = asm_answer bytes

-- the answer by the source
abbrev pub source_answer : SourceOrder → List ℕ → Answer
source_answer source bytes = if nat_lt (source_limit source) (length bytes) then too_long_source else answer_of_source source bytes

-- the name of the source, and what is asked of the desk
abbrev pub source_name : SourceOrder → List ℕ
source_name (Elf path memory stack table) = path
source_name (Asm path) = path

abbrev pub source_ask : SourceOrder → Ask
source_ask source = (source_name source, source_limit source)

-- ---- and back: the listing of an image, as one piece

abbrev pub listing_answer : Contents → Answer
listing_answer c = record { status = status.Done; lines = listing c ∷ [] }
