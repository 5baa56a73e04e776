-- An image as it is filled, statement by statement.
use Rattle.std.specs.Prelude.{ℕ, ◌+◌, ◌==◌, Bool, true, false, ◌&&◌, ◌||◌, nat_le, nat_lt, if◌then◌else◌, List, [], ◌∷◌, ◌++◌, length, Option, Some, None, is_some, option_and_then}
use Rattle.std.specs.Option.{option_map_or}
use Rattle.std.specs.Int.{w32, to_le_bytes}
use Rattle.axp_image.specs.declared.limits.TheConstants.{MAX_SEGMENTS, INSTRUCTION_BYTES}
use Rattle.axp_image.specs.Contents.{Contents, Segment, segment_of, end_of, last_end, with_segment}
use Rattle.axp_decode.specs.Format.{word_of}
use Rattle.axp_decode.specs.declared.names.BranchOp.{BranchOp}
use Rattle.axp_decode.specs.declared.instructions.Instr.TheVariants as instr
use Rattle.axp_source.specs.Items.{Item, Directs, Label, Instruction, BranchTo}
use Rattle.axp_source.specs.declared.statements.Directive.{Directive}
use Rattle.axp_source.specs.declared.statements.Directive.TheVariants as directive
use Rattle.axp_asm.specs.declared.labels.Place.{Place}
use Rattle.axp_asm.specs.Labels.{Named, size_of, found, displacement}

pub record Draft : Type 0 where
  -- with the segments before the last
  pub image : Contents
  -- the segment that is being filled
  pub last : Option Segment

abbrev pub draft : Contents → Option Segment → Draft
draft image last = record { image = image; last = last }

-- the address behind all that stands
abbrev pub end_of_draft : Draft → ℕ
end_of_draft d = option_map_or end_of d.last (last_end d.image.segments)

-- an image with one more segment, if that has bytes
abbrev pub with_last : Contents → Option Segment → Contents
with_last image None = image
with_last image (Some s) = if length s.bytes == 0 then image else with_segment image s

-- the image of what stands
abbrev pub closed : Draft → Contents
closed d = with_last d.image d.last

-- a statement begins a segment
abbrev pub is_start : Item → Bool
is_start (Directs (directive.At x)) = true
is_start _ = false

-- some statement has bytes before the next that begins a segment
abbrev pub have_bytes : List (Option Item) → Bool
have_bytes [] = false
have_bytes (None ∷ rest) = false
have_bytes (Some item ∷ rest) = if is_start item then false else (nat_lt 0 (size_of item) || have_bytes rest)

-- a segment at an address may follow, of which these are the lines
abbrev pub may_begin : List (Option Item) → Draft → ℕ → Bool
may_begin rest d x = nat_le (end_of_draft d) x && (nat_lt x d.image.size && (nat_lt (length (closed d).segments) MAX_SEGMENTS && have_bytes rest))

abbrev pub with_start : List (Option Item) → Draft → ℕ → Option Draft
with_start rest d x = if may_begin rest d x then Some (draft (closed d) (Some (segment_of x []))) else None

-- with more bytes, where they lie in memory and in a segment
abbrev pub with_bytes_in : Contents → Option Segment → List ℕ → Option Draft
with_bytes_in image None bytes = None
with_bytes_in image (Some s) bytes =
    if nat_le (end_of s + length bytes) image.size then Some (draft image (Some (segment_of s.address (s.bytes ++ bytes)))) else None

abbrev pub with_bytes : Draft → List ℕ → Option Draft
with_bytes d bytes = with_bytes_in d.image d.last bytes

abbrev pub with_word : Draft → ℕ → Option Draft
with_word d word = with_bytes d (to_le_bytes w32 word)

-- the label's first place is on this line
abbrev pub is_on : ℕ → Option Place → Bool
is_on line None = false
is_on line (Some place) = place.line == line

abbrev pub with_label : List Named → ℕ → Draft → List ℕ → Option Draft
with_label labels line d name = if is_some d.last && is_on line (found name labels) then Some d else None

-- with a branch of this displacement
abbrev pub with_branch : Draft → BranchOp → ℕ → Option ℕ → Option Draft
with_branch d op a None = None
with_branch d op a (Some bits) = with_word d (word_of (instr.Branch op a bits))

-- the displacement from the end to a label
abbrev pub displacement_to : List Named → Draft → List ℕ → Option ℕ
displacement_to labels d label = option_and_then (λ (place : Place). displacement (end_of_draft d + INSTRUCTION_BYTES) place.address) (found label labels)

abbrev pub with_directive : List (Option Item) → Draft → Directive → Option Draft
with_directive rest d (directive.At x) = with_start rest d x
with_directive rest d (directive.Byte b) = with_bytes d (b ∷ [])
with_directive rest d (directive.Word w) = with_word d w
with_directive rest d (directive.Memory m) = None
with_directive rest d (directive.Entry x) = None
with_directive rest d (directive.Stack x) = None
with_directive rest d (directive.Table t) = None

-- what stands behind the statement of a line with a number, before other lines; none where the line is at fault
abbrev pub with_item : List Named → ℕ → List (Option Item) → Draft → Item → Option Draft
with_item labels line rest d (Directs said) = with_directive rest d said
with_item labels line rest d (Label name) = with_label labels line d name
with_item labels line rest d (Instruction i) = with_word d (word_of i)
with_item labels line rest d (BranchTo op a label) = with_branch d op a (displacement_to labels d label)
