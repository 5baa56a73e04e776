-- Where the labels of a source stand, and how far a branch is from one.
use Rattle.std.specs.Prelude.{ℕ, ◌+◌, ◌-◌, ◌*◌, ◌/◌, ◌%◌, ◌==◌, ◌&&◌, nat_le, nat_lt, if◌then◌else◌, List, [], ◌∷◌, ◌++◌, Option, Some, None}
use Rattle.std.specs.Str.{bytes_eq}
use Rattle.axp_image.specs.declared.limits.TheConstants.{INSTRUCTION_BYTES}
use Rattle.axp_source.specs.Items.{Item, Directs, Label, Instruction, BranchTo}
use Rattle.axp_source.specs.declared.numbers.TheConstants.{BRANCH_HALF}
use Rattle.axp_source.specs.declared.statements.Directive.TheVariants as directive
use Rattle.axp_asm.specs.declared.labels.Place.{Place}

-- the bytes that a statement puts into memory
abbrev pub size_of : Item → ℕ
size_of (Directs (directive.Byte b)) = 1
size_of (Directs (directive.Word w)) = INSTRUCTION_BYTES
size_of (Instruction i) = INSTRUCTION_BYTES
size_of (BranchTo op a label) = INSTRUCTION_BYTES
size_of _ = 0

-- the address behind a statement that stands at an address
abbrev pub address_behind : ℕ → Item → ℕ
address_behind address (Directs (directive.At x)) = x
address_behind address item = address + size_of item

abbrev pub behind : ℕ → Option Item → ℕ
behind address None = address
behind address (Some item) = address_behind address item

-- a label: its name, and the line and address at which it stands
pub record Named : Type 0 where
  pub name : List ℕ
  pub place : Place

abbrev pub named : List ℕ → ℕ → ℕ → Named
named name line address = record { name = name; place = record { line = line; address = address } }

-- the label that a line is
abbrev pub label_on : ℕ → ℕ → Option Item → List Named
label_on line address (Some (Label name)) = named name line address ∷ []
label_on line address _ = []

-- the labels of lines from a number and an address on, in their order
abbrev pub labels_of : ℕ → ℕ → List (Option Item) → List Named
labels_of line address [] = []
labels_of line address (said ∷ rest) = label_on line address said ++ labels_of (line + 1) (behind address said) rest

-- where the first label of a name stands
abbrev pub found : List ℕ → List Named → Option Place
found name [] = None
found name (label ∷ rest) = if bytes_eq name label.name then Some label.place else found name rest

-- the bits of a displacement of so many bytes up or down; none where it is no whole number of words, or does not fit
abbrev pub bits_up : ℕ → Option ℕ
bits_up bytes = if (bytes % INSTRUCTION_BYTES == 0) && nat_lt (bytes / INSTRUCTION_BYTES) BRANCH_HALF then Some (bytes / INSTRUCTION_BYTES) else None

abbrev pub bits_down : ℕ → Option ℕ
bits_down bytes = if (bytes % INSTRUCTION_BYTES == 0) && nat_le (bytes / INSTRUCTION_BYTES) BRANCH_HALF then Some (2 * BRANCH_HALF - bytes / INSTRUCTION_BYTES) else None

-- the bits of the displacement by which a branch leads from the address behind it to another
unfoldable pub displacement : ℕ → ℕ → Option ℕ
displacement from target = if nat_le from target then bits_up (target - from) else bits_down (from - target)
