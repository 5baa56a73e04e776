-- What a line says. A statement in the code has its name by a slice of the line, an item by its bytes.
use Rattle.std.specs.Prelude.{◌≡◌, ◌<◌, ℕ, ◌^◌, ◌==◌, Bool, true, false, ◌&&◌, List, [], ◌∷◌, Option, Some, None}
use Rattle.std.specs.List.{list_all}
use Rattle.std.specs.Char.{is_ascii_alphabetic, is_ascii_alphanumeric}
use Rattle.axp_decode.specs.Format.{FieldsFit}
use Rattle.axp_decode.specs.declared.instructions.Instr.{Instr}
use Rattle.axp_decode.specs.declared.instructions.Instr.TheVariants as instr
use Rattle.axp_decode.specs.declared.instructions.Operand.{Operand}
use Rattle.axp_decode.specs.declared.instructions.Operand.TheVariants.{Reg, Literal}
use Rattle.axp_decode.specs.declared.names.BranchOp.{BranchOp}
use Rattle.axp_source.specs.declared.statements.Directive.{Directive}
use Rattle.axp_source.specs.declared.statements.Directive.TheVariants as directive
use Rattle.axp_source.specs.declared.statements.Statement.{Statement}
use Rattle.axp_source.specs.declared.statements.Statement.TheVariants as code

pub data Item : Type 0 where
  -- what is said of the image or of its bytes
  Directs : Directive → Item
  -- the name of the place of what follows
  Label : List ℕ → Item
  -- an instruction with its displacement
  Instruction : Instr → Item
  -- a branch on register Ra to a label
  BranchTo : BranchOp → ℕ → List ℕ → Item

-- what a statement in the code says
abbrev pub item_in : Statement → Item
item_in (code.Directive d) = Directs d
item_in (code.Label name) = Label name.now
item_in (code.Instruction i) = Instruction i
item_in (code.BranchTo op a label) = BranchTo op a label.now

-- the statement that was read, if one was
abbrev pub item_read : Option Statement → Option Item
item_read None = None
item_read (Some s) = Some (item_in s)

-- ---- what has a line

-- the first byte is a letter
abbrev pub begins_with_letter : List ℕ → Bool
begins_with_letter [] = false
begins_with_letter (c ∷ cs) = is_ascii_alphabetic c

-- letters and digits, the first a letter
abbrev pub is_label : List ℕ → Bool
is_label name = begins_with_letter name && list_all is_ascii_alphanumeric name

-- an operand register has a line where its pad is 0
abbrev pub is_written_operand : Operand → Bool
is_written_operand (Reg n pad) = pad == 0
is_written_operand (Literal value) = true

-- an instruction has a line
abbrev pub is_written : Instr → Bool
is_written (instr.Operate op a b c) = is_written_operand b
is_written (instr.Floating word) = false
is_written (instr.Reserved word) = false
is_written _ = true

-- the number of a directive fits in its digits or in 64 bits
abbrev pub DirectiveFits : Directive → Type 0
DirectiveFits (directive.Memory m) = m < 2 ^ 64
DirectiveFits (directive.Entry x) = x < 2 ^ 64
DirectiveFits (directive.Stack x) = x < 2 ^ 64
DirectiveFits (directive.Table t) = t < 2 ^ 64
DirectiveFits (directive.At x) = x < 2 ^ 32
DirectiveFits (directive.Byte x) = x < 2 ^ 8
DirectiveFits (directive.Word x) = x < 2 ^ 32

-- the fields of a statement fit in their places, and it has a line
abbrev pub Fits : Item → Type 0
Fits (Directs d) = DirectiveFits d
Fits (Label name) = is_label name ≡ true
Fits (Instruction i) = FieldsFit i × (is_written i ≡ true)
Fits (BranchTo op a label) = (a < 2 ^ 5) × (is_label label ≡ true)
