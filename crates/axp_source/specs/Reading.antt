-- What a line means. It is the text of a statement, if it is spelled just so. 32 is a blank, 40 a bracket, 44 a comma, 46 a
-- full stop, and 58 a colon.
use Rattle.std.specs.Prelude.{ℕ, ◌%◌, ◌^◌, if◌then◌else◌, List, [], ◌∷◌, codes, Option, Some, None}
use Rattle.std.specs.Str.{bytes_eq}
use Rattle.axp_trace.specs.Fields.{cut_at}
use Rattle.axp_decode.specs.declared.instructions.Instr.{Instr}
use Rattle.axp_decode.specs.declared.instructions.Instr.TheVariants as instr
use Rattle.axp_decode.specs.declared.names.MemOp.{MemOp}
use Rattle.axp_decode.specs.declared.names.BranchOp.{BranchOp}
use Rattle.axp_decode.specs.declared.names.MiscOp.{MiscOp}
use Rattle.axp_decode.specs.declared.names.PalOp.{PalOp}
use Rattle.axp_decode.specs.declared.names.Op.{Op}
use Rattle.axp_source.specs.Names.{memory_named, branch_named, operate_named, misc_named, pal_named, jump_named}
use Rattle.axp_source.specs.Items.{Item, Directs, Label, Instruction, BranchTo, is_label}
use Rattle.axp_source.specs.Texts.{register_text, instr_text, directive_text}
use Rattle.axp_source.specs.Fields.{number_in, hex_in, begins, register_in, signed_in, operand_in}
use Rattle.axp_source.specs.declared.numbers.TheConstants.{MEMORY_HALF, BRANCH_HALF}
use Rattle.axp_source.specs.declared.statements.Directive.{Directive}
use Rattle.axp_source.specs.declared.statements.Directive.TheVariants as directive

-- ---- directives

-- what a name and a word mean
abbrev pub directive_in : List ℕ → List ℕ → Option Directive
directive_in name word =
    if bytes_eq name (codes ".memory") then Some (directive.Memory (number_in word)) else
    if bytes_eq name (codes ".entry") then Some (directive.Entry (hex_in word)) else
    if bytes_eq name (codes ".stack") then Some (directive.Stack (hex_in word)) else
    if bytes_eq name (codes ".table") then Some (directive.Table (number_in word)) else
    if bytes_eq name (codes ".at") then Some (directive.At (hex_in word % 2 ^ 32)) else
    if bytes_eq name (codes ".byte") then Some (directive.Byte (hex_in word % 2 ^ 8)) else
    if bytes_eq name (codes ".word") then Some (directive.Word (hex_in word % 2 ^ 32)) else None

-- the directive, if the line is its text
abbrev pub directive_if : List ℕ → Option Directive → Option Item
directive_if line None = None
directive_if line (Some d) = if bytes_eq (directive_text d) line then Some (Directs d) else None

-- what both sides of the blank mean
abbrev pub directive_by : List ℕ → Option (List ℕ × List ℕ) → Option Item
directive_by line None = None
directive_by line (Some p) = directive_if line (directive_in p.0 p.1)

-- ---- instructions

-- the instruction, if the line is its text
abbrev pub instr_if : List ℕ → Option Instr → Option Item
instr_if line None = None
instr_if line (Some i) = if bytes_eq (instr_text i) line then Some (Instruction i) else None

-- of the memory format: register Ra, and both sides of the bracket
abbrev pub memory_by : MemOp → ℕ → Option (List ℕ × List ℕ) → Option Instr
memory_by op a None = None
memory_by op a (Some p) = Some (instr.Memory op a (register_in p.1) (signed_in MEMORY_HALF p.0))

-- a jump of a kind
abbrev pub jump_by : Option ℕ → ℕ → List ℕ → List ℕ → Option Instr
jump_by None a b hint = None
jump_by (Some kind) a b hint = Some (instr.Jump kind a (register_in b) (number_in hint % 2 ^ 14))

-- of three operands: of the operate format, or else a jump
abbrev pub three_by : Option Op → List ℕ → ℕ → List ℕ → List ℕ → Option Instr
three_by None name a b c = jump_by (jump_named name) a b c
three_by (Some op) name a b c = Some (instr.Operate op a (operand_in b) (register_in c))

-- both sides of the second comma
abbrev pub three_in : List ℕ → ℕ → Option (List ℕ × List ℕ) → Option Instr
three_in name a None = None
three_in name a (Some p) = three_by (operate_named name) name a p.0 p.1

-- a miscellaneous instruction, or else one of three operands
abbrev pub misc_by : Option MiscOp → List ℕ → ℕ → List ℕ → Option Instr
misc_by None name a rest = three_in name a (cut_at 44 rest)
misc_by (Some op) name a rest = Some (instr.Misc op a (register_in rest))

-- of the memory format, or else another
abbrev pub named_by : Option MemOp → List ℕ → ℕ → List ℕ → Option Instr
named_by None name a rest = misc_by (misc_named name) name a rest
named_by (Some op) name a rest = memory_by op a (cut_at 40 rest)

-- what the name, the first operand and the others mean, where the name is no branch's
abbrev pub instr_in : List ℕ → List ℕ → List ℕ → Option Instr
instr_in name first rest = named_by (memory_named name) name (register_in first) rest

-- a branch to a label, if its register is spelled so
abbrev pub branch_to : BranchOp → List ℕ → List ℕ → Option Item
branch_to op first label = if bytes_eq first (register_text (register_in first)) then Some (BranchTo op (register_in first) label) else None

-- a branch to a label, or by a displacement
abbrev pub branch_in : List ℕ → BranchOp → List ℕ → List ℕ → Option Item
branch_in line op first target =
    if is_label target then branch_to op first target else
    instr_if line (Some (instr.Branch op (register_in first) (signed_in BRANCH_HALF target)))

-- a branch, or else another
abbrev pub operands_by : List ℕ → Option BranchOp → List ℕ → List ℕ → List ℕ → Option Item
operands_by line None name first rest = instr_if line (instr_in name first rest)
operands_by line (Some op) name first rest = branch_in line op first rest

-- what a name and both sides of the first comma mean
abbrev pub operands_in : List ℕ → List ℕ → Option (List ℕ × List ℕ) → Option Item
operands_in line name None = None
operands_in line name (Some p) = operands_by line (branch_named name) name p.0 p.1

-- ---- one word

-- a call of PALcode
abbrev pub pal_by : Option PalOp → Option Item
pal_by None = None
pal_by (Some op) = Some (Instruction (instr.Pal op))

-- a label behind which nothing stands
abbrev pub label_by : List ℕ → List ℕ → Option Item
label_by name [] = if is_label name then Some (Label name) else None
label_by name (c ∷ cs) = None

-- a label, or else a call of PALcode
abbrev pub word_by : List ℕ → Option (List ℕ × List ℕ) → Option Item
word_by word None = pal_by (pal_named word)
word_by word (Some p) = label_by p.0 p.1

-- ---- the whole line

-- a line that is no directive, by both sides of its blank
abbrev pub plain_by : List ℕ → Option (List ℕ × List ℕ) → Option Item
plain_by line None = word_by line (cut_at 58 line)
plain_by line (Some p) = operands_in line p.0 (cut_at 44 p.1)

-- the statement that a line spells
unfoldable pub item_of : List ℕ → Option Item
item_of line = if begins 46 line then directive_by line (cut_at 32 line) else plain_by line (cut_at 32 line)
