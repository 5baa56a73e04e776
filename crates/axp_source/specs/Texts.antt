-- The line of a statement, as bytes without the line feed. 32 is a blank, 35 a number sign, 40 and 41 are brackets, 44 is
-- a comma, 45 a minus sign, 58 a colon, and 82 the letter R.
use Rattle.std.specs.Prelude.{ℕ, ◌*◌, ◌-◌, nat_lt, if◌then◌else◌, List, [], ◌∷◌, ◌++◌, codes, decimal}
use Rattle.axp_trace.specs.Digits.{hex}
use Rattle.axp_decode.specs.declared.instructions.Instr.{Instr}
use Rattle.axp_decode.specs.declared.instructions.Instr.TheVariants as instr
use Rattle.axp_decode.specs.declared.instructions.Operand.{Operand}
use Rattle.axp_decode.specs.declared.instructions.Operand.TheVariants.{Reg, Literal}
use Rattle.axp_decode.specs.declared.names.BranchOp.{BranchOp}
use Rattle.axp_source.specs.Names.{memory_name, branch_name, operate_name, misc_name, pal_name, jump_name}
use Rattle.axp_source.specs.Items.{Item, Directs, Label, Instruction, BranchTo}
use Rattle.axp_source.specs.declared.numbers.TheConstants.{MEMORY_HALF, BRANCH_HALF}
use Rattle.axp_source.specs.declared.statements.Directive.{Directive}
use Rattle.axp_source.specs.declared.statements.Directive.TheVariants as directive

-- a register
abbrev pub register_text : ℕ → List ℕ
register_text n = 82 ∷ decimal n

-- a displacement, whose bits stand for a negative number from half of their range on
abbrev pub signed_text : ℕ → ℕ → List ℕ
signed_text half bits = if nat_lt bits half then decimal bits else 45 ∷ decimal (2 * half - bits)

-- the second operand of the operate format
abbrev pub operand_text : Operand → List ℕ
operand_text (Reg n pad) = register_text n
operand_text (Literal value) = 35 ∷ decimal value

-- what stands behind the name: registers, displacements and the like, with commas between them
abbrev pub memory_operands : ℕ → ℕ → ℕ → List ℕ
memory_operands a b disp = register_text a ++ 44 ∷ (signed_text MEMORY_HALF disp ++ 40 ∷ (register_text b ++ 41 ∷ []))

abbrev pub branch_operands : ℕ → List ℕ → List ℕ
branch_operands a target = register_text a ++ 44 ∷ target

abbrev pub jump_operands : ℕ → ℕ → ℕ → List ℕ
jump_operands a b hint = register_text a ++ 44 ∷ (40 ∷ (register_text b ++ 41 ∷ []) ++ 44 ∷ decimal hint)

abbrev pub operate_operands : ℕ → Operand → ℕ → List ℕ
operate_operands a b c = register_text a ++ 44 ∷ (operand_text b ++ 44 ∷ register_text c)

abbrev pub misc_operands : ℕ → ℕ → List ℕ
misc_operands a b = register_text a ++ 44 ∷ register_text b

-- an instruction; nothing for a word that stands in no table or is one of floating point
unfoldable pub instr_text : Instr → List ℕ
instr_text (instr.Memory op a b disp) = memory_name op ++ 32 ∷ memory_operands a b disp
instr_text (instr.Branch op a disp) = branch_name op ++ 32 ∷ branch_operands a (signed_text BRANCH_HALF disp)
instr_text (instr.Jump kind a b hint) = jump_name kind ++ 32 ∷ jump_operands a b hint
instr_text (instr.Operate op a b c) = operate_name op ++ 32 ∷ operate_operands a b c
instr_text (instr.Misc op a b) = misc_name op ++ 32 ∷ misc_operands a b
instr_text (instr.Pal op) = pal_name op
instr_text (instr.Floating word) = []
instr_text (instr.Reserved word) = []

-- a directive
unfoldable pub directive_text : Directive → List ℕ
directive_text (directive.Memory m) = codes ".memory " ++ decimal m
directive_text (directive.Entry x) = codes ".entry " ++ hex 16 x
directive_text (directive.Stack x) = codes ".stack " ++ hex 16 x
directive_text (directive.Table t) = codes ".table " ++ decimal t
directive_text (directive.At x) = codes ".at " ++ hex 8 x
directive_text (directive.Byte x) = codes ".byte " ++ hex 2 x
directive_text (directive.Word x) = codes ".word " ++ hex 8 x

-- a branch to a label
unfoldable pub branch_text : BranchOp → ℕ → List ℕ → List ℕ
branch_text op a label = branch_name op ++ 32 ∷ branch_operands a label

-- a label
unfoldable pub label_text : List ℕ → List ℕ
label_text name = name ++ 58 ∷ []

-- a statement
abbrev pub item_text : Item → List ℕ
item_text (Directs d) = directive_text d
item_text (Label name) = label_text name
item_text (Instruction i) = instr_text i
item_text (BranchTo op a label) = branch_text op a label
