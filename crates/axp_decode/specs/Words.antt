-- The instruction that a word stands for, said by the tables' numbers alone: no search, and no order
-- among the formats.
use Rattle.std.specs.Prelude.{◌≡◌, ◌≢◌, ℕ, true, false}
use Rattle.axp_decode.specs.Table.{memory_number, branch_number, misc_number, pal_number, operate_opcode, operate_function}
use Rattle.axp_decode.specs.Format.{opcode_of, ra_of, rb_of, rc_of, function_of, displacement_of, branch_displacement_of, kind_of, hint_of, function_code_of, pal_function_of, operand_of, is_floating}
use Rattle.axp_decode.specs.declared.numbers.TheConstants.{JUMP_OPCODE, MISC_OPCODE, PAL_OPCODE}
use Rattle.axp_decode.specs.declared.instructions.Instr.{Instr}
use Rattle.axp_decode.specs.declared.instructions.Instr.TheVariants.{Memory, Branch, Jump, Operate, Misc, Pal, Floating, Reserved}
use Rattle.axp_decode.specs.declared.names.MemOp.{MemOp}
use Rattle.axp_decode.specs.declared.names.BranchOp.{BranchOp}
use Rattle.axp_decode.specs.declared.names.MiscOp.{MiscOp}
use Rattle.axp_decode.specs.declared.names.PalOp.{PalOp}
use Rattle.axp_decode.specs.declared.names.Op.{Op}

-- no name of any table has the word's numbers, and its opcode is neither the jumps' nor a floating one
pub record IsInNoTable (w : ℕ) : Type 0 where
  pub memory : (op : MemOp) → opcode_of w ≢ memory_number op
  pub branch : (op : BranchOp) → opcode_of w ≢ branch_number op
  pub operate : (op : Op) → opcode_of w ≡ operate_opcode op → function_of w ≢ operate_function op
  pub jump : opcode_of w ≢ JUMP_OPCODE
  pub misc : (op : MiscOp) → opcode_of w ≡ MISC_OPCODE → function_code_of w ≢ misc_number op
  pub pal : (op : PalOp) → opcode_of w ≡ PAL_OPCODE → pal_function_of w ≢ pal_number op
  pub floating : is_floating (opcode_of w) ≡ false

-- the word has the numbers of the instruction's name, and its fields
abbrev pub StandsFor : ℕ → Instr → Type 0
StandsFor w (Memory op a b disp) = (opcode_of w ≡ memory_number op) × (ra_of w ≡ a) × (rb_of w ≡ b) × (displacement_of w ≡ disp)
StandsFor w (Branch op a disp) = (opcode_of w ≡ branch_number op) × (ra_of w ≡ a) × (branch_displacement_of w ≡ disp)
StandsFor w (Jump kind a b hint) = (opcode_of w ≡ JUMP_OPCODE) × (kind_of w ≡ kind) × (ra_of w ≡ a) × (rb_of w ≡ b) × (hint_of w ≡ hint)
StandsFor w (Operate op a b c) = (opcode_of w ≡ operate_opcode op) × (function_of w ≡ operate_function op) × (ra_of w ≡ a) × (operand_of w ≡ b) × (rc_of w ≡ c)
StandsFor w (Misc op a b) = (opcode_of w ≡ MISC_OPCODE) × (function_code_of w ≡ misc_number op) × (ra_of w ≡ a) × (rb_of w ≡ b)
StandsFor w (Pal op) = (opcode_of w ≡ PAL_OPCODE) × (pal_function_of w ≡ pal_number op)
StandsFor w (Floating word) = (is_floating (opcode_of w) ≡ true) × (w ≡ word)
StandsFor w (Reserved word) = IsInNoTable w × (w ≡ word)
