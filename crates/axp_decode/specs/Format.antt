-- The formats of an instruction word of 32 bits, both ways, as in section 3.3 of the Alpha Architecture
-- Reference Manual. A displacement is kept as the bits of the word.
use Rattle.std.specs.Prelude.{◌≡◌, ◌<◌, ℕ, ◌+◌, ◌*◌, ◌/◌, ◌%◌, ◌^◌, Option, Some, None, Bool, ◌==◌, nat_le, ◌||◌, ◌&&◌, if◌then◌else◌}
use Rattle.axp_decode.specs.Table.{memory_number, memory_of, branch_number, branch_of, misc_number, misc_of, pal_number, pal_of, operate_opcode, operate_function, operate_of}
use Rattle.axp_decode.specs.declared.numbers.TheConstants.{JUMP_OPCODE, MISC_OPCODE, PAL_OPCODE}
use Rattle.axp_decode.specs.declared.instructions.Operand.{Operand}
use Rattle.axp_decode.specs.declared.instructions.Operand.TheVariants.{Reg, Literal}
use Rattle.axp_decode.specs.declared.instructions.Instr.{Instr}
use Rattle.axp_decode.specs.declared.instructions.Instr.TheVariants.{Memory, Branch, Jump, Operate, Misc, Pal, Floating, Reserved}

-- bits 31:26
abbrev pub opcode_of : ℕ → ℕ
opcode_of w = w / 2 ^ 26

-- bits 25:21
abbrev pub ra_of : ℕ → ℕ
ra_of w = w / 2 ^ 21 % 2 ^ 5

-- bits 20:16
abbrev pub rb_of : ℕ → ℕ
rb_of w = w / 2 ^ 16 % 2 ^ 5

-- bits 4:0
abbrev pub rc_of : ℕ → ℕ
rc_of w = w % 2 ^ 5

-- bits 11:5
abbrev pub function_of : ℕ → ℕ
function_of w = w / 2 ^ 5 % 2 ^ 7

-- bits 15:0
abbrev pub displacement_of : ℕ → ℕ
displacement_of w = w % 2 ^ 16

-- bits 20:0
abbrev pub branch_displacement_of : ℕ → ℕ
branch_displacement_of w = w % 2 ^ 21

-- bits 15:14
abbrev pub kind_of : ℕ → ℕ
kind_of w = w / 2 ^ 14 % 4

-- bits 13:0
abbrev pub hint_of : ℕ → ℕ
hint_of w = w % 2 ^ 14

-- bits 15:0, which tell the miscellaneous instructions apart
abbrev pub function_code_of : ℕ → ℕ
function_code_of w = w % 2 ^ 16

-- bits 25:0
abbrev pub pal_function_of : ℕ → ℕ
pal_function_of w = w % 2 ^ 26

-- Rb and bits 15:13, or where bit 12 is 1 the literal in bits 20:13
unfoldable pub operand_of : ℕ → Operand
operand_of w =
    if w / 2 ^ 12 % 2 == 1 then Literal (w / 2 ^ 13 % 2 ^ 8) else Reg (rb_of w) (w / 2 ^ 13 % 2 ^ 3)

-- the operand in its place
unfoldable pub operand_bits : Operand → ℕ
operand_bits (Reg n pad) = n % 2 ^ 5 * 2 ^ 16 + pad % 2 ^ 3 * 2 ^ 13
operand_bits (Literal value) = value % 2 ^ 8 * 2 ^ 13 + 2 ^ 12

-- the opcodes of floating point
unfoldable pub is_floating : ℕ → Bool
is_floating n = (nat_le 0x15 n && nat_le n 0x17) || (nat_le 0x20 n && nat_le n 0x27) || (nat_le 0x31 n && nat_le n 0x33) || (nat_le 0x35 n && nat_le n 0x37)

-- the instruction of a row that is found, else another
abbrev pub named : {A : Type 0} → Option A → (A → Instr) → Instr → Instr
named None f i = i
named (Some x) f i = f x

-- the instruction of a word
unfoldable pub instr_of : ℕ → Instr
instr_of w =
    named (memory_of (opcode_of w)) (λ op. Memory op (ra_of w) (rb_of w) (displacement_of w)) (
    named (branch_of (opcode_of w)) (λ op. Branch op (ra_of w) (branch_displacement_of w)) (
    named (operate_of (opcode_of w) (function_of w)) (λ op. Operate op (ra_of w) (operand_of w) (rc_of w)) (
    if opcode_of w == JUMP_OPCODE then Jump (kind_of w) (ra_of w) (rb_of w) (hint_of w) else (
    if opcode_of w == MISC_OPCODE then named (misc_of (function_code_of w)) (λ op. Misc op (ra_of w) (rb_of w)) (Reserved w) else (
    if opcode_of w == PAL_OPCODE then named (pal_of (pal_function_of w)) (λ op. Pal op) (Reserved w) else (
    if is_floating (opcode_of w) then Floating w else Reserved w))))))

-- the word of an instruction
unfoldable pub word_of : Instr → ℕ
word_of (Memory op a b disp) = memory_number op * 2 ^ 26 + a % 2 ^ 5 * 2 ^ 21 + b % 2 ^ 5 * 2 ^ 16 + disp
word_of (Branch op a disp) = branch_number op * 2 ^ 26 + a % 2 ^ 5 * 2 ^ 21 + disp % 2 ^ 21
word_of (Jump kind a b hint) = JUMP_OPCODE * 2 ^ 26 + a % 2 ^ 5 * 2 ^ 21 + b % 2 ^ 5 * 2 ^ 16 + kind % 4 * 2 ^ 14 + hint % 2 ^ 14
word_of (Operate op a b c) = operate_opcode op * 2 ^ 26 + a % 2 ^ 5 * 2 ^ 21 + operand_bits b + operate_function op * 2 ^ 5 + c % 2 ^ 5
word_of (Misc op a b) = MISC_OPCODE * 2 ^ 26 + a % 2 ^ 5 * 2 ^ 21 + b % 2 ^ 5 * 2 ^ 16 + misc_number op
word_of (Pal op) = PAL_OPCODE * 2 ^ 26 + pal_number op
word_of (Floating word) = word
word_of (Reserved word) = word

-- the fields of an operand fit in their places
abbrev pub OperandFits : Operand → Type 0
OperandFits (Reg n pad) = (n < 2 ^ 5) × (pad < 2 ^ 3)
OperandFits (Literal value) = value < 2 ^ 8

-- the fields of an instruction fit in their places; a word that is kept whole is decoded so
abbrev pub FieldsFit : Instr → Type 0
FieldsFit (Memory op a b disp) = (a < 2 ^ 5) × (b < 2 ^ 5) × (disp < 2 ^ 16)
FieldsFit (Branch op a disp) = (a < 2 ^ 5) × (disp < 2 ^ 21)
FieldsFit (Jump kind a b hint) = (kind < 4) × (a < 2 ^ 5) × (b < 2 ^ 5) × (hint < 2 ^ 14)
FieldsFit (Operate op a b c) = (a < 2 ^ 5) × OperandFits b × (c < 2 ^ 5)
FieldsFit (Misc op a b) = (a < 2 ^ 5) × (b < 2 ^ 5)
FieldsFit (Pal op) = Unit {0}
FieldsFit (Floating word) = instr_of word ≡ Floating word
FieldsFit (Reserved word) = instr_of word ≡ Reserved word
