-- The fields of the instruction of a word fit in their places.
use Rattle.std.proofs.Common.{◌≡◌, ℕ, ◌/◌, ◌%◌, ◌^◌, ◌<◌, ◌==◌, Bool, true, false, cond, Option, Some, None, refl, arith}
use Rattle.axp_decode.specs.Table.{memory_of, branch_of, misc_of, pal_of, operate_of}
use Rattle.axp_decode.specs.Format.{FieldsFit, OperandFits, function_code_of, function_of, instr_of, is_floating, named, opcode_of, operand_of, pal_function_of, rb_of}
use Rattle.axp_decode.specs.declared.instructions.Instr.{Instr}
use Rattle.axp_decode.specs.declared.instructions.Instr.TheVariants as instr
use Rattle.axp_decode.specs.declared.instructions.Operand.TheVariants.{Reg, Literal}

-- if a word stands for an instruction, the instruction's fields fit
abbrev Suits : ℕ → Instr → Type 0
Suits w i = instr_of w ≡ i → FieldsFit i

named_suits : {A : Type 0} (w : ℕ) (row : Option A) (f : A → Instr) (other : Instr) → ((x : A) → Suits w (f x)) → Suits w other → Suits w (named row f other)
named_suits w None f other each else_suits = else_suits
named_suits w (Some x) f other each else_suits = each x

either_suits : (w : ℕ) (test : Bool) (i j : Instr) → Suits w i → Suits w j → Suits w (cond test i j)
either_suits w true i j suits other = suits
either_suits w false i j suits other = other

operand_by : (test : Bool) (n pad value : ℕ) → n < 2 ^ 5 → pad < 2 ^ 3 → value < 2 ^ 8 → OperandFits (cond test (Literal value) (Reg n pad))
operand_by true n pad value a b c = c
operand_by false n pad value a b c = (a, b)

operand_fits : (w : ℕ) → OperandFits (operand_of w)
unfolding operand_of
operand_fits w = operand_by (w / 2 ^ 12 % 2 == 1) (rb_of w) (w / 2 ^ 13 % 2 ^ 3) (w / 2 ^ 13 % 2 ^ 8) (omega arith) (omega arith) (omega arith)

-- the rows behind the tables of memory, branch and operate formats: jumps have opcode 1A, miscellaneous instructions 18,
-- and calls of PALcode 0
pub fields_fit : (w : ℕ) → FieldsFit (instr_of w)
unfolding instr_of
fields_fit w =
    named_suits w (memory_of (opcode_of w)) _ _ (λ op is. (omega arith, omega arith, omega arith)) (
    named_suits w (branch_of (opcode_of w)) _ _ (λ op is. (omega arith, omega arith)) (
    named_suits w (operate_of (opcode_of w) (function_of w)) _ _ (λ op is. (omega arith, operand_fits w, omega arith)) (
    either_suits w (opcode_of w == 0x1A) _ _ (λ is. (omega arith, omega arith, omega arith, omega arith)) (
    either_suits w (opcode_of w == 0x18) _ _ (named_suits w (misc_of (function_code_of w)) _ _ (λ op is. (omega arith, omega arith)) (λ is. is)) (
    either_suits w (opcode_of w == 0) _ _ (named_suits w (pal_of (pal_function_of w)) _ _ (λ op is. tt) (λ is. is)) (
    either_suits w (is_floating (opcode_of w)) (instr.Floating w) (instr.Reserved w) (λ is. is) (λ is. is))))))) refl
