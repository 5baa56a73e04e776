-- The word of an instruction whose fields fit stands for it.
use Rattle.std.proofs.Common.{◌≡◌, ℕ, ◌/◌, ◌%◌, ◌^◌, refl, arith}
use Rattle.axp_decode.specs.Format.{instr_of, word_of, operand_of, operand_bits, rb_of, FieldsFit}
use Rattle.axp_decode.specs.Words.{StandsFor}
use Rattle.axp_decode.specs.declared.instructions.Instr.{Instr}
use Rattle.axp_decode.specs.declared.instructions.Instr.TheVariants.{Memory, Branch, Jump, Operate, Misc, Pal, Floating, Reserved}
use Rattle.axp_decode.specs.declared.instructions.Operand.TheVariants.{Reg, Literal}
use Rattle.axp_decode.proofs.Tables.{memory_row, branch_row, operate_row, misc_row, pal_row}
use Rattle.axp_decode.proofs.Words.{stands_for, instr_of-stands_for}

operand_is-Reg : (w n pad : ℕ) → w / 2 ^ 12 % 2 ≡ 0 → rb_of w ≡ n → w / 2 ^ 13 % 2 ^ 3 ≡ pad → operand_of w ≡ Reg n pad
unfolding operand_of
operand_is-Reg w n pad bit b p = rw (bit, b, p) refl

operand_is-Literal : (w value : ℕ) → w / 2 ^ 12 % 2 ≡ 1 → w / 2 ^ 13 % 2 ^ 8 ≡ value → operand_of w ≡ Literal value
unfolding operand_of
operand_is-Literal w value bit v = rw (bit, v) refl

word_of-fits : (i : Instr) → FieldsFit i → StandsFor (word_of i) i
unfolding word_of operand_bits
word_of-fits (Memory op a b disp) fits =
    let row = (memory_row op).1 in (omega arith, omega arith, omega arith, omega arith)
word_of-fits (Branch op a disp) fits =
    let row = (branch_row op).2 in (omega arith, omega arith, omega arith)
word_of-fits (Jump kind a b hint) fits = (omega arith, omega arith, omega arith, omega arith, omega arith)
word_of-fits (Operate op a (Reg n pad) c) fits =
    let row = operate_row op in
    let operand = operand_is-Reg (word_of (Operate op a (Reg n pad) c)) n pad (omega (arith, row.3, row.4)) (omega (arith, row.3, row.4)) (omega (arith, row.3, row.4)) in
    (omega (arith, row.3, row.4), omega (arith, row.3, row.4), omega (arith, row.3, row.4), operand, omega (arith, row.3, row.4))
word_of-fits (Operate op a (Literal value) c) fits =
    let row = operate_row op in
    let operand = operand_is-Literal (word_of (Operate op a (Literal value) c)) value (omega (arith, row.3, row.4)) (omega (arith, row.3, row.4)) in
    (omega (arith, row.3, row.4), omega (arith, row.3, row.4), omega (arith, row.3, row.4), operand, omega (arith, row.3, row.4))
word_of-fits (Misc op a b) fits =
    let row = (misc_row op).1 in (omega arith, omega arith, omega arith, omega arith)
word_of-fits (Pal op) fits = let row = (pal_row op).1 in (omega arith, omega arith)
word_of-fits (Floating word) fits = stands_for word (Floating word) fits
word_of-fits (Reserved word) fits = stands_for word (Reserved word) fits

pub instr_of-word_of : (i : Instr) → FieldsFit i → instr_of (word_of i) ≡ i
instr_of-word_of i fits = instr_of-stands_for (word_of i) i (word_of-fits i fits)
