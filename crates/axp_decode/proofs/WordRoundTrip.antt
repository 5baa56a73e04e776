-- A word is the word of each instruction that it stands for.
use Rattle.std.proofs.Common.{◌≡◌, ℕ, ◌*◌, ◌/◌, ◌%◌, ◌^◌, ◌<◌, refl, sym, arith, cond, true, false, Bool}
use Rattle.std.specs.Prelude.{◌==◌}
use Rattle.std.proofs.lemmas.Bool.{eqb-true, eqb-false}
use Rattle.axp_decode.specs.Format.{instr_of, word_of, operand_of, operand_bits, rb_of}
use Rattle.axp_decode.specs.Words.{StandsFor}
use Rattle.axp_decode.specs.declared.instructions.Operand.TheVariants.{Reg, Literal}
use Rattle.axp_decode.specs.declared.instructions.Instr.{Instr}
use Rattle.axp_decode.specs.declared.instructions.Instr.TheVariants.{Memory, Branch, Jump, Operate, Misc, Pal, Floating, Reserved}
use Rattle.axp_decode.proofs.Words.{stands_for_instr_of}

operand_bits-cond : (b : Bool) (w : ℕ) → b ≡ (w / 2 ^ 12 % 2 == 1) → operand_bits (cond b (Literal (w / 2 ^ 13 % 2 ^ 8)) (Reg (rb_of w) (w / 2 ^ 13 % 2 ^ 3))) ≡ w / 2 ^ 12 % 2 ^ 9 * 2 ^ 12
unfolding operand_bits
operand_bits-cond true w e = let h = eqb-true _ _ (sym e) in omega arith
operand_bits-cond false w e = let h = eqb-false (w / 2 ^ 12 % 2) 1 (sym e) in omega arith

operand_again : (w : ℕ) → operand_bits (operand_of w) ≡ w / 2 ^ 12 % 2 ^ 9 * 2 ^ 12
unfolding operand_of
operand_again w = operand_bits-cond (w / 2 ^ 12 % 2 == 1) w refl

word_of-stands_for : (w : ℕ) (i : Instr) → w < 2 ^ 32 → StandsFor w i → word_of i ≡ w
unfolding word_of
word_of-stands_for w (Memory op a b disp) small h = omega arith
word_of-stands_for w (Branch op a disp) small h = omega arith
word_of-stands_for w (Jump kind a b hint) small h = omega arith
word_of-stands_for w (Operate op a b c) small h = let o = operand_again w in let e = rw h.3 at o in omega arith
word_of-stands_for w (Misc op a b) small h = omega arith
word_of-stands_for w (Pal op) small h = omega arith
word_of-stands_for w (Floating word) small h = sym h.1
word_of-stands_for w (Reserved word) small h = sym h.1

pub word_of-instr_of : (w : ℕ) → w < 2 ^ 32 → word_of (instr_of w) ≡ w
word_of-instr_of w small = word_of-stands_for w (instr_of w) small (stands_for_instr_of w)
