-- What branches test, and where they go.
use Rattle.std.proofs.Common.{◌≡◌, ℕ, pos, negsuc, zero, suc, ◌-◌, ◌*◌, ◌%◌, ◌^◌, ◌<◌, ◌≤◌, ◌||◌, not, Bool, true, false, eqb, arith, refl, sym, ap, ◌∙◌, ⊎_elim}
use Rattle.std.specs.Prelude.{◌==◌, int_lt}
use Rattle.std.specs.Int.{cast_signed, w64}
use Rattle.std.proofs.lemmas.Bool.{cases_lt, lt-ltb, le-ltb, le-leb, lt-leb, ne_eqb}
use Rattle.std.proofs.lemmas.Int.{to_z_pos}
use Rattle.std.proofs.lemmas.Nat.{mod_below}
use Rattle.std.proofs.Math.Facts.{to_z-neg}
use Rattle.std.proofs.Math.Nat.{mod-mod}
use Rattle.axp_base.specs.Numbers.{add, sub, signed, sign_extended, is_negative}
use Rattle.axp_base.proofs.SignLemmas.{negative_is_below}
use Rattle.axp_branch.specs.Branches.{is_taken, target_of}
use Rattle.axp_decode.specs.declared.names.BranchOp.TheVariants.{BLBC, BLBS, BEQ, BNE, BLT, BLE, BGE, BGT}

low_bit_by : (r : ℕ) → r < 2 → (r == 1) ≡ not (r == 0)
low_bit_by zero h = refl
low_bit_by (suc zero) h = refl
low_bit_by (suc (suc r)) h = absurd (omega (arith, h))

pub low_bit_opposite : (a : ℕ) → is_taken BLBS a ≡ not (is_taken BLBC a)
unfolding is_taken
low_bit_opposite a = low_bit_by (a % 2) (mod_below a 2 (omega arith))

pub equal_opposite : (a : ℕ) → is_taken BNE a ≡ not (is_taken BEQ a)
unfolding is_taken
equal_opposite a = refl

pub less_opposite : (a : ℕ) → is_taken BGE a ≡ not (is_taken BLT a)
unfolding is_taken
less_opposite a = refl

pub less_or_equal_opposite : (a : ℕ) → is_taken BGT a ≡ not (is_taken BLE a)
unfolding is_taken
less_or_equal_opposite a = refl

pub less_is : (a : ℕ) → a < 2 ^ 64 → is_taken BLT a ≡ int_lt (signed a) (pos 0)
unfolding is_taken
less_is a small = negative_is_below a small

-- 0 lies below an integer whose bits are a number that is neither 0 nor negative
positive_by : (a : ℕ) → a < 2 ^ 63 → not (is_negative a || (a == 0)) ≡ int_lt (pos 0) (pos a)
positive_by zero low = refl
positive_by (suc a) low =
    let some : eqb (suc a) 0 ≡ false = ne_eqb (suc a) 0 (λ e. absurd (omega (arith, e))) in
    rw (lt-leb (2 ^ 63) (suc a) low, some) (sym (lt-ltb 0 (suc a) (omega arith)))

pub greater_is : (a : ℕ) → a < 2 ^ 64 → is_taken BGT a ≡ int_lt (pos 0) (signed a)
unfolding is_taken
greater_is a small =
    ⊎_elim
    (λ (low : a < 2 ^ 63). rw (to_z_pos w64 a low) (positive_by a low))
    (λ (high : 2 ^ 63 ≤ a).
    let k = 2 ^ 64 - 1 - a in
    let at : 2 ^ 64 - suc k ≡ a = omega arith in
    let is : cast_signed w64 a ≡ negsuc k = ap (cast_signed w64) (sym at) ∙ to_z-neg w64 k (omega arith) in
    rw (is, le-leb (2 ^ 63) a high) refl)
    (cases_lt a (2 ^ 63))

back : (a b : Bool) → not a ≡ b → a ≡ not b
back true b h = ap not h
back false b h = ap not h

pub less_or_equal_is : (a : ℕ) → a < 2 ^ 64 → is_taken BLE a ≡ not (int_lt (pos 0) (signed a))
less_or_equal_is a small = back (is_taken BLE a) (int_lt (pos 0) (signed a)) (sym (less_or_equal_opposite a) ∙ greater_is a small)

pub greater_or_equal_is : (a : ℕ) → a < 2 ^ 64 → is_taken BGE a ≡ not (int_lt (signed a) (pos 0))
greater_or_equal_is a small = less_opposite a ∙ ap not (less_is a small)

pub goes_forward : (next disp : ℕ) → disp < 2 ^ 20 → target_of next disp ≡ add next (disp * 4)
unfolding sign_extended
goes_forward next disp low =
    let same : disp % 2 ^ 21 ≡ disp = omega arith in
    rw (same, lt-ltb disp (2 ^ 20) low) (omega arith)

pub goes_backward : (next disp : ℕ) → 2 ^ 20 ≤ disp → disp < 2 ^ 21 → target_of next disp ≡ sub next ((2 ^ 21 - disp) * 4)
unfolding sign_extended
goes_backward next disp high small =
    let same : disp % 2 ^ 21 ≡ disp = omega arith in
    rw (same, le-ltb disp (2 ^ 20) high) (omega arith)

pub high_bits_ignored : (next disp : ℕ) → target_of next (disp % 2 ^ 21) ≡ target_of next disp
unfolding sign_extended
high_bits_ignored next disp = rw (mod-mod disp (2 ^ 21)) refl

pub target_aligned : (next disp : ℕ) → next % 4 ≡ 0 → target_of next disp % 4 ≡ 0
target_aligned next disp h = let x = sign_extended 21 disp in omega arith
