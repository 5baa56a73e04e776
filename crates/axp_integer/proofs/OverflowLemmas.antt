-- Where a /V instruction overflows, and what it writes where it does not.
use Rattle.std.proofs.Common.{◌≡◌, ◌↔◌, ℕ, ◌+◌, ◌-◌, ◌*◌, ◌%◌, ◌^◌, ◌<◌, true, false, ◌+ℤ◌, ◌-ℤ◌, ◌*ℤ◌, FitsSigned, arith, ap, ◌∙◌}
use Rattle.std.specs.Int.{w32, w64, cast_signed}
use Rattle.std.proofs.lemmas.Nat.{mod_below, mul-mod}
use Rattle.axp_base.specs.Numbers.{signed, add, sub, mul}
use Rattle.axp_base.proofs.SignLemmas.{longword_integer_kept}
use Rattle.axp_decode.specs.declared.names.Op.TheVariants.{ADDLV, SUBLV, ADDQV, SUBQV, MULLV, MULQV}
use Rattle.axp_integer.specs.Results.{signed_longword}
use Rattle.axp_integer.specs.Rows.{value_of, overflow_of}
use Rattle.axp_integer.proofs.Flags.{overflows_no_fit, add_exact, sub_exact, mul_exact}
use Rattle.axp_integer.proofs.LongwordLemmas.{low_of_low}

pub addq_exact : (a b old : ℕ) → a < 2 ^ 64 → b < 2 ^ 64 → overflow_of ADDQV a b ≡ false → signed (value_of ADDQV a b old) ≡ signed a +ℤ signed b
unfolding value_of overflow_of
addq_exact a b old p q e = add_exact w64 a b p q e

pub subq_exact : (a b old : ℕ) → a < 2 ^ 64 → b < 2 ^ 64 → overflow_of SUBQV a b ≡ false → signed (value_of SUBQV a b old) ≡ signed a -ℤ signed b
unfolding value_of overflow_of
subq_exact a b old p q e = sub_exact w64 a b p q e

pub mulq_exact : (a b old : ℕ) → a < 2 ^ 64 → b < 2 ^ 64 → overflow_of MULQV a b ≡ false → signed (value_of MULQV a b old) ≡ signed a *ℤ signed b
unfolding value_of overflow_of
mulq_exact a b old p q e = mul_exact w64 a b p q e

-- the low longword of a sum, a difference or a product is that of the low longwords
low_sum : (a b : ℕ) → add a b % 2 ^ 32 ≡ (a % 2 ^ 32 + b % 2 ^ 32) % 2 ^ 32
low_sum a b = omega arith

low_difference : (a b : ℕ) → b < 2 ^ 64 → sub a b % 2 ^ 32 ≡ (a % 2 ^ 32 + (2 ^ 32 - b % 2 ^ 32)) % 2 ^ 32
low_difference a b q = omega arith

low_product : (a b : ℕ) → mul a b % 2 ^ 32 ≡ a % 2 ^ 32 * (b % 2 ^ 32) % 2 ^ 32
low_product a b = low_of_low (a * b) ∙ mul-mod a b (2 ^ 32)

low_small : (a : ℕ) → a % 2 ^ 32 < 2 ^ 32
low_small a = mod_below a (2 ^ 32) (omega arith)

pub addl_exact : (a b old : ℕ) → overflow_of ADDLV a b ≡ false → signed (value_of ADDLV a b old) ≡ signed_longword a +ℤ signed_longword b
unfolding value_of overflow_of
addl_exact a b old e = longword_integer_kept (add a b) ∙ ap (cast_signed w32) (low_sum a b) ∙ add_exact w32 (a % 2 ^ 32) (b % 2 ^ 32) (low_small a) (low_small b) e

pub subl_exact : (a b old : ℕ) → b < 2 ^ 64 → overflow_of SUBLV a b ≡ false → signed (value_of SUBLV a b old) ≡ signed_longword a -ℤ signed_longword b
unfolding value_of overflow_of
subl_exact a b old q e = longword_integer_kept (sub a b) ∙ ap (cast_signed w32) (low_difference a b q) ∙ sub_exact w32 (a % 2 ^ 32) (b % 2 ^ 32) (low_small a) (low_small b) e

pub mull_exact : (a b old : ℕ) → overflow_of MULLV a b ≡ false → signed (value_of MULLV a b old) ≡ signed_longword a *ℤ signed_longword b
unfolding value_of overflow_of
mull_exact a b old e = longword_integer_kept (mul a b) ∙ ap (cast_signed w32) (low_product a b) ∙ mul_exact w32 (a % 2 ^ 32) (b % 2 ^ 32) (low_small a) (low_small b) e

pub addl_no_fit : (a b : ℕ) → (overflow_of ADDLV a b ≡ true) ↔ (FitsSigned w32 (signed_longword a +ℤ signed_longword b) → ⊥)
unfolding overflow_of
addl_no_fit a b = overflows_no_fit w32 (signed_longword a +ℤ signed_longword b)

pub subl_no_fit : (a b : ℕ) → (overflow_of SUBLV a b ≡ true) ↔ (FitsSigned w32 (signed_longword a -ℤ signed_longword b) → ⊥)
unfolding overflow_of
subl_no_fit a b = overflows_no_fit w32 (signed_longword a -ℤ signed_longword b)

pub mull_no_fit : (a b : ℕ) → (overflow_of MULLV a b ≡ true) ↔ (FitsSigned w32 (signed_longword a *ℤ signed_longword b) → ⊥)
unfolding overflow_of
mull_no_fit a b = overflows_no_fit w32 (signed_longword a *ℤ signed_longword b)

pub addq_no_fit : (a b : ℕ) → (overflow_of ADDQV a b ≡ true) ↔ (FitsSigned w64 (signed a +ℤ signed b) → ⊥)
unfolding overflow_of
addq_no_fit a b = overflows_no_fit w64 (signed a +ℤ signed b)

pub subq_no_fit : (a b : ℕ) → (overflow_of SUBQV a b ≡ true) ↔ (FitsSigned w64 (signed a -ℤ signed b) → ⊥)
unfolding overflow_of
subq_no_fit a b = overflows_no_fit w64 (signed a -ℤ signed b)

pub mulq_no_fit : (a b : ℕ) → (overflow_of MULQV a b ≡ true) ↔ (FitsSigned w64 (signed a *ℤ signed b) → ⊥)
unfolding overflow_of
mulq_no_fit a b = overflows_no_fit w64 (signed a *ℤ signed b)
