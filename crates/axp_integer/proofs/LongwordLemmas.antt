-- Longword results: what their low longword is, and that the rest repeats its sign.
use Rattle.std.proofs.Common.{◌≡◌, ℕ, ◌+◌, ◌*◌, ◌%◌, ◌^◌, ◌<◌, arith, refl, ◌∙◌}
use Rattle.axp_base.specs.Numbers.{add, sub, mul, sign_extended}
use Rattle.axp_base.proofs.SignLemmas.{extended_keeps}
use Rattle.axp_decode.specs.declared.names.Op.TheVariants.{ADDL, SUBL, S4ADDL, S8ADDL, S4SUBL, S8SUBL, ADDLV, SUBLV, MULL, MULLV}
use Rattle.axp_integer.specs.Longwords.{IsSignExtended}
use Rattle.axp_integer.specs.Results.{longword}
use Rattle.axp_integer.specs.Rows.{value_of}

low : (x : ℕ) → longword x % 2 ^ 32 ≡ x % 2 ^ 32
low x = extended_keeps 32 x (omega arith)

pub addl_low : (a b old : ℕ) → value_of ADDL a b old % 2 ^ 32 ≡ (a + b) % 2 ^ 32
unfolding value_of
addl_low a b old = omega (arith, low (add a b))

pub s4addl_low : (a b old : ℕ) → value_of S4ADDL a b old % 2 ^ 32 ≡ (4 * a + b) % 2 ^ 32
unfolding value_of
s4addl_low a b old = omega (arith, low (add (mul a 4) b))

pub s8addl_low : (a b old : ℕ) → value_of S8ADDL a b old % 2 ^ 32 ≡ (8 * a + b) % 2 ^ 32
unfolding value_of
s8addl_low a b old = omega (arith, low (add (mul a 8) b))

pub subl_low : (a b old : ℕ) → b < 2 ^ 64 → (value_of SUBL a b old + b) % 2 ^ 32 ≡ a % 2 ^ 32
unfolding value_of
subl_low a b old h = omega (arith, low (sub a b))

pub s4subl_low : (a b old : ℕ) → b < 2 ^ 64 → (value_of S4SUBL a b old + b) % 2 ^ 32 ≡ 4 * a % 2 ^ 32
unfolding value_of
s4subl_low a b old h = omega (arith, low (sub (mul a 4) b))

pub s8subl_low : (a b old : ℕ) → b < 2 ^ 64 → (value_of S8SUBL a b old + b) % 2 ^ 32 ≡ 8 * a % 2 ^ 32
unfolding value_of
s8subl_low a b old h = omega (arith, low (sub (mul a 8) b))

pub low_of_low : (n : ℕ) → n % 2 ^ 64 % 2 ^ 32 ≡ n % 2 ^ 32
low_of_low n = omega arith

pub mull_low : (a b old : ℕ) → value_of MULL a b old % 2 ^ 32 ≡ a * b % 2 ^ 32
unfolding value_of
mull_low a b old = low (mul a b) ∙ low_of_low (a * b)

same_low : (k x y : ℕ) → x % 2 ^ k ≡ y % 2 ^ k → sign_extended k x ≡ sign_extended k y
unfolding sign_extended
same_low k x y e = rw e refl

extended_again : (x : ℕ) → sign_extended 32 (longword x) ≡ longword x
extended_again x = same_low 32 (longword x) x (low x)

pub addl_extended : IsSignExtended ADDL
unfolding value_of
addl_extended a b old = extended_again (add a b)

pub subl_extended : IsSignExtended SUBL
unfolding value_of
subl_extended a b old = extended_again (sub a b)

pub s4addl_extended : IsSignExtended S4ADDL
unfolding value_of
s4addl_extended a b old = extended_again (add (mul a 4) b)

pub s8addl_extended : IsSignExtended S8ADDL
unfolding value_of
s8addl_extended a b old = extended_again (add (mul a 8) b)

pub s4subl_extended : IsSignExtended S4SUBL
unfolding value_of
s4subl_extended a b old = extended_again (sub (mul a 4) b)

pub s8subl_extended : IsSignExtended S8SUBL
unfolding value_of
s8subl_extended a b old = extended_again (sub (mul a 8) b)

pub addlv_extended : IsSignExtended ADDLV
unfolding value_of
addlv_extended a b old = extended_again (add a b)

pub sublv_extended : IsSignExtended SUBLV
unfolding value_of
sublv_extended a b old = extended_again (sub a b)

pub mull_extended : IsSignExtended MULL
unfolding value_of
mull_extended a b old = extended_again (mul a b)

pub mullv_extended : IsSignExtended MULLV
unfolding value_of
mullv_extended a b old = extended_again (mul a b)
