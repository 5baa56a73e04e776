-- Sums, differences and products of quadwords.
use Rattle.std.proofs.Common.{◌≡◌, ℕ, ◌+◌, ◌*◌, ◌%◌, ◌^◌, ◌<◌, arith}
use Rattle.std.proofs.lemmas.Nat.{div-add-mod'}
use Rattle.axp_decode.specs.declared.names.Op.TheVariants.{ADDQ, SUBQ, S4ADDQ, S8ADDQ, S4SUBQ, S8SUBQ, MULQ, UMULH}
use Rattle.axp_integer.specs.Rows.{value_of}

pub whole_product : (a b old : ℕ) → value_of UMULH a b old * 2 ^ 64 + value_of MULQ a b old ≡ a * b
unfolding value_of
whole_product a b old = div-add-mod' (a * b) (2 ^ 64)

pub subtracted_again : (a b o : ℕ) → a < 2 ^ 64 → b < 2 ^ 64 → value_of SUBQ (value_of ADDQ a b o) b o ≡ a
unfolding value_of
subtracted_again a b o p q = omega arith

pub s4addq_is : (a b old : ℕ) → value_of S4ADDQ a b old ≡ (4 * a + b) % 2 ^ 64
unfolding value_of
s4addq_is a b old = omega arith

pub s4subq_is : (a b old : ℕ) → b < 2 ^ 64 → (value_of S4SUBQ a b old + b) % 2 ^ 64 ≡ 4 * a % 2 ^ 64
unfolding value_of
s4subq_is a b old h = omega arith

pub s8addq_is : (a b old : ℕ) → value_of S8ADDQ a b old ≡ (8 * a + b) % 2 ^ 64
unfolding value_of
s8addq_is a b old = omega arith

pub s8subq_is : (a b old : ℕ) → b < 2 ^ 64 → (value_of S8SUBQ a b old + b) % 2 ^ 64 ≡ 8 * a % 2 ^ 64
unfolding value_of
s8subq_is a b old h = omega arith
