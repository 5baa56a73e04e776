-- Of two opposite conditional moves one writes, and those that test the sign compare integers.
use Rattle.std.proofs.Common.{◌≡◌, ◌⊎◌, ℕ, zero, suc, pos, negsuc, ◌-◌, ◌%◌, ◌^◌, ◌<◌, ◌≤◌, Bool, true, false, cond, eqb, ltb, inl, inr, arith, refl, sym, ap, ◌∙◌, ⊎_elim}
use Rattle.std.specs.Prelude.{◌||◌, ◌==◌, not, int_lt, if◌then◌else◌}
use Rattle.std.specs.Int.{cast_signed, w64}
use Rattle.std.proofs.lemmas.Bool.{cases_lt, le-leb, lt-leb, lt-ltb, ne_eqb}
use Rattle.std.proofs.lemmas.Int.{to_z_pos}
use Rattle.std.proofs.lemmas.Nat.{mod_below}
use Rattle.std.proofs.Math.Facts.{to_z-neg}
use Rattle.axp_base.specs.Numbers.{is_negative, signed}
use Rattle.axp_base.proofs.SignLemmas.{negative_is_below}
use Rattle.axp_decode.specs.declared.names.Op.TheVariants.{CMOVLBS, CMOVLBC, CMOVEQ, CMOVNE, CMOVLT, CMOVGE, CMOVLE, CMOVGT}
use Rattle.axp_integer.specs.Moves.{AreOpposite}
use Rattle.axp_integer.specs.Rows.{value_of}

by_test : (t : Bool) (b old : ℕ) → ((cond t b old ≡ b) × (cond t old b ≡ old)) ⊎ ((cond t b old ≡ old) × (cond t old b ≡ b))
by_test true b old = inl (refl, refl)
by_test false b old = inr (refl, refl)

by_bit : (u b old : ℕ) → u < 2 → ((cond (eqb u 1) b old ≡ b) × (cond (eqb u 0) b old ≡ old)) ⊎ ((cond (eqb u 1) b old ≡ old) × (cond (eqb u 0) b old ≡ b))
by_bit zero b old h = inr (refl, refl)
by_bit (suc zero) b old h = inl (refl, refl)
by_bit (suc (suc u)) b old h = absurd (omega (arith, h))

pub low_bit : AreOpposite CMOVLBS CMOVLBC
unfolding value_of
low_bit a b old = by_bit (a % 2) b old (mod_below a 2 (omega arith))

pub equal : AreOpposite CMOVEQ CMOVNE
unfolding value_of
equal a b old = by_test (a == 0) b old

pub less : AreOpposite CMOVLT CMOVGE
unfolding value_of
less a b old = by_test (is_negative a) b old

pub less_or_equal : AreOpposite CMOVLE CMOVGT
unfolding value_of
less_or_equal a b old = by_test (is_negative a || (a == 0)) b old

zero_or_above : (m : ℕ) → 0 < m → eqb m 0 ≡ not (ltb 0 m)
zero_or_above m h = ne_eqb m 0 (λ e. omega (arith, e, h)) ∙ sym (ap not (lt-ltb 0 m h))

-- the sign as a comparison of integers
positive : (a : ℕ) → a < 2 ^ 64 → (is_negative a || (a == 0)) ≡ not (int_lt (pos 0) (signed a))
positive zero h = refl
positive (suc n) h =
    ⊎_elim
    (λ (low : suc n < 2 ^ 63). rw (to_z_pos w64 (suc n) low, lt-leb _ _ low) (zero_or_above (suc n) (omega arith)))
    (λ (high : 2 ^ 63 ≤ suc n).
    let k : ℕ = 2 ^ 64 - 1 - suc n in
    let at : 2 ^ 64 - suc k ≡ suc n = omega arith in
    let is : cast_signed w64 (suc n) ≡ negsuc k = ap (cast_signed w64) (sym at) ∙ to_z-neg w64 k (omega arith) in
    rw (is, le-leb _ _ high) refl)
    (cases_lt (suc n) (2 ^ 63))

turned : (t : Bool) (b old : ℕ) → cond (not t) b old ≡ cond t old b
turned true b old = refl
turned false b old = refl

pub cmovlt_signed : (a b old : ℕ) → a < 2 ^ 64 → value_of CMOVLT a b old ≡ (if int_lt (signed a) (pos 0) then b else old)
unfolding value_of
cmovlt_signed a b old h = ap (λ t. cond t b old) (negative_is_below a h)

pub cmovge_signed : (a b old : ℕ) → a < 2 ^ 64 → value_of CMOVGE a b old ≡ (if int_lt (signed a) (pos 0) then old else b)
unfolding value_of
cmovge_signed a b old h = ap (λ t. cond t old b) (negative_is_below a h)

pub cmovle_signed : (a b old : ℕ) → a < 2 ^ 64 → value_of CMOVLE a b old ≡ (if int_lt (pos 0) (signed a) then old else b)
unfolding value_of
cmovle_signed a b old h = ap (λ t. cond t b old) (positive a h) ∙ turned (int_lt (pos 0) (signed a)) b old

pub cmovgt_signed : (a b old : ℕ) → a < 2 ^ 64 → value_of CMOVGT a b old ≡ (if int_lt (pos 0) (signed a) then b else old)
unfolding value_of
cmovgt_signed a b old h = ap (λ t. cond t old b) (positive a h) ∙ turned (int_lt (pos 0) (signed a)) old b
