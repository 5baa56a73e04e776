-- Shifts by their bits.
use Rattle.std.proofs.Common.{◌≡◌, ℕ, zero, suc, ◌+◌, ◌-◌, ◌*◌, ◌/◌, ◌%◌, ◌^◌, ◌<◌, ◌≤◌, Bool, true, false, nat_lt, min, arith, refl, sym, ap, subst, ◌∙◌, ⊎_elim, cond}
use Rattle.std.specs.Prelude.{◌==◌}
use Rattle.std.specs.Int.{bit_at}
use Rattle.std.proofs.lemmas.Bool.{cases_lt, lt-leb, le-leb}
use Rattle.std.proofs.lemmas.Nat.{shr_below, shr-shr, shl-shr, pow-add, pow_pos, le-div, mod_below}
use Rattle.std.proofs.lemmas.Nat.Bits.{bit_at_above, bit_at_cat_low, bit_at_cat_high, bit_at_ones}
use Rattle.std.proofs.Math.Nat.{mod-eq_of_lt}
use Rattle.std.proofs.Math.Pow.{pow_mono}
use Rattle.axp_base.specs.Masks.{has_bit}
use Rattle.axp_base.specs.Numbers.{sign_extended}
use Rattle.axp_decode.specs.declared.names.Op.TheVariants.{SLL, SRL, SRA}
use Rattle.axp_bytes.specs.Rows.{value_of}

ones_times : (x q p w : ℕ) → w ≡ q * p → 0 < q → x + (w - p) ≡ (q - 1) * p + x
ones_times x zero p w e h = absurd (omega arith)
ones_times x (suc q) p w e h =
    let f : suc q - 1 ≡ q = omega arith in
    let g : suc q * p ≡ q * p + p = omega arith in
    rw f (omega (arith, e, g))

either_below : (t : Bool) (x p w : ℕ) → x < p → p ≤ w → cond t x (x + (w - p)) < w
either_below true x p w h k = omega arith
either_below false x p w h k = omega arith

pub shift_back : (a b : ℕ) → a * 2 ^ (b % 64) < 2 ^ 64 → value_of SRL (value_of SLL a b) b ≡ a
unfolding value_of
shift_back a b h = ap (λ y. y / 2 ^ (b % 64)) (mod-eq_of_lt h) ∙ shl-shr a (b % 64)

-- a number of j bits extended by its sign, which is plus or minus
extended_plus : (x j : ℕ) → x < 2 ^ (j - 1) → x < 2 ^ j → sign_extended j x ≡ x
unfolding sign_extended
extended_plus x j low small =
    let whole : x % 2 ^ j ≡ x = mod-eq_of_lt small in
    let test : nat_lt x (2 ^ (j - 1)) ≡ true = le-leb (suc x) (2 ^ (j - 1)) low in
    rw (whole, test) refl

extended_minus : (x j : ℕ) → 2 ^ (j - 1) ≤ x → x < 2 ^ j → sign_extended j x ≡ x + (2 ^ 64 - 2 ^ j)
unfolding sign_extended
extended_minus x j high small =
    let whole : x % 2 ^ j ≡ x = mod-eq_of_lt small in
    let test : nat_lt x (2 ^ (j - 1)) ≡ false = lt-leb (suc x) (2 ^ (j - 1)) (omega arith) in
    rw (whole, test) refl

-- the ones above a number of j bits, where j + k is 64
ones_above : (x j k : ℕ) → j + k ≡ 64 → x + (2 ^ 64 - 2 ^ j) ≡ (2 ^ k - 1) * 2 ^ j + x
ones_above x j k e =
    let p : 2 ^ 64 ≡ 2 ^ k * 2 ^ j = ap (λ y. 2 ^ y) {x = 64} {y = k + j} (omega arith) ∙ pow-add 2 k j in
    ones_times x (2 ^ k) (2 ^ j) (2 ^ 64) p (pow_pos k)

bit_of_shifted : (a k i : ℕ) → bit_at (a / 2 ^ k) i ≡ bit_at a (i + k)
bit_of_shifted a k i = ap (λ y. y % 2) (shr-shr a k i) ∙ ap (bit_at a) {x = k + i} {y = i + k} (omega arith)

-- the bits of a number shifted right by k with its sign, where j + k is 64
plus_bit : (a j k i : ℕ) → j + k ≡ 64 → k < 64 → i < 64 → a < 2 ^ 63 → bit_at (sign_extended j (a / 2 ^ k)) i ≡ bit_at a (min (i + k) 63)
plus_bit a j k i e lt h small =
    let f : 63 ≡ (j - 1) + k = omega arith in
    let low : a / 2 ^ k < 2 ^ (j - 1) = shr_below a (j - 1) k (subst (λ y. a < 2 ^ y) f small) in
    let up : 2 ^ (j - 1) ≤ 2 ^ j = pow_mono {i = j - 1} {j = j} (omega arith) in
    rw (extended_plus (a / 2 ^ k) j low (omega arith)) (
    bit_of_shifted a k i
    ∙ ⊎_elim
    (λ (inside : i + k < 64). let g : min (i + k) 63 ≡ i + k = omega arith in rw g refl)
    (λ (past : 64 ≤ i + k). let g : min (i + k) 63 ≡ 63 = omega arith in rw g (bit_at_above a 63 (i + k) small (omega arith) ∙ sym (bit_at_above a 63 63 small (omega arith))))
    (cases_lt (i + k) 64))

minus_bit : (a j k i : ℕ) → j + k ≡ 64 → k < 64 → i < 64 → 2 ^ 63 ≤ a → a < 2 ^ 64 → bit_at (sign_extended j (a / 2 ^ k)) i ≡ bit_at a (min (i + k) 63)
minus_bit a j k i e lt h large small =
    let p : 2 ^ 63 ≡ 2 ^ (j - 1) * 2 ^ k = ap (λ y. 2 ^ y) {x = 63} {y = (j - 1) + k} (omega arith) ∙ pow-add 2 (j - 1) k in
    let high : 2 ^ (j - 1) ≤ a / 2 ^ k = le-div (2 ^ (j - 1)) a (2 ^ k) (pow_pos k) (omega (arith, p)) in
    let g : 64 ≡ j + k = omega arith in
    let low : a / 2 ^ k < 2 ^ j = shr_below a j k (subst (λ y. a < 2 ^ y) g small) in
    rw (extended_minus (a / 2 ^ k) j high low, ones_above (a / 2 ^ k) j k e) (
    ⊎_elim
    (λ (inside : i < j). let f : min (i + k) 63 ≡ i + k = omega arith in rw f (bit_at_cat_low (2 ^ k - 1) j (a / 2 ^ k) i inside ∙ bit_of_shifted a k i))
    (λ (past : j ≤ i).
    let f : min (i + k) 63 ≡ 63 = omega arith in
    let top : bit_at a 63 ≡ 1 = omega arith in
    rw (f, top) (bit_at_cat_high (2 ^ k - 1) j (a / 2 ^ k) i low past ∙ bit_at_ones k (i - j) (omega arith)))
    (cases_lt i j))

pub signed_bit : (a b i : ℕ) → a < 2 ^ 64 → i < 64 → has_bit (value_of SRA a b) i ≡ has_bit a (min (i + b % 64) 63)
unfolding value_of
signed_bit a b i small h =
    let k : b % 64 < 64 = omega arith in
    ap (λ y. y == 1) (
    ⊎_elim
    (λ (plus : a < 2 ^ 63). plus_bit a (64 - b % 64) (b % 64) i (omega arith) k h plus)
    (λ (minus : 2 ^ 63 ≤ a). minus_bit a (64 - b % 64) (b % 64) i (omega arith) k h minus small)
    (cases_lt a (2 ^ 63)))

pub signed_fits : (a b : ℕ) → value_of SRA a b < 2 ^ 64
unfolding value_of sign_extended
signed_fits a b =
    let j = 64 - b % 64 in
    let low : a / 2 ^ (b % 64) % 2 ^ j < 2 ^ j = mod_below (a / 2 ^ (b % 64)) (2 ^ j) (pow_pos j) in
    let up : 2 ^ j ≤ 2 ^ 64 = pow_mono {i = j} {j = 64} (omega arith) in
    either_below (nat_lt (a / 2 ^ (b % 64) % 2 ^ j) (2 ^ (j - 1))) (a / 2 ^ (b % 64) % 2 ^ j) (2 ^ j) (2 ^ 64) low up
