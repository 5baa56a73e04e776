-- Sign extension, and the integers that bits are.
use Rattle.std.proofs.Common.{◌≡◌, ℕ, pos, negsuc, zero, suc, ◌+◌, ◌-◌, ◌*◌, ◌/◌, ◌%◌, ◌^◌, ◌<◌, ◌≤◌, false, arith, refl, sym, ap, ◌∙◌, ⊎_elim}
use Rattle.std.specs.Prelude.{◌==◌, int_lt}
use Rattle.std.specs.Int.{bit_at, cast_signed, Width, w8, w16, w32, w64}
use Rattle.std.proofs.lemmas.Bool.{cases_lt, lt-ltb, le-ltb, le-leb, lt-leb}
use Rattle.std.proofs.lemmas.Nat.{mod_below, pow_pos, pow-add, mod-pow-add, mod-mul-add}
use Rattle.std.proofs.Math.Nat.{mod-mod, add_comm, suc-mul, add-sub_cancel, div-eq_of_lt}
use mir.Val.{hbits, bits}
use Rattle.std.proofs.lemmas.Nat.Bits.{bit_at_ones, bit_at_cat_high}
use Rattle.std.proofs.lemmas.Int.{to_z_pos}
use Rattle.std.proofs.Math.Facts.{to_z-neg}
use Rattle.std.proofs.Math.Pow.{pow_mono}
use Rattle.axp_base.specs.Masks.{has_bit}
use Rattle.axp_base.specs.Numbers.{sign_extended, signed, is_negative}

-- the two cases of the definition
extended_low : (k x : ℕ) → x % 2 ^ k < 2 ^ (k - 1) → sign_extended k x ≡ x % 2 ^ k
unfolding sign_extended
extended_low k x h = rw (lt-ltb _ _ h) refl

extended_high : (k x : ℕ) → 2 ^ (k - 1) ≤ x % 2 ^ k → sign_extended k x ≡ x % 2 ^ k + (2 ^ 64 - 2 ^ k)
unfolding sign_extended
extended_high k x h = rw (le-ltb _ _ h) refl

bounds : (k x : ℕ) → k ≤ 64 → (x % 2 ^ k < 2 ^ k) × (2 ^ k ≤ 2 ^ 64)
bounds k x h = (mod_below x (2 ^ k) (pow_pos k), pow_mono {i = k} {j = 64} h)

pub extended_small : (k x : ℕ) → k ≤ 64 → sign_extended k x < 2 ^ 64
extended_small k x h =
    let b = bounds k x h in
    ⊎_elim
    (λ low. omega (arith, b.0, b.1, extended_low k x low))
    (λ high. omega (arith, b.0, b.1, extended_high k x high))
    (cases_lt (x % 2 ^ k) (2 ^ (k - 1)))

not_below : (a : ℕ) → int_lt (pos a) (pos 0) ≡ false
not_below a = le-ltb a 0 (omega arith)

-- the integer is below 0 exactly where the sign bit is 1
pub negative_is_below : (a : ℕ) → a < 2 ^ 64 → is_negative a ≡ int_lt (signed a) (pos 0)
negative_is_below a small =
    ⊎_elim
    (λ low. rw (to_z_pos w64 a low, lt-leb _ _ low) (sym (not_below a)))
    (λ (high : 2 ^ 63 ≤ a).
    let k = 2 ^ 64 - 1 - a in
    let at : 2 ^ 64 - suc k ≡ a = omega arith in
    let is : cast_signed w64 a ≡ negsuc k = ap (cast_signed w64) (sym at) ∙ to_z-neg w64 k (omega arith) in
    rw (is, le-leb _ _ high) refl)
    (cases_lt a (2 ^ 63))

-- where the sign is 1, every bit above is 1
less_one : (m p : ℕ) → 0 < m → m * p - p ≡ (m - 1) * p
less_one zero p h = absurd (omega (arith, h))
less_one (suc j) p h =
    let e : suc j - 1 ≡ j = omega arith in
    rw e (ap (λ n. n - p) (suc-mul j p) ∙ add-sub_cancel (j * p) p)

ones_above : (k : ℕ) → k ≤ 64 → 2 ^ 64 - 2 ^ k ≡ (2 ^ (64 - k) - 1) * 2 ^ k
ones_above k h =
    let at : 64 - k + k ≡ 64 = omega arith in
    let whole : 2 ^ 64 ≡ 2 ^ (64 - k) * 2 ^ k = ap (λ n. 2 ^ n) (sym at) ∙ pow-add 2 (64 - k) k in
    ap (λ n. n - 2 ^ k) whole ∙ less_one (2 ^ (64 - k)) (2 ^ k) (pow_pos (64 - k))

extended_ones : (k x : ℕ) → k ≤ 64 → 2 ^ (k - 1) ≤ x % 2 ^ k → sign_extended k x ≡ (2 ^ (64 - k) - 1) * 2 ^ k + x % 2 ^ k
extended_ones k x h high = extended_high k x high ∙ ap (λ n. x % 2 ^ k + n) (ones_above k h) ∙ add_comm (x % 2 ^ k) ((2 ^ (64 - k) - 1) * 2 ^ k)

pub extended_keeps : (k x : ℕ) → k ≤ 64 → sign_extended k x % 2 ^ k ≡ x % 2 ^ k
extended_keeps k x h =
    ⊎_elim
    (λ low. ap (λ n. n % 2 ^ k) (extended_low k x low) ∙ mod-mod x (2 ^ k))
    (λ high. ap (λ n. n % 2 ^ k) (extended_ones k x h high) ∙ mod-mul-add (2 ^ (64 - k) - 1) (2 ^ k) (x % 2 ^ k) (bounds k x h).0)
    (cases_lt (x % 2 ^ k) (2 ^ (k - 1)))

-- the sign bit, and on which side of the half the low bits lie
bit_by : (b p r y : ℕ) → b < 2 → y ≡ b * p + r → r < p → ((y < p → b ≡ 0) × (p ≤ y → b ≡ 1))
bit_by zero p r y small is low = (λ h. refl, λ h. absurd (omega (arith, is, low, h)))
bit_by (suc zero) p r y small is low = (λ h. absurd (omega (arith, is, low, h)), λ h. refl)
bit_by (suc (suc b)) p r y small is low = absurd (omega (arith, small))

sign_bit : (j x : ℕ) → ((x % 2 ^ (j + 1) < 2 ^ j → x / 2 ^ j % 2 ≡ 0) × (2 ^ j ≤ x % 2 ^ (j + 1) → x / 2 ^ j % 2 ≡ 1))
sign_bit j x =
    let e : j + 1 ≡ 1 + j = omega arith in
    bit_by (x / 2 ^ j % 2) (2 ^ j) (x % 2 ^ j) (x % 2 ^ (j + 1)) (mod_below (x / 2 ^ j) 2 (omega arith)) (rw e (mod-pow-add x 1 j)) (mod_below x (2 ^ j) (pow_pos j))

-- a bit past a number is 0
bit_past : (y k n : ℕ) → y < 2 ^ k → k ≤ n → bit_at y n ≡ 0
bit_past y k n small past =
    let up : 2 ^ k ≤ 2 ^ n = pow_mono {i = k} {j = n} past in
    ap (λ z. z % 2) (div-eq_of_lt (omega (arith, small, up)))

repeated_by : (j x n : ℕ) → j + 1 ≤ 64 → j + 1 ≤ n → n < 64 → bit_at (sign_extended (j + 1) x) n ≡ x / 2 ^ j % 2
repeated_by j x n h from below =
    let back : j + 1 - 1 ≡ j = omega arith in
    let small = (bounds (j + 1) x h).0 in
    ⊎_elim
    (λ (low : x % 2 ^ (j + 1) < 2 ^ j).
    let under : x % 2 ^ (j + 1) < 2 ^ (j + 1 - 1) = rw back low in
    ap (λ y. bit_at y n) (extended_low (j + 1) x under) ∙ bit_past (x % 2 ^ (j + 1)) (j + 1) n small from ∙ sym ((sign_bit j x).0 low))
    (λ (high : 2 ^ j ≤ x % 2 ^ (j + 1)).
    let over : 2 ^ (j + 1 - 1) ≤ x % 2 ^ (j + 1) = rw back high in
    ap (λ y. bit_at y n) (extended_ones (j + 1) x h over)
    ∙ bit_at_cat_high (2 ^ (64 - (j + 1)) - 1) (j + 1) (x % 2 ^ (j + 1)) n small from
    ∙ bit_at_ones (64 - (j + 1)) (n - (j + 1)) (omega arith)
    ∙ sym ((sign_bit j x).1 high))
    (cases_lt (x % 2 ^ (j + 1)) (2 ^ j))

pub extended_repeats : (k x n : ℕ) → 1 ≤ k → k ≤ n → n < 64 → has_bit (sign_extended k x) n ≡ has_bit x (k - 1)
extended_repeats zero x n h from below = absurd (omega (arith, h))
extended_repeats (suc j) x n h from below =
    let e : suc j ≡ j + 1 = omega arith in
    let back : j + 1 - 1 ≡ j = omega arith in
    rw (e, back) (ap (λ b. b == 1) (repeated_by j x n (omega arith) (omega arith) below))

-- the integer stays the same
integer_kept : (w : Width) (k x : ℕ) → bits w ≡ k → hbits w ≡ k - 1 → 1 ≤ k → k ≤ 64 → signed (sign_extended k x) ≡ cast_signed w (x % 2 ^ k)
integer_kept w k x wide half from h =
    let b = bounds k x h in
    let twice : 2 ^ k ≡ 2 ^ (k - 1) * 2 = let e : k - 1 + 1 ≡ k = omega arith in ap (λ n. 2 ^ n) (sym e) ∙ pow-add 2 (k - 1) 1 in
    let le : 2 ^ (k - 1) ≤ 2 ^ 63 = pow_mono {i = k - 1} {j = 63} (omega arith) in
    ⊎_elim
    (λ (low : x % 2 ^ k < 2 ^ (k - 1)).
    let under : x % 2 ^ k < 2 ^ hbits w = rw half low in
    ap (λ y. cast_signed w64 y) (extended_low k x low) ∙ to_z_pos w64 (x % 2 ^ k) (omega (arith, low, le)) ∙ sym (to_z_pos w (x % 2 ^ k) under))
    (λ (high : 2 ^ (k - 1) ≤ x % 2 ^ k).
    let d = 2 ^ k - 1 - x % 2 ^ k in
    let near : d < 2 ^ (k - 1) = omega (arith, twice, high, b.0) in
    let at : 2 ^ 64 - suc d ≡ sign_extended k x = omega (arith, b.0, b.1, extended_high k x high) in
    let here : 2 ^ k - suc d ≡ x % 2 ^ k = omega (arith, b.0) in
    let there : cast_signed w (2 ^ bits w - suc d) ≡ negsuc d = to_z-neg w d (rw half near) in
    ap (λ y. cast_signed w64 y) (sym at) ∙ to_z-neg w64 d (omega (arith, near, le)) ∙ sym there ∙ ap (λ n. cast_signed w (2 ^ n - suc d)) wide ∙ ap (cast_signed w) here)
    (cases_lt (x % 2 ^ k) (2 ^ (k - 1)))

pub byte_integer_kept : (x : ℕ) → signed (sign_extended 8 x) ≡ cast_signed w8 (x % 2 ^ 8)
byte_integer_kept x = integer_kept w8 8 x refl refl (omega arith) (omega arith)

pub word_integer_kept : (x : ℕ) → signed (sign_extended 16 x) ≡ cast_signed w16 (x % 2 ^ 16)
word_integer_kept x = integer_kept w16 16 x refl refl (omega arith) (omega arith)

pub longword_integer_kept : (x : ℕ) → signed (sign_extended 32 x) ≡ cast_signed w32 (x % 2 ^ 32)
longword_integer_kept x = integer_kept w32 32 x refl refl (omega arith) (omega arith)
