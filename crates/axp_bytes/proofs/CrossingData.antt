-- A datum that reaches from one quadword into the next, by the bits below and above it.
use Rattle.std.proofs.Common.{◌≡◌, ℕ, ◌+◌, ◌-◌, ◌*◌, ◌/◌, ◌%◌, ◌^◌, ◌<◌, ◌≤◌, arith, sym, ap, ◌∙◌}
use Rattle.std.specs.Int.Bits.{bit_or, or_self, or_zero_r}
use Rattle.std.proofs.lemmas.Nat.{pow_pos, pow-add, shl-shr, shr-shr, mod-pow-add, shr_below, shr_high, or_comm, or_shifted, or_mod, or_block, mod_below}
use Rattle.std.proofs.Math.Nat.{add-mul-div_right, add-mul-mod_self_right, mul-mod_left}
use Rattle.std.proofs.Math.Pow.{mod-mod-pow}

pub mod_within : (x w k : ℕ) → k ≤ w → x % 2 ^ w % 2 ^ k ≡ x % 2 ^ k
mod_within x w k h = let e : w ≡ (w - k) + k = omega arith in rw e (mod-mod-pow x (w - k) k)

-- a quadword above another, from bit i on, where j bits of the lower one are left
pub shifted_both : (a b i j : ℕ) → (a + b * 2 ^ (j + i)) / 2 ^ i ≡ b * 2 ^ j + a / 2 ^ i
shifted_both a b i j =
    let e : b * 2 ^ (j + i) ≡ b * 2 ^ j * 2 ^ i = rw (pow-add 2 j i) (omega arith) in
    let s : (a + b * 2 ^ j * 2 ^ i) / 2 ^ i ≡ a / 2 ^ i + b * 2 ^ j = add-mul-div_right a (b * 2 ^ j) (pow_pos i) in
    rw (e, s) (omega arith)

pub or_above : (a b i j : ℕ) → a < 2 ^ (j + i) → bit_or (a / 2 ^ i) (b * 2 ^ j) ≡ b * 2 ^ j + a / 2 ^ i
or_above a b i j h = or_comm (a / 2 ^ i) (b * 2 ^ j) ∙ or_shifted b j (a / 2 ^ i) (shr_below a j i h)

pub crossing : (a b i j k : ℕ) → a < 2 ^ (j + i) → k ≤ j + i → bit_or (a / 2 ^ i % 2 ^ k) (b * 2 ^ j % 2 ^ (j + i) % 2 ^ k) ≡ (a + b * 2 ^ (j + i)) / 2 ^ i % 2 ^ k
crossing a b i j k h small =
    ap (λ y. bit_or (a / 2 ^ i % 2 ^ k) y) (mod_within (b * 2 ^ j) (j + i) k small)
    ∙ sym (or_mod (a / 2 ^ i) (b * 2 ^ j) k)
    ∙ ap (λ y. y % 2 ^ k) (or_above a b i j h ∙ sym (shifted_both a b i j))

-- the same at a width w that is j + i, where m is j
pub crossing_at : (a b i j k w m : ℕ) → w ≡ j + i → m ≡ j → a < 2 ^ w → k ≤ w → bit_or (a / 2 ^ i % 2 ^ k) (b * 2 ^ m % 2 ^ w % 2 ^ k) ≡ (a + b * 2 ^ w) / 2 ^ i % 2 ^ k
crossing_at a b i j k w m e f h small = let lt = rw e at h in let le = rw e at small in rw (e, f) (crossing a b i j k lt le)

-- a datum that ends below bit w has nothing in the next quadword
whole_above : (a d k : ℕ) → a * 2 ^ (d + k) % 2 ^ k ≡ 0
whole_above a d k =
    let e : a * 2 ^ (d + k) ≡ a * 2 ^ d * 2 ^ k = rw (pow-add 2 d k) (omega arith) in
    rw e (mul-mod_left (a * 2 ^ d) (2 ^ k))

pub moved_none : (a j k w : ℕ) → k ≤ j → k ≤ w → a * 2 ^ j % 2 ^ w % 2 ^ k ≡ 0
moved_none a j k w h small =
    let e : (j - k) + k ≡ j = omega arith in
    mod_within (a * 2 ^ j) w k small ∙ ap (λ y. a * 2 ^ y % 2 ^ k) (sym e) ∙ whole_above a (j - k) k

pub not_crossing : (a i j k w m : ℕ) → m ≡ j → k ≤ j → k ≤ w → bit_or (a / 2 ^ i % 2 ^ k) (a * 2 ^ m % 2 ^ w % 2 ^ k) ≡ a / 2 ^ i % 2 ^ k
not_crossing a i j k w m f h small = rw f (rw (moved_none a j k w h small) (or_zero_r (a / 2 ^ i % 2 ^ k)))

pub at_no_byte : (a k : ℕ) → a < 2 ^ 64 → bit_or (a / 2 ^ 0 % 2 ^ k) (a * 2 ^ 0 % 2 ^ 64 % 2 ^ k) ≡ a / 2 ^ 0 % 2 ^ k
at_no_byte a k h = let e : a * 2 ^ 0 % 2 ^ 64 ≡ a / 2 ^ 0 = omega arith in rw e (or_self (a / 2 ^ 0 % 2 ^ k))

-- what of a datum stays below bit j + i, i bits up, and what lies above
pub moved_low : (a i j : ℕ) → a * 2 ^ i % 2 ^ (j + i) ≡ a % 2 ^ j * 2 ^ i
moved_low a i j = mod-pow-add (a * 2 ^ i) j i ∙ rw (shl-shr a i, mul-mod_left a (2 ^ i)) (omega arith)

pub moved_high : (a i j : ℕ) → a * 2 ^ i / 2 ^ (i + j) ≡ a / 2 ^ j
moved_high a i j = sym (shr-shr (a * 2 ^ i) i j) ∙ ap (λ y. y / 2 ^ j) (shl-shr a i)

-- the low and the high part of a datum of j + d bits, i bits up, put into what two quadwords keep
pub put_low : (a x c i : ℕ) → c ≡ 0 → bit_or (c + a % 2 ^ i) (x * 2 ^ i) ≡ x * 2 ^ i + a % 2 ^ i
put_low a x c i none =
    let e : c + a % 2 ^ i ≡ a % 2 ^ i = omega arith in
    rw e (or_comm (a % 2 ^ i) (x * 2 ^ i) ∙ or_shifted x i (a % 2 ^ i) (mod_below a (2 ^ i) (pow_pos i)))

pub put_high : (b x j d : ℕ) → x < 2 ^ (d + j) → bit_or (b * 2 ^ d) (x / 2 ^ j) ≡ b * 2 ^ d + x / 2 ^ j
put_high b x j d h = or_shifted b d (x / 2 ^ j) (shr_below x d j h)

-- what stays above a datum that lies in one quadword, the datum, and what stays below
pub put_inside : (c x r i k : ℕ) → x < 2 ^ k → r < 2 ^ i → bit_or (c * 2 ^ (k + i) + r) (x * 2 ^ i) ≡ c * 2 ^ (k + i) + x * 2 ^ i + r
put_inside c x r i k small low =
    let e : c * 2 ^ (k + i) ≡ c * 2 ^ k * 2 ^ i = rw (pow-add 2 k i) (omega arith) in
    let z : x * 2 ^ i ≡ x * 2 ^ i + 0 = omega arith in
    rw e (
    ap (λ y. bit_or (c * 2 ^ k * 2 ^ i + r) y) z
    ∙ or_block i (c * 2 ^ k) x r 0 low (pow_pos i)
    ∙ ap (λ y. y * 2 ^ i + bit_or r 0) (or_shifted c k x small)
    ∙ ap (λ y. (c * 2 ^ k + x) * 2 ^ i + y) (or_zero_r r)
    ∙ omega arith)

-- two quadwords cut at bit i, below or above the end of the first
pub both_below : (a b i j : ℕ) → (a + b * 2 ^ (j + i)) % 2 ^ i ≡ a % 2 ^ i
both_below a b i j =
    let e : b * 2 ^ (j + i) ≡ b * 2 ^ j * 2 ^ i = rw (pow-add 2 j i) (omega arith) in
    rw e (add-mul-mod_self_right a (b * 2 ^ j) (2 ^ i))

pub both_above : (a b w d : ℕ) → a < 2 ^ w → (a + b * 2 ^ w) / 2 ^ (w + d) ≡ b / 2 ^ d
both_above a b w d h =
    let e : a + b * 2 ^ w ≡ b * 2 ^ w + a = omega arith in
    sym (shr-shr (a + b * 2 ^ w) w d) ∙ ap (λ y. y / 2 ^ d) (ap (λ y. y / 2 ^ w) e ∙ shr_high b w a h)
