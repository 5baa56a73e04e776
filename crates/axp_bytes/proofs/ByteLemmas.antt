-- Bytes of numbers that are cut off, moved or joined.
use Rattle.std.proofs.Common.{◌≡◌, ℕ, suc, ◌+◌, ◌-◌, ◌*◌, ◌/◌, ◌%◌, ◌^◌, ◌<◌, ◌≤◌, true, false, nat_lt, arith, sym, ap, ◌∙◌, ⊎_elim, cond}
use Rattle.std.proofs.lemmas.Bool.{cases_lt, le-leb, lt-leb}
use Rattle.std.proofs.lemmas.Nat.{mod_below, mod_low, shr_high, shr-shr, shl-shr, field_of, pow_pos}
use Rattle.std.proofs.Math.Nat.{div-eq_of_lt, zero-div}
use Rattle.std.proofs.Math.Pow.{pow_mono}
use Rattle.axp_base.specs.Parts.{byte}
use Rattle.axp_bytes.proofs.CrossingData.{mod_within}

-- a byte lies in the bits below any place past its own
pub byte_low : (v w n : ℕ) → 8 * n + 8 ≤ w → byte (v % 2 ^ w) n ≡ byte v n
byte_low v w n h =
    sym (field_of (v % 2 ^ w) 8 (8 * n)) ∙ ap (λ y. y / 2 ^ (8 * n)) (mod_within v w (8 + 8 * n) (omega arith)) ∙ field_of v 8 (8 * n)

pub step_low : (z y m n : ℕ) → z < 2 ^ (8 * m) → n < m → byte (y * 2 ^ (8 * m) + z) n ≡ byte z n
step_low z y m n h k =
    sym (byte_low (y * 2 ^ (8 * m) + z) (8 * m) n (omega arith)) ∙ ap (λ v. byte v n) (mod_low y (8 * m) z h)

pub step_top : (z y m : ℕ) → z < 2 ^ (8 * m) → y < 2 ^ 8 → byte (y * 2 ^ (8 * m) + z) m ≡ y
step_top z y m h k = ap (λ v. v % 2 ^ 8) (shr_high y (8 * m) z h) ∙ omega arith

pub if_below : (i k x y z : ℕ) → (i < k → x ≡ y) → (k ≤ i → x ≡ z) → x ≡ cond (nat_lt i k) y z
if_below i k x y z below from =
    ⊎_elim
    (λ (h : i < k). let test : nat_lt i k ≡ true = le-leb (suc i) k h in rw test (below h))
    (λ (h : k ≤ i). let test : nat_lt i k ≡ false = lt-leb (suc i) k (omega arith) in rw test (from h))
    (cases_lt i k)

byte_past : (v w n : ℕ) → w ≤ 8 * n → byte (v % 2 ^ w) n ≡ 0
byte_past v w n h =
    let lt : v % 2 ^ w < 2 ^ w = mod_below v (2 ^ w) (pow_pos w) in
    let up : 2 ^ w ≤ 2 ^ (8 * n) = pow_mono {i = w} {j = 8 * n} h in
    let none : v % 2 ^ w / 2 ^ (8 * n) ≡ 0 = div-eq_of_lt (omega arith) in
    ap (λ y. y % 2 ^ 8) none

-- of the low k bytes, of a number shifted by k bytes
pub byte_cut : (v k i : ℕ) → byte (v % 2 ^ (8 * k)) i ≡ cond (nat_lt i k) (byte v i) 0
byte_cut v k i = if_below i k _ _ _ (λ below. byte_low v (8 * k) i (omega arith)) (λ from. byte_past v (8 * k) i (omega arith))

pub byte_right : (v k i : ℕ) → byte (v / 2 ^ (8 * k)) i ≡ byte v (i + k)
byte_right v k i =
    let e : 8 * k + 8 * i ≡ 8 * (i + k) = omega arith in
    ap (λ y. y % 2 ^ 8) (shr-shr v (8 * k) (8 * i)) ∙ ap (λ y. v / 2 ^ y % 2 ^ 8) e

byte_zero : (i : ℕ) → byte 0 i ≡ 0
byte_zero i = ap (λ y. y % 2 ^ 8) (zero-div (2 ^ (8 * i)))

pub byte_left : (v k i : ℕ) → byte (v * 2 ^ (8 * k)) i ≡ cond (nat_lt i k) 0 (byte v (i - k))
byte_left v k i =
    if_below i k _ _ _
    (λ below.
    let e : v * 2 ^ (8 * k) ≡ v * 2 ^ (8 * k) + 0 = omega arith in
    ap (λ y. byte y i) e ∙ step_low 0 v k i (pow_pos (8 * k)) below ∙ byte_zero i)
    (λ from.
    let e : i ≡ (i - k) + k = omega arith in
    ap (byte (v * 2 ^ (8 * k))) e ∙ sym (byte_right (v * 2 ^ (8 * k)) k (i - k)) ∙ ap (λ y. byte y (i - k)) (shl-shr v (8 * k)))

pub when_below : (i k y z : ℕ) → i < k → cond (nat_lt i k) y z ≡ y
when_below i k y z h = ap (λ t. cond t y z) (le-leb (suc i) k h)

pub when_from : (i k y z : ℕ) → k ≤ i → cond (nat_lt i k) y z ≡ z
when_from i k y z h = ap (λ t. cond t y z) (lt-leb (suc i) k (omega arith))

-- a byte at and past the place where two numbers are joined
pub step_high : (z y m n : ℕ) → z < 2 ^ (8 * m) → m ≤ n → byte (y * 2 ^ (8 * m) + z) n ≡ byte y (n - m)
step_high z y m n h k =
    let e : n ≡ (n - m) + m = omega arith in
    ap (byte (y * 2 ^ (8 * m) + z)) e ∙ sym (byte_right (y * 2 ^ (8 * m) + z) m (n - m)) ∙ ap (λ v. byte v (n - m)) (shr_high y (8 * m) z h)
