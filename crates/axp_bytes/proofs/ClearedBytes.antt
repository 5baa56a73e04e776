-- Bytes that are cleared and bytes that stay.
use Rattle.std.proofs.Common.{◌≡◌, ℕ, zero, suc, ◌+◌, ◌-◌, ◌*◌, ◌%◌, ◌^◌, ◌<◌, ◌≤◌, Bool, true, false, not, arith, refl, ap, ◌∙◌, ⊎_elim, cond}
use Rattle.std.specs.Prelude.{◌==◌, if◌then◌else◌}
use Rattle.std.specs.Int.{bit_at, w64}
use Rattle.std.proofs.lemmas.Bool.{cases_lt}
use Rattle.std.proofs.lemmas.Nat.{mod_below, mod-pow-add}
use Rattle.std.proofs.lemmas.Nat.Bits.{bit_at_not, bit_at-lt}
use Rattle.std.proofs.Math.Nat.{mod-eq_of_lt}
use Rattle.axp_base.specs.Masks.{has_bit}
use Rattle.axp_base.specs.Numbers.{complement}
use Rattle.axp_base.specs.Parts.{byte}
use Rattle.axp_decode.specs.declared.names.Op.TheVariants.{ZAP, ZAPNOT}
use Rattle.axp_bytes.specs.Results.{zapped}
use Rattle.axp_bytes.specs.Rows.{value_of}
use Rattle.axp_bytes.proofs.ByteLemmas.{step_low, step_top}
use Rattle.axp_bytes.proofs.ZappedBytes.{zapped_small}

turned : (x y : ℕ) → y < 2 → x ≡ 1 - y → (x == 1) ≡ not (y == 1)
turned x zero h e = rw e refl
turned x (suc zero) h e = rw e refl
turned x (suc (suc y)) h e = absurd (omega arith)

-- each bit of the complement is the other one
pub complement_bit : (b i : ℕ) → b < 2 ^ 64 → i < 64 → has_bit (complement b) i ≡ not (has_bit b i)
complement_bit b i h k = turned (bit_at (complement b) i) (bit_at b i) (bit_at-lt b i) (bit_at_not w64 b i h k)

-- a byte that is put above others, or cleared
step_byte : (d : Bool) (z x m n : ℕ) → z < 2 ^ (8 * m) → x < 2 ^ 8 → (n < m → byte (z + cond d 0 (x * 2 ^ (8 * m))) n ≡ byte z n) × (byte (z + cond d 0 (x * 2 ^ (8 * m))) m ≡ cond d 0 x)
step_byte true z x m n h k =
    let e : z + 0 ≡ 0 * 2 ^ (8 * m) + z = omega arith in
    (λ below. rw e (step_low z 0 m n h below), rw e (step_top z 0 m h (omega arith)))
step_byte false z x m n h k =
    let e : z + x * 2 ^ (8 * m) ≡ x * 2 ^ (8 * m) + z = omega arith in
    (λ below. rw e (step_low z x m n h below), rw e (step_top z x m h k))

pub zapped_byte : (m a b n : ℕ) → n < m → byte (zapped m a b) n ≡ cond (has_bit b n) 0 (byte a n)
unfolding zapped
zapped_byte zero a b n h = absurd (omega arith)
zapped_byte (suc m) a b n h =
    let step = step_byte (has_bit b m) (zapped m a b) (byte a m) m n (zapped_small m a b) (mod_below _ 256 (omega arith)) in
    ⊎_elim
    (λ (below : n < m). step.0 below ∙ zapped_byte m a b n below)
    (λ (from : m ≤ n). let e : n ≡ m = omega arith in rw e step.1)
    (cases_lt n m)

two_parts : (d : Bool) (y z x p : ℕ) → y + z ≡ x → (y + cond d 0 p) + (z + cond (not d) 0 p) ≡ p + x
two_parts true y z x p h = omega arith
two_parts false y z x p h = omega arith

pub zapped_parts : (m a b : ℕ) → b < 2 ^ 64 → m ≤ 64 → zapped m a b + zapped m a (complement b) ≡ a % 2 ^ (8 * m)
unfolding zapped
zapped_parts zero a b h k = omega arith
zapped_parts (suc m) a b h k =
    let e : 8 * suc m ≡ 8 + 8 * m = omega arith in
    let other = complement_bit b m h (omega arith) in
    rw (other, e, mod-pow-add a 8 (8 * m)) (two_parts (has_bit b m) (zapped m a b) (zapped m a (complement b)) (a % 2 ^ (8 * m)) (byte a m * 2 ^ (8 * m)) (zapped_parts m a b h (omega arith)))

pub complement_cleared : (a b : ℕ) → value_of ZAPNOT a b ≡ value_of ZAP a (complement b)
unfolding value_of
complement_cleared a b = refl

pub parts_together : (a b : ℕ) → a < 2 ^ 64 → b < 2 ^ 64 → value_of ZAP a b + value_of ZAPNOT a b ≡ a
unfolding value_of
parts_together a b h k = zapped_parts 8 a b k (omega arith) ∙ mod-eq_of_lt h

pub cleared_byte : (a b n : ℕ) → n < 8 → byte (value_of ZAP a b) n ≡ (if has_bit b n then 0 else byte a n)
unfolding value_of
cleared_byte a b n h = zapped_byte 8 a b n h

other_way : (d : Bool) (x : ℕ) → cond (not d) 0 x ≡ cond d x 0
other_way true x = refl
other_way false x = refl

pub kept_byte : (a b n : ℕ) → b < 2 ^ 64 → n < 8 → byte (value_of ZAPNOT a b) n ≡ (if has_bit b n then byte a n else 0)
unfolding value_of
kept_byte a b n h k = zapped_byte 8 a (complement b) n k ∙ ap (λ d. cond d 0 (byte a n)) (complement_bit b n h (omega arith)) ∙ other_way (has_bit b n) (byte a n)

pub cleared_fits : (a b : ℕ) → value_of ZAP a b < 2 ^ 64
unfolding value_of
cleared_fits a b = zapped_small 8 a b

pub kept_fits : (a b : ℕ) → value_of ZAPNOT a b < 2 ^ 64
unfolding value_of
kept_fits a b = zapped_small 8 a (complement b)
