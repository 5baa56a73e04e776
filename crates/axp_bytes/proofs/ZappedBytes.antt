-- Clearing bytes, one byte more.
use Rattle.std.proofs.Common.{◌≡◌, ℕ, zero, suc, ◌+◌, ◌*◌, ◌^◌, ◌<◌, ◌≤◌, Bool, true, false, arith, refl, cond, add-one}
use Rattle.std.proofs.lemmas.Nat.{mod_below, pow-add}
use Rattle.std.proofs.Math.Nat.{mul-le-mul_right}
use Rattle.std.proofs.Math.Pow.{pow_mono}
use Rattle.axp_base.specs.Masks.{has_bit}
use Rattle.axp_base.specs.Parts.{byte}
use Rattle.axp_bytes.specs.Results.{zapped}

zap_step : (d : Bool) (z x p : ℕ) → z < p → x < 256 → z + cond d 0 (x * p) < p * 256
zap_step true z x p h k = omega arith
zap_step false z x p h k = let le : x ≤ 255 = omega arith in omega (arith, mul-le-mul_right p le)

pub zapped_small : (n a b : ℕ) → zapped n a b < 2 ^ (8 * n)
unfolding zapped
zapped_small zero a b = omega arith
zapped_small (suc n) a b =
    let e : 8 * suc n ≡ 8 * n + 8 = omega arith in
    rw (e, pow-add 2 (8 * n) 8) (zap_step (has_bit b n) (zapped n a b) (byte a n) (2 ^ (8 * n)) (zapped_small n a b) (mod_below _ 256 (omega arith)))

pub zapped_none : (a b : ℕ) → zapped 0 a b ≡ 0
unfolding zapped
zapped_none a b = refl

pub zapped_more : (n a b : ℕ) → (zapped (n + 1) a b ≡ zapped n a b + cond (has_bit b n) 0 (byte a n * 2 ^ (8 * n))) × (zapped n a b < 2 ^ (8 * n))
unfolding zapped
zapped_more n a b = (rw add-one refl, zapped_small n a b)

pub zapped_fits : (n a b : ℕ) → n < 8 → zapped n a b + cond (has_bit b n) 0 (byte a n * 2 ^ (8 * n)) < 2 ^ 64
unfolding zapped
zapped_fits n a b h =
    let up : 2 ^ (8 * suc n) ≤ 2 ^ 64 = pow_mono {i = 8 * suc n} {j = 64} (omega arith) in
    let lt : zapped (suc n) a b < 2 ^ (8 * suc n) = zapped_small (suc n) a b in
    omega (arith, lt)
