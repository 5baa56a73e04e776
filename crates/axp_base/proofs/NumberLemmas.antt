-- The low bits of a number, and its sign.
use Rattle.std.proofs.Common.{◌≡◌, ℕ, ◌-◌, ◌*◌, ◌%◌, ◌^◌, ◌<◌, ◌≤◌, bit_and, arith}
use Rattle.std.proofs.lemmas.Nat.{and_mask, one_shl, mod_below, pow_pos}
use Rattle.std.proofs.Math.Pow.{pow_mono}

pub low_mask : (x k : ℕ) → k < 64 → bit_and x (1 * 2 ^ k % 2 ^ 64 - 1) ≡ x % 2 ^ k
low_mask x k h = rw (one_shl k 64 h) (and_mask x k)

pub low_small : (x k : ℕ) → k < 64 → (x % 2 ^ k < 2 ^ k) × (2 ^ k ≤ 2 ^ 64)
low_small x k h = (mod_below x (2 ^ k) (pow_pos k), pow_mono {i = k} {j = 64} (omega arith))

pub one_moved_up : (k : ℕ) → k < 64 → 1 * 2 ^ k % 2 ^ 64 ≡ 2 ^ k
one_moved_up k h = one_shl k 64 h
