-- Parts of a quadword, and the sizes of a datum.
use Rattle.std.proofs.Common.{◌≡◌, ℕ, ◌+◌, ◌-◌, ◌*◌, ◌/◌, ◌%◌, ◌^◌, ◌<◌, ◌≤◌, bit_and, arith, refl}
use Rattle.std.proofs.lemmas.Nat.{shl_whole, and_mask, one_shl, mod-pow-add, shr_split}
use Rattle.std.proofs.Math.Nat.{mod-eq_of_lt, div-eq_of_lt, zero-mul}
use Rattle.std.proofs.Math.Pow.{pow_mono}
use Rattle.axp_base.specs.Sizes.{bits_of, bytes_of}
use Rattle.axp_base.specs.declared.sizes.Size.{Size}
use Rattle.axp_base.specs.declared.sizes.Size.TheVariants.{Byte, Word, Long, Quad}
use Rattle.axp_bytes.specs.Results.{from_byte, below_byte}

pub moved_up_whole : (x n : ℕ) → x < 2 ^ 64 → n < 8 → x * 2 ^ (8 * n) % 2 ^ 128 ≡ x * 2 ^ (8 * n)
moved_up_whole x n h k = shl_whole x 64 (8 * n) 128 h (omega arith)

pub below_mask : (a n : ℕ) → n < 8 → bit_and a (1 * 2 ^ (8 * n) % 2 ^ 64 - 1) ≡ below_byte a n
below_mask a n h = rw (one_shl (8 * n) 64 (omega arith)) (and_mask a (8 * n))

pub from_whole : (a n : ℕ) → a < 2 ^ 64 → n < 8 → a / 2 ^ (8 * n) * 2 ^ (8 * n) % 2 ^ 64 ≡ from_byte a n
from_whole a n h k =
    let lt : a / 2 ^ (8 * n) * 2 ^ (8 * n) ≤ a = omega (arith, shr_split a (8 * n)) in
    mod-eq_of_lt (omega arith)

pub from_none : (a n : ℕ) → a < 2 ^ 64 → 8 ≤ n → from_byte a n ≡ 0
from_none a n h k =
    let up : 2 ^ 64 ≤ 2 ^ (8 * n) = pow_mono {i = 64} {j = 8 * n} (omega arith) in
    let none : a / 2 ^ (8 * n) ≡ 0 = div-eq_of_lt (omega arith) in
    rw (none, zero-mul) refl

-- the bytes from n + s on, and those below n
pub parts_fit : (a n s : ℕ) → a < 2 ^ 64 → from_byte a (n + s) + below_byte a n < 2 ^ 64
parts_fit a n s h =
    let e : 8 * (n + s) ≡ 8 * s + 8 * n = omega arith in
    let t : a % 2 ^ (8 * (n + s)) ≡ (a / 2 ^ (8 * n) % 2 ^ (8 * s)) * 2 ^ (8 * n) + a % 2 ^ (8 * n) = rw e (mod-pow-add a (8 * s) (8 * n)) in
    omega (arith, shr_split a (8 * (n + s)))

pub bits_by_bytes : (size : Size) → (bits_of size ≡ 8 * bytes_of size) × (bytes_of size ≤ 8)
bits_by_bytes Byte = (refl, omega arith)
bits_by_bytes Word = (refl, omega arith)
bits_by_bytes Long = (refl, omega arith)
bits_by_bytes Quad = (refl, omega arith)
