-- Mask, insert and BIS store an unaligned datum.
use Rattle.std.proofs.Common.{◌≡◌, ℕ, ◌+◌, ◌-◌, ◌*◌, ◌/◌, ◌%◌, ◌^◌, ◌<◌, ◌≤◌, arith, ap, sym, ◌∙◌, ⊎_elim}
use Rattle.std.specs.Int.Bits.{bit_or, or_zero_r}
use Rattle.std.proofs.lemmas.Bool.{cases_lt}
use Rattle.std.proofs.lemmas.Nat.{pow_pos, pow-add, mod_below, shl_whole, shl_below, shr_split}
use Rattle.std.proofs.Math.Nat.{div-eq_of_lt}
use Rattle.std.proofs.Math.Pow.{pow_mono}
use Rattle.axp_base.specs.Sizes.{bits_of, bytes_of, low_datum}
use Rattle.axp_base.specs.declared.sizes.Size.{Size}
use Rattle.axp_bytes.specs.Results.{from_byte, masked_high, inserted_high}
use Rattle.axp_bytes.specs.Unaligned.{joined, stored_first, stored_last, replaced}
use Rattle.axp_bytes.proofs.DataParts.{from_none, bits_by_bytes}
use Rattle.axp_bytes.proofs.CrossingData.{moved_low, moved_high, put_low, put_high, put_inside, both_below, both_above, shifted_both}

-- what two quadwords a and b become where a datum x of k bits, i bits up, ends d bits into the second;
-- j is what the first has from bit i on, and c what it has past the datum
crossing_parts : (a b x i j d : ℕ) → a < 2 ^ (i + j)
    → x % 2 ^ j * 2 ^ i + a % 2 ^ i + (b / 2 ^ d * 2 ^ d + x / 2 ^ j) * 2 ^ (i + j)
    ≡ (a + b * 2 ^ (i + j)) / 2 ^ (i + j + d) * 2 ^ (i + j + d) + x * 2 ^ i + a % 2 ^ i
crossing_parts a b x i j d h =
    let top = both_above a b (i + j) d h in
    let split = shr_split x j in
    let e : x * 2 ^ i ≡ x / 2 ^ j * 2 ^ (i + j) + x % 2 ^ j * 2 ^ i = ap (λ y. y * 2 ^ i) (sym split) ∙ rw (pow-add 2 i j) (omega arith) in
    rw (top, e, pow-add 2 (i + j) d) (omega arith)

-- w is the end of the first quadword, u that of the datum
crossing_by_bits : (a b x c i j d k w u : ℕ) → w ≡ j + i → k ≡ d + j → u ≡ w + d → a < 2 ^ w → x < 2 ^ k → c ≡ 0
    → bit_or (c + a % 2 ^ i) (x * 2 ^ i % 2 ^ w) + bit_or (b / 2 ^ d * 2 ^ d) (x * 2 ^ i / 2 ^ w) * 2 ^ w
    ≡ (a + b * 2 ^ w) / 2 ^ u * 2 ^ u + x * 2 ^ i + (a + b * 2 ^ w) % 2 ^ i
crossing_by_bits a b x c i j d k w u e f g h small none =
    let turned : w ≡ i + j = omega arith in
    let low : x * 2 ^ i % 2 ^ w ≡ x % 2 ^ j * 2 ^ i = ap (λ y. x * 2 ^ i % 2 ^ y) e ∙ moved_low x i j in
    let high : x * 2 ^ i / 2 ^ w ≡ x / 2 ^ j = ap (λ y. x * 2 ^ i / 2 ^ y) turned ∙ moved_high x i j in
    let below : (a + b * 2 ^ w) % 2 ^ i ≡ a % 2 ^ i = ap (λ y. (a + b * 2 ^ y) % 2 ^ i) e ∙ both_below a b i j in
    let fits : x < 2 ^ (d + j) = rw f at small in
    let first : bit_or (c + a % 2 ^ i) (x % 2 ^ j * 2 ^ i) ≡ x % 2 ^ j * 2 ^ i + a % 2 ^ i = put_low a (x % 2 ^ j) c i none in
    let last : bit_or (b / 2 ^ d * 2 ^ d) (x / 2 ^ j) ≡ b / 2 ^ d * 2 ^ d + x / 2 ^ j = put_high (b / 2 ^ d) x j d fits in
    let whole : a < 2 ^ (i + j) = rw turned at h in
    rw (low, high, below, first, last, g, turned) (crossing_parts a b x i j d whole)

inside_by_bits : (a b x i k t w u : ℕ) → w ≡ t + u → u ≡ k + i → a < 2 ^ w → x < 2 ^ k
    → (bit_or (a / 2 ^ u * 2 ^ u + a % 2 ^ i) (x * 2 ^ i % 2 ^ w) ≡ a / 2 ^ u * 2 ^ u + x * 2 ^ i + a % 2 ^ i)
    × (x * 2 ^ i / 2 ^ w ≡ 0)
    × (a / 2 ^ u * 2 ^ u + x * 2 ^ i + a % 2 ^ i + b * 2 ^ w ≡ (a + b * 2 ^ w) / 2 ^ u * 2 ^ u + x * 2 ^ i + (a + b * 2 ^ w) % 2 ^ i)
inside_by_bits a b x i k t w u e f h small =
    let less : x * 2 ^ i < 2 ^ (k + i) = shl_below x k i small in
    let whole : x * 2 ^ i % 2 ^ w ≡ x * 2 ^ i = shl_whole x k i w small (omega arith) in
    let up : 2 ^ (k + i) ≤ 2 ^ w = pow_mono {i = k + i} {j = w} (omega arith) in
    let turned : w ≡ (t + k) + i = omega arith in
    let below : (a + b * 2 ^ w) % 2 ^ i ≡ a % 2 ^ i = ap (λ y. (a + b * 2 ^ y) % 2 ^ i) turned ∙ both_below a b i (t + k) in
    let above : (a + b * 2 ^ w) / 2 ^ u ≡ b * 2 ^ t + a / 2 ^ u = ap (λ y. (a + b * 2 ^ y) / 2 ^ u) e ∙ shifted_both a b u t in
    let put = put_inside (a / 2 ^ (k + i)) x (a % 2 ^ i) i k small (mod_below a (2 ^ i) (pow_pos i)) in
    (rw (whole, f) put, div-eq_of_lt (omega arith), rw (below, above, e, pow-add 2 t u) (omega arith))

from_start : (a : ℕ) → from_byte a 0 ≡ a
from_start a = omega arith

datum_small : (size : Size) (datum : ℕ) → low_datum size datum < 2 ^ bits_of size
datum_small size datum = mod_below datum (2 ^ bits_of size) (pow_pos (bits_of size))

pub store_crossing : (size : Size) (first last datum n : ℕ) → first < 2 ^ 64 → n < 8 → 8 < n + bytes_of size
    → joined (stored_first size first datum n) (stored_last size last datum n) ≡ replaced size (joined first last) datum n
store_crossing size first last datum n small place past =
    let known = bits_by_bytes size in
    crossing_by_bits first last (low_datum size datum) (from_byte first (n + bytes_of size))
    (8 * n) (64 - 8 * n) (8 * (n + bytes_of size - 8)) (bits_of size) 64 (8 * (n + bytes_of size))
    (omega arith) (omega (arith, known.0)) (omega arith) small (datum_small size datum) (from_none first (n + bytes_of size) small (omega arith))

-- both, where the datum ends inside of the first
put_by_bits : (size : Size) (first last datum n : ℕ) → first < 2 ^ 64 → n < 8 → n + bytes_of size ≤ 8
    → (stored_first size first datum n ≡ replaced size first datum n)
    × (inserted_high size datum n ≡ 0)
    × (joined (replaced size first datum n) last ≡ replaced size (joined first last) datum n)
put_by_bits size first last datum n small place inside =
    let known = bits_by_bytes size in
    inside_by_bits first last (low_datum size datum) (8 * n) (bits_of size) (64 - 8 * (n + bytes_of size)) 64 (8 * (n + bytes_of size))
    (omega arith) (omega (arith, known.0)) small (datum_small size datum)

pub store_inside : (size : Size) (first datum n : ℕ) → first < 2 ^ 64 → n < 8 → n + bytes_of size ≤ 8 → stored_first size first datum n ≡ replaced size first datum n
store_inside size first datum n small place inside = (put_by_bits size first 0 datum n small place inside).0

pub last_kept : (size : Size) (last datum n : ℕ) → n < 8 → n + bytes_of size ≤ 8 → stored_last size last datum n ≡ last
last_kept size last datum n place inside =
    let none : n + bytes_of size - 8 ≡ 0 = omega arith in
    let put = (put_by_bits size 0 0 datum n (omega arith) place inside).1 in
    ap (bit_or (masked_high size last n)) put ∙ or_zero_r (masked_high size last n) ∙ ap (from_byte last) none ∙ from_start last

pub store_both : (size : Size) (first last datum n : ℕ) → first < 2 ^ 64 → n < 8
    → joined (stored_first size first datum n) (stored_last size last datum n) ≡ replaced size (joined first last) datum n
store_both size first last datum n small place =
    ⊎_elim
    (λ (past : 8 < n + bytes_of size). store_crossing size first last datum n small place past)
    (λ (inside : n + bytes_of size ≤ 8).
    rw (store_inside size first datum n small place inside, last_kept size last datum n place inside) (put_by_bits size first last datum n small place inside).2)
    (cases_lt 8 (n + bytes_of size))
