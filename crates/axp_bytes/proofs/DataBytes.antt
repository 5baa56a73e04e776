-- Extract, insert and mask, byte by byte.
use Rattle.std.proofs.Common.{◌≡◌, ℕ, ◌+◌, ◌-◌, ◌*◌, ◌/◌, ◌%◌, ◌^◌, ◌<◌, ◌≤◌, nat_lt, arith, refl, sym, ap, ◌∙◌, cond}
use Rattle.std.proofs.lemmas.Nat.{mod_below, pow_pos}
use Rattle.std.proofs.Math.Pow.{pow_mono}
use Rattle.axp_base.specs.Parts.{byte}
use Rattle.axp_base.specs.Sizes.{bits_of, bytes_of, low_datum}
use Rattle.axp_base.specs.declared.sizes.Size.{Size}
use Rattle.axp_bytes.specs.Results.{extracted_low, extracted_high, moved_up, inserted_low, inserted_high, below_byte, from_byte, masked_low, masked_high}
use Rattle.axp_bytes.proofs.ByteLemmas.{byte_low, byte_cut, byte_left, byte_right, if_below, when_below, when_from, step_low, step_high}
use Rattle.axp_bytes.proofs.CrossingData.{mod_within}
use Rattle.axp_bytes.proofs.DataParts.{bits_by_bytes}

same_either : (i k x : ℕ) → cond (nat_lt i k) x x ≡ x
same_either i k x = sym (if_below i k x x x (λ below. refl) (λ from. refl))

datum_byte : (size : Size) (x i : ℕ) → byte (low_datum size x) i ≡ cond (nat_lt i (bytes_of size)) (byte x i) 0
datum_byte size x i = ap (λ y. byte (x % 2 ^ y) i) (bits_by_bytes size).0 ∙ byte_cut x (bytes_of size) i

pub extracted_low_byte : (size : Size) (a n i : ℕ) → byte (extracted_low size a n) i ≡ cond (nat_lt i (bytes_of size)) (byte a (i + n)) 0
extracted_low_byte size a n i = datum_byte size (a / 2 ^ (8 * n)) i ∙ ap (λ y. cond (nat_lt i (bytes_of size)) y 0) (byte_right a n i)

moved_byte : (size : Size) (a n i : ℕ) → byte (moved_up size a n) i ≡ cond (nat_lt i n) 0 (cond (nat_lt (i - n) (bytes_of size)) (byte a (i - n)) 0)
moved_byte size a n i = byte_left (low_datum size a) n i ∙ ap (cond (nat_lt i n) 0) (datum_byte size a (i - n))

from_byte_byte : (a s i : ℕ) → byte (from_byte a s) i ≡ cond (nat_lt i s) 0 (byte a i)
from_byte_byte a s i =
    if_below i s _ _ _
    (λ below. byte_left (a / 2 ^ (8 * s)) s i ∙ when_below i s _ _ below)
    (λ from.
    let e : (i - s) + s ≡ i = omega arith in
    byte_left (a / 2 ^ (8 * s)) s i ∙ when_from i s _ _ from ∙ byte_right a s (i - s) ∙ ap (byte a) e)

pub inserted_low_byte : (size : Size) (a n i : ℕ) → i < 8 → byte (inserted_low size a n) i ≡ cond (nat_lt i n) 0 (cond (nat_lt i (n + bytes_of size)) (byte a (i - n)) 0)
inserted_low_byte size a n i h =
    let known : byte (inserted_low size a n) i ≡ cond (nat_lt i n) 0 (cond (nat_lt (i - n) (bytes_of size)) (byte a (i - n)) 0)
    = byte_low (moved_up size a n) 64 i (omega arith) ∙ moved_byte size a n i in
    if_below i n _ _ _
    (λ below. known ∙ when_below i n _ _ below)
    (λ from.
    if_below i (n + bytes_of size) _ _ _
    (λ inside. known ∙ when_from i n _ _ from ∙ when_below (i - n) (bytes_of size) _ _ (omega arith))
    (λ past. known ∙ when_from i n _ _ from ∙ when_from (i - n) (bytes_of size) _ _ (omega arith)))

pub inserted_high_byte : (size : Size) (a n i : ℕ) → n < 8 → byte (inserted_high size a n) i ≡ cond (nat_lt (i + 8) (n + bytes_of size)) (byte a (i + 8 - n)) 0
inserted_high_byte size a n i h =
    let known : byte (inserted_high size a n) i ≡ cond (nat_lt (i + 8 - n) (bytes_of size)) (byte a (i + 8 - n)) 0
    = byte_right (moved_up size a n) 8 i ∙ moved_byte size a n (i + 8) ∙ when_from (i + 8) n _ _ (omega arith) in
    if_below (i + 8) (n + bytes_of size) _ _ _
    (λ inside. known ∙ when_below (i + 8 - n) (bytes_of size) _ _ (omega arith))
    (λ past. known ∙ when_from (i + 8 - n) (bytes_of size) _ _ (omega arith))

pub extracted_high_whole : (size : Size) (a : ℕ) → extracted_high size a 0 ≡ low_datum size a
extracted_high_whole size a =
    let e : a * 2 ^ 0 ≡ a = omega arith in
    let known = bits_by_bytes size in
    mod_within (a * 2 ^ 0) 64 (bits_of size) (omega (arith, known.0, known.1)) ∙ ap (λ y. y % 2 ^ bits_of size) e

pub extracted_high_byte : (size : Size) (a n i : ℕ) → 0 < n → n < 8 → i < 8 → byte (extracted_high size a n) i ≡ cond (nat_lt (i + n) 8) 0 (cond (nat_lt i (bytes_of size)) (byte a (i + n - 8)) 0)
extracted_high_byte size a n i some place h =
    let m : (64 - 8 * n) % 64 ≡ 8 * (8 - n) = omega arith in
    let e : i - (8 - n) ≡ i + n - 8 = omega arith in
    let moved : byte (a * 2 ^ ((64 - 8 * n) % 64) % 2 ^ 64) i ≡ cond (nat_lt i (8 - n)) 0 (byte a (i - (8 - n)))
    = byte_low (a * 2 ^ ((64 - 8 * n) % 64)) 64 i (omega arith) ∙ ap (λ y. byte (a * 2 ^ y) i) m ∙ byte_left a (8 - n) i in
    let known : byte (extracted_high size a n) i ≡ cond (nat_lt i (bytes_of size)) (cond (nat_lt i (8 - n)) 0 (byte a (i - (8 - n)))) 0
    = datum_byte size (a * 2 ^ ((64 - 8 * n) % 64) % 2 ^ 64) i ∙ ap (λ y. cond (nat_lt i (bytes_of size)) y 0) moved in
    if_below (i + n) 8 _ _ _
    (λ below. known ∙ ap (λ y. cond (nat_lt i (bytes_of size)) y 0) (when_below i (8 - n) _ _ (omega arith)) ∙ same_either i (bytes_of size) 0)
    (λ from. known ∙ ap (λ y. cond (nat_lt i (bytes_of size)) y 0) (when_from i (8 - n) _ _ (omega arith) ∙ ap (byte a) e))

pub masked_low_byte : (size : Size) (a n i : ℕ) → byte (masked_low size a n) i ≡ cond (nat_lt i n) (byte a i) (cond (nat_lt i (n + bytes_of size)) 0 (byte a i))
masked_low_byte size a n i =
    let s = n + bytes_of size in
    let lt : below_byte a n < 2 ^ (8 * n) = mod_below a (2 ^ (8 * n)) (pow_pos (8 * n)) in
    let up : 2 ^ (8 * n) ≤ 2 ^ (8 * s) = pow_mono {i = 8 * n} {j = 8 * s} (omega arith) in
    let small : below_byte a n < 2 ^ (8 * s) = omega arith in
    let low : i < s → byte (masked_low size a n) i ≡ cond (nat_lt i n) (byte a i) 0
    = λ inside. step_low (below_byte a n) (a / 2 ^ (8 * s)) s i small inside ∙ byte_cut a n i in
    if_below i n _ _ _
    (λ below. low (omega arith) ∙ when_below i n _ _ below)
    (λ from.
    if_below i s _ _ _
    (λ inside. low inside ∙ when_from i n _ _ from)
    (λ past.
    let e : (i - s) + s ≡ i = omega arith in
    step_high (below_byte a n) (a / 2 ^ (8 * s)) s i small past ∙ byte_right a s (i - s) ∙ ap (byte a) e))

pub masked_high_byte : (size : Size) (a n i : ℕ) → byte (masked_high size a n) i ≡ cond (nat_lt (i + 8) (n + bytes_of size)) 0 (byte a i)
masked_high_byte size a n i =
    if_below (i + 8) (n + bytes_of size) _ _ _
    (λ below. from_byte_byte a (n + bytes_of size - 8) i ∙ when_below i (n + bytes_of size - 8) _ _ (omega arith))
    (λ past. from_byte_byte a (n + bytes_of size - 8) i ∙ when_from i (n + bytes_of size - 8) _ _ (omega arith))
