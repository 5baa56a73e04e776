-- The comparison of bytes: one byte more, and each bit.
use Rattle.std.proofs.Common.{◌≡◌, ℕ, zero, suc, ◌+◌, ◌-◌, ◌*◌, ◌^◌, ◌<◌, ◌≤◌, Bool, true, false, cond, eqb, leb, arith, refl, sym, ap, ◌∙◌, add-one, ⊎_elim}
use Rattle.std.specs.Int.{bit_at}
use Rattle.std.proofs.Math.Pow.{pow_mono}
use Rattle.std.proofs.lemmas.Bool.{cases_eq}
use Rattle.std.proofs.lemmas.Nat.Bits.{bit_at_cat_low, bit_at_cat_high}
use Rattle.axp_base.specs.Masks.{has_bit}
use Rattle.axp_base.specs.Parts.{byte}
use Rattle.axp_decode.specs.declared.names.Op.TheVariants.{CMPBGE}
use Rattle.axp_integer.specs.Results.{bytes_at_least}
use Rattle.axp_integer.specs.Rows.{value_of}

pub bytes_at_least_small : (n a b : ℕ) → bytes_at_least n a b < 2 ^ n
unfolding bytes_at_least
bytes_at_least_small zero a b = omega arith
bytes_at_least_small (suc n) a b = grind (arith, bytes_at_least_small n a b)

pub bytes_at_least_none : (a b : ℕ) → bytes_at_least 0 a b ≡ 0
unfolding bytes_at_least
bytes_at_least_none a b = refl

pub bytes_at_least_more : (n a b : ℕ) → (bytes_at_least (n + 1) a b ≡ bytes_at_least n a b + cond (leb (byte b n) (byte a n)) (2 ^ n) 0) × (bytes_at_least n a b < 2 ^ n)
unfolding bytes_at_least
bytes_at_least_more n a b = (rw add-one refl, bytes_at_least_small n a b)

pub bytes_at_least_fits : (n a b : ℕ) → n < 8 → bytes_at_least n a b + cond (leb (byte b n) (byte a n)) (2 ^ n) 0 < 2 ^ 64
unfolding bytes_at_least
bytes_at_least_fits n a b few =
    let up : 2 ^ suc n ≤ 2 ^ 64 = pow_mono {i = suc n} {j = 64} (omega arith) in
    let lt : bytes_at_least (suc n) a b < 2 ^ suc n = bytes_at_least_small (suc n) a b in
    omega (arith, lt)

-- a bit of the comparison
one_or_none : (t : Bool) (p : ℕ) → cond t p 0 ≡ cond t 1 0 * p
one_or_none true p = omega arith
one_or_none false p = omega arith

single_bit : (t : Bool) → eqb (bit_at (cond t 1 0) 0) 1 ≡ t
single_bit true = refl
single_bit false = refl

with_top : (n a b : ℕ) → bytes_at_least (suc n) a b ≡ cond (leb (byte b n) (byte a n)) 1 0 * 2 ^ n + bytes_at_least n a b
unfolding bytes_at_least
with_top n a b = omega (arith, one_or_none (leb (byte b n) (byte a n)) (2 ^ n))

pub bytes_at_least_has : (m a b n : ℕ) → n < m → has_bit (bytes_at_least m a b) n ≡ leb (byte b n) (byte a n)
bytes_at_least_has zero a b n h = absurd (omega (arith, h))
bytes_at_least_has (suc m) a b n h =
    let top : ℕ = cond (leb (byte b m) (byte a m)) 1 0 in
    let low : ℕ = bytes_at_least m a b in
    let split = ap (λ y. has_bit y n) (with_top m a b) in
    ⊎_elim
    (λ (e : n ≡ m).
    let none : n - m ≡ 0 = omega arith in
    split ∙ ap (λ y. eqb y 1) (bit_at_cat_high top m low n (bytes_at_least_small m a b) (omega (arith, e)) ∙ ap (bit_at top) none) ∙ single_bit (leb (byte b m) (byte a m)) ∙ ap (λ k. leb (byte b k) (byte a k)) (sym e))
    (λ (ne : n ≡ m → ⊥). split ∙ ap (λ y. eqb y 1) (bit_at_cat_low top m low n (omega arith)) ∙ bytes_at_least_has m a b n (omega arith))
    (cases_eq n m)

pub cmpbge_has : (a b old n : ℕ) → n < 8 → has_bit (value_of CMPBGE a b old) n ≡ leb (byte b n) (byte a n)
unfolding value_of
cmpbge_has a b old n h = bytes_at_least_has 8 a b n h

pub cmpbge_small : (a b old : ℕ) → value_of CMPBGE a b old < 2 ^ 8
unfolding value_of
cmpbge_small a b old = bytes_at_least_small 8 a b
