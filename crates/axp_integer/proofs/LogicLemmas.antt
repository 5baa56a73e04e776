-- The bits of the rows of logic, and of AMASK.
use Rattle.std.proofs.Common.{◌≡◌, ℕ, zero, suc, ◌+◌, ◌-◌, ◌*◌, ◌/◌, ◌%◌, ◌^◌, ◌<◌, Bool, true, false, eqb, min, max, bit_and, bit_or, bit_xor, arith, refl, sym, ap, ◌∙◌}
use Rattle.std.specs.Prelude.{not, ◌&&◌, ◌||◌, if◌then◌else◌}
use Rattle.std.specs.Int.{bit_at, w64}
use Rattle.std.proofs.lemmas.Nat.Bits.{bit_at_and, bit_at_or, bit_at_xor, bit_at_not, bit_at-lt, bit_at-suc, bit_at_lowest, same_from_bits_below}
use Rattle.std.proofs.lemmas.Nat.{and_le_l, or_lt, xor_lt}
use Rattle.axp_base.specs.Masks.{has_bit}
use Rattle.axp_base.specs.Numbers.{complement}
use Rattle.axp_decode.specs.declared.names.Op.TheVariants.{AND, BIC, BIS, ORNOT, XOR, EQV, AMASK}
use Rattle.axp_integer.specs.Rows.{value_of}

-- one bit of each
min_bit : (u v : ℕ) → u < 2 → v < 2 → eqb (min u v) 1 ≡ (eqb u 1 && eqb v 1)
min_bit zero zero p q = refl
min_bit zero (suc zero) p q = refl
min_bit (suc zero) zero p q = refl
min_bit (suc zero) (suc zero) p q = refl
min_bit (suc (suc u)) v p q = absurd (omega (arith, p))
min_bit zero (suc (suc v)) p q = absurd (omega (arith, q))
min_bit (suc zero) (suc (suc v)) p q = absurd (omega (arith, q))

max_bit : (u v : ℕ) → u < 2 → v < 2 → eqb (max u v) 1 ≡ (eqb u 1 || eqb v 1)
max_bit zero zero p q = refl
max_bit zero (suc zero) p q = refl
max_bit (suc zero) zero p q = refl
max_bit (suc zero) (suc zero) p q = refl
max_bit (suc (suc u)) v p q = absurd (omega (arith, p))
max_bit zero (suc (suc v)) p q = absurd (omega (arith, q))
max_bit (suc zero) (suc (suc v)) p q = absurd (omega (arith, q))

sum_bit : (u v : ℕ) → u < 2 → v < 2 → eqb ((u + v) % 2) 1 ≡ (if eqb u 1 then not (eqb v 1) else eqb v 1)
sum_bit zero zero p q = refl
sum_bit zero (suc zero) p q = refl
sum_bit (suc zero) zero p q = refl
sum_bit (suc zero) (suc zero) p q = refl
sum_bit (suc (suc u)) v p q = absurd (omega (arith, p))
sum_bit zero (suc (suc v)) p q = absurd (omega (arith, q))
sum_bit (suc zero) (suc (suc v)) p q = absurd (omega (arith, q))

other_bit : (u : ℕ) → u < 2 → eqb (1 - u) 1 ≡ not (eqb u 1)
other_bit zero p = refl
other_bit (suc zero) p = refl
other_bit (suc (suc u)) p = absurd (omega (arith, p))

pub and_has : (a b n : ℕ) → has_bit (bit_and a b) n ≡ (has_bit a n && has_bit b n)
and_has a b n = ap (λ y. eqb y 1) (bit_at_and a b n) ∙ min_bit (bit_at a n) (bit_at b n) (bit_at-lt a n) (bit_at-lt b n)

pub or_has : (a b n : ℕ) → has_bit (bit_or a b) n ≡ (has_bit a n || has_bit b n)
or_has a b n = ap (λ y. eqb y 1) (bit_at_or a b n) ∙ max_bit (bit_at a n) (bit_at b n) (bit_at-lt a n) (bit_at-lt b n)

pub xor_has : (a b n : ℕ) → has_bit (bit_xor a b) n ≡ (if has_bit a n then not (has_bit b n) else has_bit b n)
xor_has a b n = ap (λ y. eqb y 1) (bit_at_xor a b n) ∙ sum_bit (bit_at a n) (bit_at b n) (bit_at-lt a n) (bit_at-lt b n)

complement_has : (b n : ℕ) → b < 2 ^ 64 → n < 64 → has_bit (complement b) n ≡ not (has_bit b n)
complement_has b n small below = ap (λ y. eqb y 1) (bit_at_not w64 b n small below) ∙ other_bit (bit_at b n) (bit_at-lt b n)

twice_not : (x y : Bool) → (if x then not (not y) else not y) ≡ (if x then y else not y)
twice_not true true = refl
twice_not true false = refl
twice_not false y = refl

pub and_bits : (a b old n : ℕ) → has_bit (value_of AND a b old) n ≡ (has_bit a n && has_bit b n)
unfolding value_of
and_bits a b old n = and_has a b n

pub bis_bits : (a b old n : ℕ) → has_bit (value_of BIS a b old) n ≡ (has_bit a n || has_bit b n)
unfolding value_of
bis_bits a b old n = or_has a b n

pub xor_bits : (a b old n : ℕ) → has_bit (value_of XOR a b old) n ≡ (if has_bit a n then not (has_bit b n) else has_bit b n)
unfolding value_of
xor_bits a b old n = xor_has a b n

pub bic_bits : (a b old n : ℕ) → b < 2 ^ 64 → n < 64 → has_bit (value_of BIC a b old) n ≡ (has_bit a n && not (has_bit b n))
unfolding value_of
bic_bits a b old n small below = and_has a (complement b) n ∙ ap (λ y. has_bit a n && y) (complement_has b n small below)

pub ornot_bits : (a b old n : ℕ) → b < 2 ^ 64 → n < 64 → has_bit (value_of ORNOT a b old) n ≡ (has_bit a n || not (has_bit b n))
unfolding value_of
ornot_bits a b old n small below = or_has a (complement b) n ∙ ap (λ y. has_bit a n || y) (complement_has b n small below)

pub eqv_bits : (a b old n : ℕ) → b < 2 ^ 64 → n < 64 → has_bit (value_of EQV a b old) n ≡ (if has_bit a n then has_bit b n else not (has_bit b n))
unfolding value_of
eqv_bits a b old n small below =
    xor_has a (complement b) n ∙ ap (λ y. if has_bit a n then not y else y) (complement_has b n small below) ∙ twice_not (has_bit a n) (has_bit b n)

-- AMASK clears bit 0 alone
pub amask_lowest : (a b old : ℕ) → has_bit (value_of AMASK a b old) 0 ≡ false
unfolding value_of
amask_lowest a b old =
    let even : b / 2 * 2 % 2 ≡ 0 = omega arith in
    ap (λ y. eqb y 1) (bit_at_lowest (b / 2 * 2) ∙ even)

pub amask_above : (a b old n : ℕ) → 0 < n → has_bit (value_of AMASK a b old) n ≡ has_bit b n
unfolding value_of
amask_above a b old zero h = absurd (omega (arith, h))
amask_above a b old (suc n) h =
    let half : b / 2 * 2 / 2 ≡ b / 2 = omega arith in
    ap (λ y. eqb y 1) (bit_at-suc (b / 2 * 2) n ∙ ap (λ y. bit_at y n) half ∙ sym (bit_at-suc b n))

-- a complement by another row
pub eqv_complements : (a b old : ℕ) → a < 2 ^ 64 → b < 2 ^ 64 → value_of EQV a b old ≡ complement (value_of XOR a b old)
unfolding value_of
eqv_complements a b old small fits =
    let joined = xor_lt 64 a b small fits in
    same_from_bits_below 64 (bit_xor a (complement b)) (complement (bit_xor a b)) (xor_lt 64 a (complement b) small (omega arith)) (omega arith)
    (λ n below.
    let one = bit_at-lt a n in
    let other = bit_at-lt b n in
    let turned = bit_at_not w64 b n fits below in
    let whole = bit_at_not w64 (bit_xor a b) n joined below in
    let left = bit_at_xor a (complement b) n in
    let right = bit_at_xor a b n in
    omega (arith, one, other, turned, whole, left, right))

pub bic_complements : (a b old : ℕ) → a < 2 ^ 64 → b < 2 ^ 64 → value_of BIC a b old ≡ complement (value_of ORNOT b a old)
unfolding value_of
bic_complements a b old small fits =
    let joined = or_lt 64 b (complement a) fits (omega arith) in
    same_from_bits_below 64 (bit_and a (complement b)) (complement (bit_or b (complement a))) (omega (arith, and_le_l a (complement b))) (omega arith)
    (λ n below.
    let one = bit_at-lt a n in
    let other = bit_at-lt b n in
    let turned = bit_at_not w64 b n fits below in
    let turned_a = bit_at_not w64 a n small below in
    let whole = bit_at_not w64 (bit_or b (complement a)) n joined below in
    let left = bit_at_and a (complement b) n in
    let right = bit_at_or b (complement a) n in
    omega (arith, one, other, turned, turned_a, whole, left, right))
