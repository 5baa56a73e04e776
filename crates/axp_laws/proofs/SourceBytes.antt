-- The bytes of a number that is made of bytes.
use Rattle.std.proofs.Common.{ℕ, zero, suc, ◌+◌, ◌*◌, ◌/◌, ◌%◌, ◌^◌, ◌-◌, ◌<◌, ◌≤◌, ◌≡◌, ⊎_elim, ap, ◌∙◌, arith}
use Rattle.std.proofs.Math.Nat.{add-mul-div_right, add-mul-mod_self_right}
use Rattle.std.proofs.lemmas.Nat.{div-mul-add, pow-add, pow_pos}
use Rattle.std.proofs.lemmas.Bool.{cases_lt}
use Rattle.axp_base.specs.Parts.{byte, number_at}
use Rattle.axp_base.proofs.PartLemmas.{number_at_small}

-- a byte moved up changes no byte below
below : (x y i j : ℕ) → (x + y * 2 ^ (8 * (i + (j + 1)))) / 2 ^ (8 * i) % 2 ^ 8 ≡ x / 2 ^ (8 * i) % 2 ^ 8
below x y i j =
    let up : 2 ^ (8 * (i + (j + 1))) ≡ 2 ^ (8 * j) * 2 ^ 8 * 2 ^ (8 * i) = ap (λ n. 2 ^ n) (eight i j) ∙ pow-add 2 (8 * j + 8) (8 * i) ∙ ap (λ n. n * 2 ^ (8 * i)) (pow-add 2 (8 * j) 8) in
    let moved : y * 2 ^ (8 * (i + (j + 1))) ≡ y * 2 ^ (8 * j) * 2 ^ 8 * 2 ^ (8 * i) = ap (λ n. y * n) up ∙ regroup y (2 ^ (8 * j)) (2 ^ (8 * i)) in
    rw moved (ap (λ n. n % 2 ^ 8) (add-mul-div_right x (y * 2 ^ (8 * j) * 2 ^ 8) (pow_pos (8 * i))) ∙ add-mul-mod_self_right (x / 2 ^ (8 * i)) (y * 2 ^ (8 * j)) (2 ^ 8)) where
      eight : (i j : ℕ) → 8 * (i + (j + 1)) ≡ 8 * j + 8 + 8 * i
      eight i j = omega arith

      regroup : (y a b : ℕ) → y * (a * 2 ^ 8 * b) ≡ y * a * 2 ^ 8 * b
      regroup y a b = grind arith

-- the bytes are those that it is made of
pub byte-number_at : (f : ℕ → ℕ) (a n i : ℕ) → ((k : ℕ) → f k < 256) → i < n → byte (number_at f a n) i ≡ f (a + i)
unfolding number_at
byte-number_at f a zero i small less = omega (arith, less)
byte-number_at f a (suc n) i small less =
    ⊎_elim
    (λ (lower : i < n).
    let n_is : n ≡ i + (n - i - 1 + 1) = omega arith in
    ap (λ m. (number_at f a n + f (a + n) * 2 ^ (8 * m)) / 2 ^ (8 * i) % 2 ^ 8) n_is ∙ below (number_at f a n) (f (a + n)) i (n - i - 1) ∙ byte-number_at f a n i small lower)
    (λ (upper : n ≤ i).
    let same : i ≡ n = omega (arith, less) in
    rw same (ap (λ m. m / 2 ^ (8 * n) % 2 ^ 8) (swapped (number_at f a n) (f (a + n) * 2 ^ (8 * n))) ∙ ap (λ m. m % 2 ^ 8) (div-mul-add (f (a + n)) (2 ^ (8 * n)) (number_at f a n) (number_at_small f a n small)) ∙ byte_small (f (a + n)) (small (a + n))))
    (cases_lt i n) where
      swapped : (x y : ℕ) → x + y ≡ y + x
      swapped x y = omega arith

      byte_small : (x : ℕ) → x < 256 → x % 2 ^ 8 ≡ x
      byte_small x less = omega arith
