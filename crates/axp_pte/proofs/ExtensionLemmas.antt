-- The bits of an extended address, one by one.
use Rattle.std.proofs.Common.{◌≡◌, ℕ, zero, suc, ◌+◌, ◌-◌, ◌*◌, ◌/◌, ◌%◌, ◌^◌, ◌<◌, ◌≤◌, ◌||◌, ◌⊎◌, inl, inr, Bool, true, false, arith, refl, sym, ap, ◌∙◌, ⊎_elim}
use Rattle.std.specs.Prelude.{◌==◌, ◌↔◌}
use Rattle.std.specs.Int.{bit_at}
use Rattle.std.proofs.lemmas.Bool.{eqb-true, cases_eq}
use Rattle.std.proofs.lemmas.Nat.Bits.{bit_at-lt, bit_at-zero, bit_at_ones, bit_at_cat_high, same_from_bits_below}
use Rattle.axp_pte.specs.Addresses.{is_extended}
use Rattle.axp_base.specs.Masks.{has_bit}

-- a bit from 42 on is a bit of the number above
high_bit : (va n : ℕ) → 42 ≤ n → bit_at va n ≡ bit_at (va / 2 ^ 42) (n - 42)
high_bit va n from =
    let parts : va ≡ va / 2 ^ 42 * 2 ^ 42 + va % 2 ^ 42 = omega arith in
    ap (λ x. bit_at x n) parts ∙ bit_at_cat_high (va / 2 ^ 42) 42 (va % 2 ^ 42) n (omega arith) from

-- bits of the same test are the same
same_bit : (a b : ℕ) → a < 2 → b < 2 → (a == 1) ≡ (b == 1) → a ≡ b
same_bit zero zero p q h = refl
same_bit zero (suc zero) p q h = cc
same_bit (suc zero) zero p q h = cc
same_bit (suc zero) (suc zero) p q h = refl
same_bit (suc (suc a)) b p q h = absurd (omega (arith, p))
same_bit zero (suc (suc b)) p q h = absurd (omega (arith, q))
same_bit (suc zero) (suc (suc b)) p q h = absurd (omega (arith, q))

one_of : (a b : Bool) → (a || b) ≡ true → (a ≡ true) ⊎ (b ≡ true)
one_of true b h = inl refl
one_of false b h = inr h

-- all bits of the number above are the same
all_same : (h i : ℕ) → (h ≡ 0) ⊎ (h ≡ 2 ^ 22 - 1) → i < 22 → bit_at h i ≡ bit_at h 0
all_same h i which small =
    ⊎_elim
    (λ (none : h ≡ 0). rw none (bit_at-zero i ∙ sym (bit_at-zero 0)))
    (λ (ones : h ≡ 2 ^ 22 - 1). rw ones (bit_at_ones 22 i small ∙ sym (bit_at_ones 22 0 (omega arith))))
    which

repeats_there : (va : ℕ) → is_extended va ≡ true → (n : ℕ) → 43 ≤ n → n < 64 → has_bit va n ≡ has_bit va 42
repeats_there va h n from below =
    let h0 = va / 2 ^ 42 in
    let which : (h0 ≡ 0) ⊎ (h0 ≡ 2 ^ 22 - 1) =
    ⊎_elim (λ a. inl (eqb-true h0 0 a)) (λ b. inr (eqb-true h0 (2 ^ 22 - 1) b)) (one_of (h0 == 0) (h0 == 2 ^ 22 - 1) h) in
    let same : bit_at va n ≡ bit_at va 42 = high_bit va n (omega (arith, from)) ∙ all_same h0 (n - 42) which (omega (arith, from, below)) ∙ sym (high_bit va 42 (omega arith)) in
    ap (λ b. b == 1) same

extended_by : (h : ℕ) → (h ≡ 0) ⊎ (h ≡ 2 ^ 22 - 1) → ((h == 0) || (h == 2 ^ 22 - 1)) ≡ true
extended_by h which =
    ⊎_elim
    (λ (none : h ≡ 0). rw none refl)
    (λ (ones : h ≡ 2 ^ 22 - 1). rw ones refl)
    which

-- a number of 22 bits that all equal the lowest
none_or_all : (h : ℕ) → h < 2 ^ 22 → ((i : ℕ) → i < 22 → bit_at h i ≡ bit_at h 0) → (h ≡ 0) ⊎ (h ≡ 2 ^ 22 - 1)
none_or_all h small same =
    ⊎_elim
    (λ (one : bit_at h 0 ≡ 1). inr (same_from_bits_below 22 h (2 ^ 22 - 1) small (omega arith) (λ i below. same i below ∙ one ∙ sym (bit_at_ones 22 i below))))
    (λ other.
    let none : bit_at h 0 ≡ 0 = let low = bit_at-lt h 0 in omega (arith, low, other) in
    inl (same_from_bits_below 22 h 0 small (omega arith) (λ i below. same i below ∙ none ∙ sym (bit_at-zero i))))
    (cases_eq (bit_at h 0) 1)

above_42 : (va i : ℕ) → ((n : ℕ) → 43 ≤ n → n < 64 → has_bit va n ≡ has_bit va 42) → i < 22 → bit_at (va / 2 ^ 42) i ≡ bit_at (va / 2 ^ 42) 0
above_42 va zero repeats below = refl
above_42 va (suc i) repeats below =
    let n = suc i + 42 in
    let back : n - 42 ≡ suc i = omega arith in
    let same : bit_at va n ≡ bit_at va 42 = same_bit (bit_at va n) (bit_at va 42) (bit_at-lt va n) (bit_at-lt va 42) (repeats n (omega arith) (omega (arith, below))) in
    ap (bit_at (va / 2 ^ 42)) (sym back) ∙ sym (high_bit va n (omega arith)) ∙ same ∙ high_bit va 42 (omega arith)

pub extended_repeats : (va : ℕ) → va < 2 ^ 64 → (is_extended va ≡ true) ↔ ((n : ℕ) → 43 ≤ n → n < 64 → has_bit va n ≡ has_bit va 42)
extended_repeats va small =
    (repeats_there va, λ repeats. extended_by (va / 2 ^ 42) (none_or_all (va / 2 ^ 42) (omega (arith, small)) (λ i below. above_42 va i repeats below)))
