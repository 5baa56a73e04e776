-- One named bit of an entry.
use Rattle.std.proofs.Common.{◌≡◌, ℕ, zero, suc, min, ◌*◌, ◌/◌, ◌%◌, ◌^◌, ◌<◌, ◌≤◌, ◌&&◌, false, bit_and, arith, refl, sym, ap, ◌∙◌, ⊎_elim}
use Rattle.std.specs.Prelude.{◌==◌}
use Rattle.std.proofs.lemmas.Bool.{eq-eqb, ne_eqb, cases_eq, cases_lt}
use Rattle.std.proofs.lemmas.Nat.{and_assoc, pow_pos}
use Rattle.std.proofs.lemmas.Nat.Bits.{and_pow, bit_at-lt, bit_at_and, bit_at_above}
use Rattle.std.specs.Int.{bit_at}
use Rattle.axp_base.specs.Masks.{has_bit}
use Rattle.axp_pte.specs.Entries.{is_named, is_valid, has_asm, named_bits, valid_bit, address_space_match_bit}
use Rattle.axp_pte.specs.Protection.{allows, right_bit, fault_bit}
use Rattle.axp_pte.specs.declared.faults.Mode.{Mode}
use Rattle.axp_pte.specs.declared.faults.Mode.TheVariants.{Kernel, User}
use Rattle.axp_pte.specs.declared.faults.Way.{Way}
use Rattle.axp_pte.specs.declared.faults.Way.TheVariants.{Fetch, Load, Store}

-- a bit times p is p exactly where the bit is 1
whole_or_none : (b p : ℕ) → b < 2 → 0 < p → (b * p == p) ≡ (b == 1)
whole_or_none b p small positive =
    ⊎_elim
    (λ one. rw one (eq-eqb (1 * p) p (omega arith)))
    (λ other. let none : b ≡ 0 = omega arith in rw none (ne_eqb (0 * p) p (λ h. omega arith)))
    (cases_eq b 1)

-- a bit of a masked number, where the mask has it
masked_bit : (w mask n : ℕ) → bit_and mask (2 ^ n) ≡ 2 ^ n → (bit_and (bit_and w mask) (2 ^ n) == 2 ^ n) ≡ has_bit w n
masked_bit w mask n h =
    ap (λ x. x == 2 ^ n) (and_assoc (2 ^ n) w mask ∙ ap (bit_and w) h ∙ and_pow w n) ∙ whole_or_none (w / 2 ^ n % 2) (2 ^ n) (bit_at-lt w n) (pow_pos n)

-- the tests of the bits that are asked for
pub valid_tested : (w : ℕ) → (bit_and (bit_and w named_bits) (2 ^ valid_bit) == 2 ^ valid_bit) ≡ is_valid w
valid_tested w = masked_bit w named_bits valid_bit refl

pub address_space_match_tested : (w : ℕ) → (bit_and (bit_and w named_bits) (2 ^ address_space_match_bit) == 2 ^ address_space_match_bit) ≡ has_asm w
address_space_match_tested w = masked_bit w named_bits address_space_match_bit refl

right_named : (mode : Mode) (way : Way) → bit_and named_bits (2 ^ right_bit mode way) ≡ 2 ^ right_bit mode way
right_named Kernel Fetch = refl
right_named Kernel Load = refl
right_named Kernel Store = refl
right_named User Fetch = refl
right_named User Load = refl
right_named User Store = refl

pub right_tested : (w : ℕ) (mode : Mode) (way : Way) → (bit_and (bit_and w named_bits) (2 ^ right_bit mode way) == 2 ^ right_bit mode way) ≡ allows w mode way
right_tested w mode way = masked_bit w named_bits (right_bit mode way) (right_named mode way)

fault_named : (way : Way) → bit_and named_bits (2 ^ fault_bit way) ≡ 2 ^ fault_bit way
fault_named Fetch = refl
fault_named Load = refl
fault_named Store = refl

pub fault_tested : (w : ℕ) (way : Way) → (bit_and (bit_and w named_bits) (2 ^ fault_bit way) == 2 ^ fault_bit way) ≡ has_bit w (fault_bit way)
fault_tested w way = masked_bit w named_bits (fault_bit way) (fault_named way)

-- which bits the mask has: by cases below 14, and none from there on
named_below : (n : ℕ) → n < 14 → (bit_at named_bits n == 1) ≡ is_named n
named_below zero h = refl
named_below (suc zero) h = refl
named_below (suc (suc zero)) h = refl
named_below (suc (suc (suc zero))) h = refl
named_below (suc (suc (suc (suc zero)))) h = refl
named_below (suc (suc (suc (suc (suc zero))))) h = refl
named_below (suc (suc (suc (suc (suc (suc zero)))))) h = refl
named_below (suc (suc (suc (suc (suc (suc (suc zero))))))) h = refl
named_below (suc (suc (suc (suc (suc (suc (suc (suc zero)))))))) h = refl
named_below (suc (suc (suc (suc (suc (suc (suc (suc (suc zero))))))))) h = refl
named_below (suc (suc (suc (suc (suc (suc (suc (suc (suc (suc zero)))))))))) h = refl
named_below (suc (suc (suc (suc (suc (suc (suc (suc (suc (suc (suc zero))))))))))) h = refl
named_below (suc (suc (suc (suc (suc (suc (suc (suc (suc (suc (suc (suc zero)))))))))))) h = refl
named_below (suc (suc (suc (suc (suc (suc (suc (suc (suc (suc (suc (suc (suc zero))))))))))))) h = refl
named_below (suc (suc (suc (suc (suc (suc (suc (suc (suc (suc (suc (suc (suc (suc n)))))))))))))) h = absurd (omega (arith, h))

unnamed : (n : ℕ) → 14 ≤ n → is_named n ≡ false
unnamed n h =
    let not_equal : (k : ℕ) → k < 14 → (n == k) ≡ false = λ k small. ne_eqb n k (λ e. omega (arith, e, h, small)) in
    rw (not_equal 0 (omega arith), not_equal 1 (omega arith), not_equal 2 (omega arith), not_equal 3 (omega arith), not_equal 4 (omega arith), not_equal 8 (omega arith), not_equal 9 (omega arith), not_equal 12 (omega arith), not_equal 13 (omega arith)) refl

named_at : (n : ℕ) → (bit_at named_bits n == 1) ≡ is_named n
named_at n =
    ⊎_elim
    (λ low. named_below n low)
    (λ high. ap (λ b. b == 1) (bit_at_above named_bits 14 n (omega arith) high) ∙ sym (unnamed n high))
    (cases_lt n 14)

both_by : (a b : ℕ) → a < 2 → b < 2 → (min a b == 1) ≡ ((a == 1) && (b == 1))
both_by zero zero p q = refl
both_by zero (suc zero) p q = refl
both_by (suc zero) zero p q = refl
both_by (suc zero) (suc zero) p q = refl
both_by (suc (suc a)) b p q = absurd (omega (arith, p))
both_by zero (suc (suc b)) p q = absurd (omega (arith, q))
both_by (suc zero) (suc (suc b)) p q = absurd (omega (arith, q))

pub flags_named : (word n : ℕ) → has_bit (bit_and word named_bits) n ≡ (has_bit word n && is_named n)
flags_named word n =
    ap (λ b. b == 1) (bit_at_and word named_bits n)
    ∙ both_by (bit_at word n) (bit_at named_bits n) (bit_at-lt word n) (bit_at-lt named_bits n)
    ∙ ap (λ b. has_bit word n && b) (named_at n)
