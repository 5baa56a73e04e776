-- The bits of a span are those of the bytes that its access takes.
use Rattle.std.proofs.Common.{◌≡◌, ℕ, ◌+◌, ◌-◌, ◌*◌, ◌/◌, ◌%◌, ◌^◌, ◌<◌, ◌≤◌, IsTrue, arith, sym, ap, ◌∙◌, add-zero, ⊎_elim}
use Rattle.std.specs.Prelude.{◌==◌}
use Rattle.std.specs.Int.{bit_at}
use Rattle.std.proofs.lemmas.Bool.{cases_lt, eqb-true}
use Rattle.std.proofs.lemmas.Nat.{pow_pos}
use Rattle.std.proofs.lemmas.Nat.Bits.{bit_at_ones, bit_at_ones_above, bit_at_cat_low, bit_at_cat_high, bit_at-zero}
use Rattle.axp_base.specs.Masks.{IsSize, span_of, has_bit}
use Rattle.axp_base.specs.declared.lines.TheConstants.{LINE_BYTES}
use Rattle.axp_base.proofs.MaskLemmas.{ends_inside}

-- bits at and past the place that a number was moved up to
shifted_high : (x m n : ℕ) → m ≤ n → bit_at (x * 2 ^ m) n ≡ bit_at x (n - m)
shifted_high x m n h = ap (λ y. bit_at y n) (sym (add-zero (x * 2 ^ m))) ∙ bit_at_cat_high x m 0 n (pow_pos m) h

pub span_inside : (a s n : ℕ) → a % LINE_BYTES ≤ n → n < a % LINE_BYTES + s → bit_at (span_of a s) n ≡ 1
span_inside a s n h k = shifted_high (2 ^ s - 1) (a % LINE_BYTES) n h ∙ bit_at_ones s (n - a % LINE_BYTES) (omega arith)

pub span_below : (a s n : ℕ) → n < a % LINE_BYTES → bit_at (span_of a s) n ≡ 0
span_below a s n h =
    ap (λ y. bit_at y n) (sym (add-zero ((2 ^ s - 1) * 2 ^ (a % LINE_BYTES)))) ∙ bit_at_cat_low (2 ^ s - 1) (a % LINE_BYTES) 0 n h ∙ bit_at-zero n

pub span_above : (a s n : ℕ) → a % LINE_BYTES + s ≤ n → bit_at (span_of a s) n ≡ 0
span_above a s n h = shifted_high (2 ^ s - 1) (a % LINE_BYTES) n (omega arith) ∙ bit_at_ones_above s (n - a % LINE_BYTES) (omega arith)

-- an access's byte i has the place i past the first one's, in the same line
pub byte_place : (a s i : ℕ) → IsSize s → a % s ≡ 0 → i < s → ((a + i) / LINE_BYTES ≡ a / LINE_BYTES) × ((a + i) % LINE_BYTES ≡ a % LINE_BYTES + i)
byte_place a s i sized aligned below = let inside = ends_inside a s sized aligned in (omega arith, omega arith)

pub span_has : (a s i : ℕ) → IsSize s → a % s ≡ 0 → i < s → IsTrue (has_bit (span_of a s) ((a + i) % LINE_BYTES))
span_has a s i sized aligned below =
    let place = (byte_place a s i sized aligned below).1 in
    ap (λ b. b == 1) (span_inside a s ((a + i) % LINE_BYTES) (omega arith) (omega arith))

-- a place that has its bit is that of a byte
set_bit : (b : ℕ) → IsTrue (b == 1) → b ≡ 1
set_bit b h = eqb-true b 1 h

pub span_only : (a s n : ℕ) → IsSize s → a % s ≡ 0 → IsTrue (has_bit (span_of a s) n) → (i : ℕ) × (i < s) × ((a + i) % LINE_BYTES ≡ n)
span_only a s n sized aligned h =
    let inside = ends_inside a s sized aligned in
    ⊎_elim
    (λ (below : n < a % LINE_BYTES). absurd (omega (arith, set_bit _ h, span_below a s n below)))
    (λ (from : a % LINE_BYTES ≤ n).
    ⊎_elim
    (λ (to : n < a % LINE_BYTES + s). (n - a % LINE_BYTES, omega arith, omega arith))
    (λ (past : a % LINE_BYTES + s ≤ n). absurd (omega (arith, set_bit _ h, span_above a s n past)))
    (cases_lt n (a % LINE_BYTES + s)))
    (cases_lt n (a % LINE_BYTES))
