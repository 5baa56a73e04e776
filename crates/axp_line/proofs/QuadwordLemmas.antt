-- A turn writes a quadword exactly where it writes one of its bytes.
use Rattle.std.proofs.Common.{◌≡◌, ℕ, zero, suc, ◌+◌, ◌*◌, ◌/◌, ◌%◌, ◌^◌, ◌<◌, ◌≤◌, Bool, true, false, not, ◌||◌, ◌&&◌, Option, Some, None, refl, sym, ap, ◌∙◌, arith, ⊎_elim}
use Rattle.std.specs.Prelude.{◌==◌}
use Rattle.std.proofs.lemmas.Bool.{cases_eq, ne_eqb}
use Rattle.std.proofs.lemmas.Nat.{pow_pos, mod-pow-add, pow-add}
use Rattle.std.proofs.Math.Nat.{div-div-eq-div-mul}
use Rattle.axp_base.specs.Lines.{line_number, line_of}
use Rattle.axp_base.specs.Masks.{has_bit}
use Rattle.axp_base.specs.declared.lines.TheConstants.{LINE_BYTES}
use Rattle.axp_base.specs.declared.parts.TheConstants.{QUADWORD_BYTES}
use Rattle.axp_line.specs.BusCalls.{Written, reaches_quadword, writes_byte, writes_bytes}

-- bits of a mask, the lowest first
bits_joined : (high low p : ℕ) → 0 < p → high < 2 → not (high * p + low == 0) ≡ (not (low == 0) || (high == 1))
bits_joined high low p pos small =
    ⊎_elim
    (λ (set : high ≡ 1). rw set (
    let some : (1 * p + low ≡ 0 → ⊥) = (λ e. omega (arith, e)) in
    rw (ne_eqb (1 * p + low) 0 some) (either (not (low == 0)))))
    (λ (other : high ≡ 1 → ⊥).
    let clear : high ≡ 0 = omega (arith, other) in
    let same : 0 * p + low ≡ low = omega arith in
    rw (clear, same) (right (not (low == 0))))
    (cases_eq high 1)
  where
    either : (b : Bool) → true ≡ (b || true)
    either true = refl
    either false = refl

    right : (b : Bool) → b ≡ (b || false)
    right true = refl
    right false = refl

-- of the bits from m on, one more is looked at
pub one_bit_more : (bits m n : ℕ) → not (bits / 2 ^ m % 2 ^ (n + 1) == 0) ≡ (not (bits / 2 ^ m % 2 ^ n == 0) || has_bit bits (m + n))
one_bit_more bits m n =
    let from = bits / 2 ^ m in
    let turned : n + 1 ≡ 1 + n = omega arith in
    let split : from % 2 ^ (n + 1) ≡ (from / 2 ^ n % 2) * 2 ^ n + from % 2 ^ n = ap (λ e. from % 2 ^ e) turned ∙ mod-pow-add from 1 n in
    let place : from / 2 ^ n ≡ bits / 2 ^ (m + n) = div-div-eq-div-mul bits (2 ^ m) (2 ^ n) ∙ ap (λ p. bits / p) (sym (pow-add 2 m n)) in
    ap (λ x. not (x == 0)) split ∙ bits_joined (from / 2 ^ n % 2) (from % 2 ^ n) (2 ^ n) (pow_pos n) (omega arith)
    ∙ ap (λ x. not (from % 2 ^ n == 0) || (x % 2 == 1)) place

pub no_bit : (bits m : ℕ) → false ≡ not (bits / 2 ^ m % 2 ^ 0 == 0)
no_bit bits m =
    let none : bits / 2 ^ m % 2 ^ 0 ≡ 0 = omega arith in
    rw none refl

-- the first n bytes of a quadword lie in its line
and_or : (a b c : Bool) → (a && (b || c)) ≡ ((a && b) || (a && c))
and_or true b c = refl
and_or false b c = refl

and_false : (a : Bool) → false ≡ (a && false)
and_false true = refl
and_false false = refl

bytes_by : (q n : ℕ) (w : Written) → n ≤ QUADWORD_BYTES → writes_bytes (q * QUADWORD_BYTES) n (Some w) ≡ ((line_of (q * QUADWORD_BYTES) == line_number w.line) && not (w.bits / 2 ^ (q * QUADWORD_BYTES % LINE_BYTES) % 2 ^ n == 0))
bytes_by q zero w less = and_false (line_of (q * QUADWORD_BYTES) == line_number w.line) ∙ ap (λ b. (line_of (q * QUADWORD_BYTES) == line_number w.line) && b) (no_bit w.bits (q * QUADWORD_BYTES % LINE_BYTES))
bytes_by q (suc n) w less =
    let at : ℕ = q * QUADWORD_BYTES in
    let line : (q * QUADWORD_BYTES + n) / LINE_BYTES ≡ q * QUADWORD_BYTES / LINE_BYTES = omega (arith, less) in
    let place : (q * QUADWORD_BYTES + n) % LINE_BYTES ≡ q * QUADWORD_BYTES % LINE_BYTES + n = omega (arith, less) in
    let turned : n + 1 ≡ suc n = omega arith in
    ap (λ b. b || writes_byte (at + n) (Some w)) (bytes_by q n w (omega (arith, less)))
    ∙ ap (λ l. ((line_of at == line_number w.line) && not (w.bits / 2 ^ (at % LINE_BYTES) % 2 ^ n == 0)) || ((l == line_number w.line) && has_bit w.bits ((at + n) % LINE_BYTES))) line
    ∙ ap (λ k. ((line_of at == line_number w.line) && not (w.bits / 2 ^ (at % LINE_BYTES) % 2 ^ n == 0)) || ((line_of at == line_number w.line) && has_bit w.bits k)) place
    ∙ sym (and_or (line_of at == line_number w.line) (not (w.bits / 2 ^ (at % LINE_BYTES) % 2 ^ n == 0)) (has_bit w.bits (at % LINE_BYTES + n)))
    ∙ ap (λ b. (line_of at == line_number w.line) && b) (sym (one_bit_more w.bits (at % LINE_BYTES) n) ∙ ap (λ e. not (w.bits / 2 ^ (at % LINE_BYTES) % 2 ^ e == 0)) turned)

none_written : (at n : ℕ) → writes_bytes at n None ≡ false
none_written at zero = refl
none_written at (suc n) = rw (none_written at n) refl

pub reached_by_bytes : (q : ℕ) (w : Option Written) → reaches_quadword q w ≡ writes_bytes (q * QUADWORD_BYTES) QUADWORD_BYTES w
reached_by_bytes q None = sym (none_written (q * QUADWORD_BYTES) QUADWORD_BYTES)
reached_by_bytes q (Some w) = sym (bytes_by q QUADWORD_BYTES w (omega arith))
