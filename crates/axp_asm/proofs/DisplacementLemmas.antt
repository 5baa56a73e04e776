-- The bits of a displacement are those that lead from the address behind a branch to its target.
use Rattle.std.proofs.Common.{◌≡◌, ◌↔◌, ℕ, ◌+◌, ◌-◌, ◌*◌, ◌/◌, ◌%◌, ◌<◌, ◌≤◌, Bool, true, false, ◌&&◌, cond, eqb, leb, ltb, Some, None, refl, ap, arith}
use Rattle.std.proofs.lemmas.Bool.{eq-eqb, eqb-true, le-leb, leb-true, leb-false, lt-leb, le-ltb, lt-ltb, ltb-true, ltb-false}
use Rattle.axp_image.specs.declared.limits.TheConstants.{INSTRUCTION_BYTES}
use Rattle.axp_source.specs.declared.numbers.TheConstants.{BRANCH_HALF}
use Rattle.axp_asm.specs.Labels.{bits_down, bits_up, displacement}
use Rattle.axp_asm.specs.Laws.{Leads}

-- ---- bits that are found lead there

abbrev Found : ℕ → ℕ → ℕ → Type 0
Found from target bits = (bits < 2 * BRANCH_HALF) × Leads from bits target

found_up : (from target bits : ℕ) (whole near : Bool) → from ≤ target → eqb ((target - from) % INSTRUCTION_BYTES) 0 ≡ whole → ltb ((target - from) / INSTRUCTION_BYTES) BRANCH_HALF ≡ near
    → cond (whole && near) (Some ((target - from) / INSTRUCTION_BYTES)) None ≡ Some bits → Found from target bits
found_up from target bits true true le aligned close is =
    let words : (target - from) / INSTRUCTION_BYTES ≡ bits = cc in
    let none : (target - from) % INSTRUCTION_BYTES ≡ 0 = eqb-true _ _ aligned in
    let less : (target - from) / INSTRUCTION_BYTES < BRANCH_HALF = ltb-true _ _ close in
    let low : ltb bits BRANCH_HALF ≡ true = lt-ltb _ _ (omega (arith, words, less)) in
    (omega (arith, words, less), rw low (omega (arith, words, none, le)))
found_up from target bits true false le aligned close is = absurd cc
found_up from target bits false near le aligned close is = absurd cc

found_down : (from target bits : ℕ) (whole near : Bool) → target < from → eqb ((from - target) % INSTRUCTION_BYTES) 0 ≡ whole → leb ((from - target) / INSTRUCTION_BYTES) BRANCH_HALF ≡ near
    → cond (whole && near) (Some (2 * BRANCH_HALF - (from - target) / INSTRUCTION_BYTES)) None ≡ Some bits → Found from target bits
found_down from target bits true true lt aligned close is =
    let words : 2 * BRANCH_HALF - (from - target) / INSTRUCTION_BYTES ≡ bits = cc in
    let none : (from - target) % INSTRUCTION_BYTES ≡ 0 = eqb-true _ _ aligned in
    let most : (from - target) / INSTRUCTION_BYTES ≤ BRANCH_HALF = leb-true _ _ close in
    let high : ltb bits BRANCH_HALF ≡ false = le-ltb _ _ (omega (arith, words, most)) in
    (omega (arith, words, most, none, lt), rw high (omega (arith, words, most, none, lt)))
found_down from target bits true false lt aligned close is = absurd cc
found_down from target bits false near lt aligned close is = absurd cc

found_by : (from target bits : ℕ) (up : Bool) → leb from target ≡ up → cond up (bits_up (target - from)) (bits_down (from - target)) ≡ Some bits → Found from target bits
found_by from target bits true at is =
    found_up from target bits (eqb ((target - from) % INSTRUCTION_BYTES) 0) (ltb ((target - from) / INSTRUCTION_BYTES) BRANCH_HALF) (leb-true _ _ at) refl refl is
found_by from target bits false at is =
    found_down from target bits (eqb ((from - target) % INSTRUCTION_BYTES) 0) (leb ((from - target) / INSTRUCTION_BYTES) BRANCH_HALF) (leb-false _ _ at) refl refl is

leads_there : (from target bits : ℕ) → displacement from target ≡ Some bits → Found from target bits
unfolding displacement
leads_there from target bits is = found_by from target bits (leb from target) refl is

-- ---- bits that lead there are found

from_up : (from target bits : ℕ) → bits < BRANCH_HALF → from + INSTRUCTION_BYTES * bits ≡ target → displacement from target ≡ Some bits
unfolding displacement
from_up from target bits less at =
    let up : leb from target ≡ true = le-leb _ _ (omega (arith, at)) in
    let none : eqb ((target - from) % INSTRUCTION_BYTES) 0 ≡ true = eq-eqb _ _ (omega (arith, at)) in
    let words : (target - from) / INSTRUCTION_BYTES ≡ bits = omega (arith, at) in
    let low : ltb bits BRANCH_HALF ≡ true = lt-ltb _ _ less in
    rw (up, none, words, low) refl

from_down : (from target bits : ℕ) → BRANCH_HALF ≤ bits → bits < 2 * BRANCH_HALF → from + INSTRUCTION_BYTES * bits ≡ target + INSTRUCTION_BYTES * (2 * BRANCH_HALF)
    → displacement from target ≡ Some bits
unfolding displacement
from_down from target bits more less at =
    let down : leb from target ≡ false = lt-leb _ _ (omega (arith, at, less)) in
    let none : eqb ((from - target) % INSTRUCTION_BYTES) 0 ≡ true = eq-eqb _ _ (omega (arith, at)) in
    let words : (from - target) / INSTRUCTION_BYTES ≡ 2 * BRANCH_HALF - bits = omega (arith, at, less) in
    let near : leb (2 * BRANCH_HALF - bits) BRANCH_HALF ≡ true = le-leb _ _ (omega (arith, more)) in
    let back : 2 * BRANCH_HALF - (2 * BRANCH_HALF - bits) ≡ bits = omega (arith, less) in
    rw (down, none, words, near) (ap Some back)

is_found_by : (from target bits : ℕ) (low : Bool) → ltb bits BRANCH_HALF ≡ low → bits < 2 * BRANCH_HALF
    → from + INSTRUCTION_BYTES * bits ≡ target + cond low 0 (INSTRUCTION_BYTES * (2 * BRANCH_HALF)) → displacement from target ≡ Some bits
is_found_by from target bits true is less at = from_up from target bits (ltb-true _ _ is) (omega (arith, at))
is_found_by from target bits false is less at = from_down from target bits (ltb-false _ _ is) less at

pub leads_exactly : (from target bits : ℕ) → (displacement from target ≡ Some bits) ↔ ((bits < 2 * BRANCH_HALF) × Leads from bits target)
leads_exactly from target bits = (leads_there from target bits, λ found. is_found_by from target bits (ltb bits BRANCH_HALF) refl found.0 found.1)
