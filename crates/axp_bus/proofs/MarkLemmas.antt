-- The marks of the quadwords of a line that is written.
use Rattle.std.proofs.Common.{◌≡◌, ℕ, ◌+◌, ◌*◌, ◌/◌, ◌%◌, ◌^◌, ◌<◌, ◌≤◌, Bool, true, false, not, ◌||◌, List, length, get_or, set, Some, None, refl, sym, ap, subst, ◌∙◌, arith, ⊎_elim, get_or-set_other, length-set}
use Rattle.std.specs.Prelude.{◌==◌, ◌&&◌}
use Rattle.std.proofs.lemmas.Bool.{cases_eq, cases_lt, eq-eqb, ne_eqb}
use Rattle.std.proofs.lemmas.Grind.{get_or-set_at}
use Rattle.axp_base.specs.Lines.{line_number, line_of}
use Rattle.axp_base.specs.Masks.{has_bit}
use Rattle.axp_base.specs.declared.lines.TheConstants.{LINE_BYTES}
use Rattle.axp_base.specs.declared.parts.TheConstants.{QUADWORD_BYTES}
use Rattle.axp_line.proofs.QuadwordLemmas.{one_bit_more}
use Rattle.axp_line.specs.BusCalls.{Written}
use Rattle.axp_bus.specs.Marks.{LINE_QUADWORDS, has_first, has_part, Marked, MarkedBelow}

-- bits of a mask, the lowest first
pub first_none : (bits k : ℕ) → false ≡ has_first bits k 0
first_none bits k =
    let none : bits / 2 ^ (k * QUADWORD_BYTES) % 2 ^ 0 ≡ 0 = omega arith in
    rw none refl

pub first_more : (bits k n : ℕ) → has_first bits k (n + 1) ≡ (has_first bits k n || has_bit bits (k * QUADWORD_BYTES + n))
first_more bits k n = one_bit_more bits (k * QUADWORD_BYTES) n

pub other_way : (a b : Bool) → (a || b) ≡ (b || a)
other_way true true = refl
other_way true false = refl
other_way false true = refl
other_way false false = refl

-- the marks of a line, one by one
pub marked_start : (line bits : ℕ) (old : List Bool) → MarkedBelow 0 line bits old old
marked_start line bits old = record { size = refl; done = λ k none. absurd (omega (arith, none)); before = λ q below. refl; past = λ q from. refl }

pub marked_step : (n line bits at : ℕ) (old mid : List Bool) (y : Bool) → MarkedBelow n line bits old mid → at ≡ line * LINE_QUADWORDS + n → at < length mid
    → y ≡ (has_part bits n || get_or mid at false) → MarkedBelow (n + 1) line bits old (set mid at y)
marked_step n line bits at old mid y sofar here within put = record {
  size = length-set mid at y ∙ sofar.size;
  done = λ k below.
      ⊎_elim
      (λ (same : k ≡ n).
      subst (λ j. get_or (set mid at y) (line * LINE_QUADWORDS + j) false ≡ (has_part bits j || get_or old (line * LINE_QUADWORDS + j) false)) (sym same)
      (get_or-set_at mid at (line * LINE_QUADWORDS + n) y false (sym here) within ∙ put
      ∙ ap (λ b. has_part bits n || b) (ap (λ j. get_or mid j false) here ∙ sofar.past (line * LINE_QUADWORDS + n) (omega arith))))
      (λ (other : k ≡ n → ⊥).
      get_or-set_other mid at (line * LINE_QUADWORDS + k) y false (λ back. other (omega (arith, back, here)))
      ∙ sofar.done k (omega (arith, below, other)))
      (cases_eq k n);
  before = λ q below. get_or-set_other mid at q y false (λ back. omega (arith, back, here, below)) ∙ sofar.before q below;
  past = λ q from. get_or-set_other mid at q y false (λ back. omega (arith, back, here, from)) ∙ sofar.past q (omega (arith, from));
}

pub marked_all : (w : Written) (old new : List Bool) → MarkedBelow LINE_QUADWORDS (line_number w.line) w.bits old new → Marked (Some w) old new
marked_all w old new marked =
    let line = line_number w.line in
    record {
      size = marked.size;
      each = λ q below.
          ⊎_elim
          (λ (same : line_of (q * QUADWORD_BYTES) ≡ line).
          let k = q % LINE_QUADWORDS in
          let there : line * LINE_QUADWORDS + k ≡ q = omega (arith, same) in
          let offset : k * QUADWORD_BYTES ≡ q * QUADWORD_BYTES % LINE_BYTES = omega arith in
          subst (λ j. get_or new j false ≡ (has_part w.bits k || get_or old j false)) there (marked.done k (omega arith))
          ∙ ap (λ o. not (w.bits / 2 ^ o % 2 ^ QUADWORD_BYTES == 0) || get_or old q false) offset
          ∙ ap (λ b. (b && not (w.bits / 2 ^ (q * QUADWORD_BYTES % LINE_BYTES) % 2 ^ QUADWORD_BYTES == 0)) || get_or old q false) (sym (eq-eqb _ _ same)))
          (λ (apart : line_of (q * QUADWORD_BYTES) ≡ line → ⊥).
          ⊎_elim
          (λ (first : q < line * LINE_QUADWORDS). marked.before q first)
          (λ (from : line * LINE_QUADWORDS ≤ q). marked.past q (past line q from apart))
          (cases_lt q (line * LINE_QUADWORDS))
          ∙ ap (λ b. (b && not (w.bits / 2 ^ (q * QUADWORD_BYTES % LINE_BYTES) % 2 ^ QUADWORD_BYTES == 0)) || get_or old q false) (sym (ne_eqb _ _ apart)))
          (cases_eq (line_of (q * QUADWORD_BYTES)) line);
    }
  where
    past : (line q : ℕ) → line * LINE_QUADWORDS ≤ q → (line_of (q * QUADWORD_BYTES) ≡ line → ⊥) → line * LINE_QUADWORDS + LINE_QUADWORDS ≤ q
    past line q from apart = omega (arith, from, apart)

-- a call that wrote nothing
pub marked_none : (marks : List Bool) → Marked None marks marks
marked_none marks = record { size = refl; each = λ q below. refl }
