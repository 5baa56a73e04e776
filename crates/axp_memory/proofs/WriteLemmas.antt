-- A write changes one line.
use Rattle.std.proofs.Common.{◌≡◌, ◌≢◌, ℕ, ◌+◌, ◌*◌, ◌/◌, ◌%◌, ◌<◌, ◌≤◌, ◌⊎◌, cond, List, length, get_or, arith, sym, ap, ◌∙◌, ⊎_elim, inl, inr}
use Rattle.std.proofs.lemmas.Bool.{cases_lt}
use Rattle.axp_base.specs.Masks.{has_bit}
use Rattle.axp_base.specs.declared.lines.TheConstants.{LINE_BYTES}
use Rattle.axp_memory.specs.Bytes.{ChangesOneLine, written}
use Rattle.axp_memory.proofs.MergingLemmas.{length_merged_at, merged_elsewhere, merged_inside, merged_line, merged_outside}

of_the_line : (line mask : ℕ) (from xs : List ℕ) (k : ℕ) → line * LINE_BYTES + LINE_BYTES ≤ length xs → k / LINE_BYTES ≡ line
    → get_or (written line mask from xs) k 0 ≡ cond (has_bit mask (k % LINE_BYTES)) (get_or from (k % LINE_BYTES) 0) (get_or xs k 0)
of_the_line line mask from xs k within is =
    let place : k ≡ line * LINE_BYTES + k % LINE_BYTES = omega arith in
    ap (λ j. get_or (written line mask from xs) j 0) place
    ∙ merged_inside (line * LINE_BYTES) mask from xs (k % LINE_BYTES) within (omega arith)
    ∙ ap (λ j. cond (has_bit mask (k % LINE_BYTES)) (get_or from (k % LINE_BYTES) 0) (get_or xs j 0)) (sym place)

before_or_past : (line k : ℕ) → k / LINE_BYTES ≢ line → (k < line * LINE_BYTES) ⊎ (line * LINE_BYTES + LINE_BYTES ≤ k)
before_or_past line k apart =
    ⊎_elim
    (λ before. inl before)
    (λ from. ⊎_elim
    (λ inside. absurd (apart (omega arith)))
    (λ past. inr past)
    (cases_lt k (line * LINE_BYTES + LINE_BYTES)))
    (cases_lt k (line * LINE_BYTES))

lines_apart : (line other : ℕ) → other ≢ line → (other * LINE_BYTES + LINE_BYTES ≤ line * LINE_BYTES) ⊎ (line * LINE_BYTES + LINE_BYTES ≤ other * LINE_BYTES)
lines_apart line other apart =
    ⊎_elim
    (λ before. inl (omega arith))
    (λ from. inr (omega arith))
    (cases_lt other line)

pub changes_one_line : (line mask : ℕ) (from xs : List ℕ) → line * LINE_BYTES + LINE_BYTES ≤ length xs → ChangesOneLine line mask from xs
changes_one_line line mask from xs within = record {
  whole_line = merged_line (line * LINE_BYTES) mask from xs within;
  inside = λ k is. of_the_line line mask from xs k within is;
  outside = λ k apart. merged_outside (line * LINE_BYTES) mask from xs k within (before_or_past line k apart);
  others = λ other apart. merged_elsewhere (line * LINE_BYTES) mask from xs (other * LINE_BYTES) within (lines_apart line other apart);
  size = length_merged_at (line * LINE_BYTES) mask from xs within;
}
