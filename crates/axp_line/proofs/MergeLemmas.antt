-- Merging, one byte more.
use Rattle.std.proofs.Common.{◌≡◌, ◌≢◌, ℕ, zero, suc, ◌+◌, ◌<◌, ◌≤◌, Bool, true, false, cond, List, length, get_or, set, slice_index, arith, refl, ◌∙◌, add-one, ⊎_elim, get_or-set_same, get_or-set_other}
use Rattle.std.proofs.Math.ListN.{length-set}
use Rattle.std.proofs.lemmas.Bool.{cases_eq}
use Rattle.axp_base.specs.Masks.{has_bit}
use Rattle.axp_line.specs.Lines.{merged_below}

pub merged_none : (mask : ℕ) (from old : List ℕ) → merged_below 0 mask from old ≡ old
unfolding merged_below
merged_none mask from old = refl

pub merged_more : (n mask : ℕ) (from old : List ℕ) → merged_below (n + 1) mask from old ≡ cond (has_bit mask n) (set (merged_below n mask from old) n (slice_index from n)) (merged_below n mask from old)
unfolding merged_below
merged_more n mask from old = rw add-one refl

length_if : (b : Bool) (xs : List ℕ) (n x : ℕ) → length (cond b (set xs n x) xs) ≡ length xs
length_if true xs n x = length-set xs n x
length_if false xs n x = refl

pub length-merged_below : (n mask : ℕ) (from old : List ℕ) → length (merged_below n mask from old) ≡ length old
unfolding merged_below
length-merged_below zero mask from old = refl
length-merged_below (suc n) mask from old = length_if (has_bit mask n) (merged_below n mask from old) n (slice_index from n) ∙ length-merged_below n mask from old

here_if : (b : Bool) (xs : List ℕ) (n x y : ℕ) → n < length xs → get_or xs n 0 ≡ y → get_or (cond b (set xs n x) xs) n 0 ≡ cond b x y
here_if true xs n x y within is = rw get_or-set_same refl
here_if false xs n x y within is = is

there_if : (b : Bool) (xs : List ℕ) (n x k : ℕ) → k ≢ n → get_or (cond b (set xs n x) xs) k 0 ≡ get_or xs k 0
there_if true xs n x k apart = rw get_or-set_other refl
there_if false xs n x k apart = refl

-- a byte from n on stays
pub merged_past : (n mask : ℕ) (from old : List ℕ) (k : ℕ) → n ≤ k → get_or (merged_below n mask from old) k 0 ≡ get_or old k 0
unfolding merged_below
merged_past zero mask from old k past = refl
merged_past (suc n) mask from old k past =
    there_if (has_bit mask n) (merged_below n mask from old) n (slice_index from n) k (λ e. absurd (omega (arith, e, past))) ∙ merged_past n mask from old k (omega (arith, past))

-- a byte below n is the one that the mask says
pub merged_each : (n mask : ℕ) (from old : List ℕ) (k : ℕ) → n ≤ length old → k < n → get_or (merged_below n mask from old) k 0 ≡ cond (has_bit mask k) (get_or from k 0) (get_or old k 0)
unfolding merged_below
merged_each zero mask from old k whole below = absurd (omega (arith, below))
merged_each (suc n) mask from old k whole below =
    ⊎_elim
    (λ (e : k ≡ n). rw e (here_if (has_bit mask n) (merged_below n mask from old) n (slice_index from n) (get_or old n 0) (omega (arith, length-merged_below n mask from old)) (merged_past n mask from old n (omega arith))))
    (λ (apart : k ≢ n). there_if (has_bit mask n) (merged_below n mask from old) n (slice_index from n) k apart ∙ merged_each n mask from old k (omega arith) (omega arith))
    (cases_eq k n)
