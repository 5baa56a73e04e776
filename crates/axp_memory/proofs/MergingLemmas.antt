-- A line is merged into memory byte by byte.
use Rattle.std.proofs.Common.{◌≡◌, ℕ, ◌+◌, ◌-◌, ◌<◌, ◌≤◌, Bool, true, false, cond, List, ◌++◌, length, take, drop, get_or, set, slice_index, arith, refl, sym, ap, ◌∙◌, ⊎_elim, ◌⊎◌, inl, inr}
use Rattle.std.proofs.lemmas.Bool.{cases_lt}
use Rattle.std.proofs.lemmas.List.{drop_at, ext_get_or, get_or-append_right, get_or_append_left, get_or-drop, get_or-take, length-append, length-drop, length-set, length-take-le, length-take, set-append_left, set-append_right, take_at}
use Rattle.axp_base.specs.Masks.{has_bit}
use Rattle.axp_base.specs.declared.lines.TheConstants.{LINE_BYTES}
use Rattle.axp_line.specs.Lines.{merged, merged_below}
use Rattle.axp_line.proofs.MergeLemmas.{length-merged_below, merged_each, merged_more, merged_none}
use Rattle.axp_memory.specs.Bytes.{bytes_at, merged_at, spliced}

-- a piece in place of bytes of a list
length_spliced : (at : ℕ) (piece xs : List ℕ) → at + length piece ≤ length xs → length (spliced at piece xs) ≡ length xs
unfolding spliced
length_spliced at piece xs within =
    let whole = length-append (take at xs) (piece ++ drop (at + length piece) xs) in
    let back = length-append piece (drop (at + length piece) xs) in
    let front = length-take-le at xs (omega arith) in
    let rest = length-drop (at + length piece) xs in
    omega arith

spliced_before : (at : ℕ) (piece xs : List ℕ) (k : ℕ) → at + length piece ≤ length xs → k < at → get_or (spliced at piece xs) k 0 ≡ get_or xs k 0
unfolding spliced
spliced_before at piece xs k within before =
    let front = length-take-le at xs (omega arith) in
    get_or_append_left (take at xs) (piece ++ drop (at + length piece) xs) 0 k (omega arith) ∙ get_or-take at xs k 0 before

spliced_inside : (at : ℕ) (piece xs : List ℕ) (k : ℕ) → at + length piece ≤ length xs → at ≤ k → k < at + length piece → get_or (spliced at piece xs) k 0 ≡ get_or piece (k - at) 0
unfolding spliced
spliced_inside at piece xs k within from below =
    get_or-append_right (take at xs) (piece ++ drop (at + length piece) xs) at k 0 (length-take-le at xs (omega arith)) from
    ∙ get_or_append_left piece (drop (at + length piece) xs) 0 (k - at) (omega arith)

spliced_past : (at : ℕ) (piece xs : List ℕ) (k : ℕ) → at + length piece ≤ length xs → at + length piece ≤ k → get_or (spliced at piece xs) k 0 ≡ get_or xs k 0
unfolding spliced
spliced_past at piece xs k within past =
    let place : at + length piece + (k - at - length piece) ≡ k = omega arith in
    get_or-append_right (take at xs) (piece ++ drop (at + length piece) xs) at k 0 (length-take-le at xs (omega arith)) (omega arith)
    ∙ get_or-append_right piece (drop (at + length piece) xs) (length piece) (k - at) 0 refl (omega arith)
    ∙ get_or-drop (at + length piece) xs (k - at - length piece) 0
    ∙ ap (λ j. get_or xs j 0) place

spliced_set : (at : ℕ) (piece xs : List ℕ) (n x : ℕ) → at + length piece ≤ length xs → n < length piece → spliced at (set piece n x) xs ≡ set (spliced at piece xs) (at + n) x
unfolding spliced
spliced_set at piece xs n x within below =
    let same : at + n - at ≡ n = omega arith in
    ap (λ m. take at xs ++ (set piece n x ++ drop (at + m) xs)) (length-set piece n x)
    ∙ ap (λ ys. take at xs ++ ys) (sym (set-append_left piece (drop (at + length piece) xs) n x below) ∙ ap (λ j. set (piece ++ drop (at + length piece) xs) j x) (sym same))
    ∙ sym (set-append_right (take at xs) (piece ++ drop (at + length piece) xs) at (at + n) x (length-take-le at xs (omega arith)) (omega arith))

-- the bytes of a line
length_bytes_at : (at : ℕ) (xs : List ℕ) → at + LINE_BYTES ≤ length xs → length (bytes_at at xs) ≡ LINE_BYTES
unfolding bytes_at
length_bytes_at at xs within = let rest = length-drop at xs in length-take-le LINE_BYTES (drop at xs) (omega arith)

pub byte_at : (at : ℕ) (xs : List ℕ) (k : ℕ) → k < LINE_BYTES → get_or (bytes_at at xs) k 0 ≡ get_or xs (at + k) 0
unfolding bytes_at
byte_at at xs k below = get_or-take LINE_BYTES (drop at xs) k 0 below ∙ get_or-drop at xs k 0

as_long_at : (at : ℕ) (xs ys : List ℕ) → length xs ≡ length ys → length (bytes_at at xs) ≡ length (bytes_at at ys)
unfolding bytes_at
as_long_at at xs ys same =
    let first = length-take LINE_BYTES (drop at xs) in
    let second = length-take LINE_BYTES (drop at ys) in
    let front = length-drop at xs in
    let back = length-drop at ys in
    omega arith

-- memory with the bytes of a line below byte n merged
unfoldable pub merging : ℕ → ℕ → ℕ → List ℕ → List ℕ → List ℕ
merging n at mask from xs = spliced at (merged_below n mask from (bytes_at at xs)) xs

as_long : (n at mask : ℕ) (from xs : List ℕ) → at + LINE_BYTES ≤ length xs → length (merged_below n mask from (bytes_at at xs)) ≡ LINE_BYTES
as_long n at mask from xs within = length-merged_below n mask from (bytes_at at xs) ∙ length_bytes_at at xs within

itself : (at : ℕ) (piece xs : List ℕ) → length piece ≡ LINE_BYTES → at + LINE_BYTES ≤ length xs → ((k : ℕ) → k < LINE_BYTES → get_or piece k 0 ≡ get_or xs (at + k) 0) → spliced at piece xs ≡ xs
itself at piece xs size within same =
    ext_get_or 0 (spliced at piece xs) xs (length_spliced at piece xs (omega arith)) (λ k below.
    ⊎_elim
    (λ before. spliced_before at piece xs k (omega arith) before)
    (λ from. ⊎_elim
    (λ inside. let place : at + (k - at) ≡ k = omega arith in
    spliced_inside at piece xs k (omega arith) from inside ∙ same (k - at) (omega arith) ∙ ap (λ j. get_or xs j 0) place)
    (λ past. spliced_past at piece xs k (omega arith) past)
    (cases_lt k (at + length piece)))
    (cases_lt k at))

pub merging_none : (at mask : ℕ) (from xs : List ℕ) → at + LINE_BYTES ≤ length xs → merging 0 at mask from xs ≡ xs
unfolding merging
merging_none at mask from xs within =
    ap (λ piece. spliced at piece xs) (merged_none mask from (bytes_at at xs))
    ∙ itself at (bytes_at at xs) xs (length_bytes_at at xs within) within (λ k below. byte_at at xs k below)

spliced_if : (b : Bool) (at : ℕ) (piece xs : List ℕ) (n x : ℕ) → at + length piece ≤ length xs → n < length piece
    → spliced at (cond b (set piece n x) piece) xs ≡ cond b (set (spliced at piece xs) (at + n) x) (spliced at piece xs)
spliced_if true at piece xs n x within below = spliced_set at piece xs n x within below
spliced_if false at piece xs n x within below = refl

pub merging_more : (n at mask : ℕ) (from xs : List ℕ) → n < LINE_BYTES → at + LINE_BYTES ≤ length xs
    → merging (n + 1) at mask from xs ≡ cond (has_bit mask n) (set (merging n at mask from xs) (at + n) (slice_index from n)) (merging n at mask from xs)
unfolding merging
merging_more n at mask from xs below within =
    let size = as_long n at mask from xs within in
    ap (λ piece. spliced at piece xs) (merged_more n mask from (bytes_at at xs))
    ∙ spliced_if (has_bit mask n) at (merged_below n mask from (bytes_at at xs)) xs n (slice_index from n) (omega arith) (omega arith)

merging_whole : (at mask : ℕ) (from xs : List ℕ) → merging LINE_BYTES at mask from xs ≡ merged_at at mask from xs
unfolding merging merged_at
merging_whole at mask from xs = refl

pub merging_all : (n at mask : ℕ) (from xs : List ℕ) → LINE_BYTES ≤ n → n ≤ LINE_BYTES → merging n at mask from xs ≡ merged_at at mask from xs
merging_all n at mask from xs least most =
    let all : n ≡ LINE_BYTES = omega arith in
    ap (λ k. merging k at mask from xs) all ∙ merging_whole at mask from xs

pub length_merging : (n at mask : ℕ) (from xs : List ℕ) → at + LINE_BYTES ≤ length xs → length (merging n at mask from xs) ≡ length xs
unfolding merging
length_merging n at mask from xs within =
    let size = as_long n at mask from xs within in
    length_spliced at (merged_below n mask from (bytes_at at xs)) xs (omega arith)

pub length_merged_at : (at mask : ℕ) (from xs : List ℕ) → at + LINE_BYTES ≤ length xs → length (merged_at at mask from xs) ≡ length xs
length_merged_at at mask from xs within = ap length (sym (merging_whole at mask from xs)) ∙ length_merging LINE_BYTES at mask from xs within

-- the line that was merged, and the bytes elsewhere
spliced_read : (at : ℕ) (piece xs : List ℕ) → at + LINE_BYTES ≤ length xs → length piece ≡ LINE_BYTES → bytes_at at (spliced at piece xs) ≡ piece
unfolding bytes_at spliced
spliced_read at piece xs within size =
    ap (take LINE_BYTES) (drop_at (take at xs) (piece ++ drop (at + length piece) xs) at (length-take-le at xs (omega arith)))
    ∙ take_at piece (drop (at + length piece) xs) LINE_BYTES size

pub merged_line : (at mask : ℕ) (from xs : List ℕ) → at + LINE_BYTES ≤ length xs → bytes_at at (merged_at at mask from xs) ≡ merged mask from (bytes_at at xs)
unfolding merged_at
merged_line at mask from xs within = spliced_read at (merged mask from (bytes_at at xs)) xs within (as_long LINE_BYTES at mask from xs within)

pub merged_inside : (at mask : ℕ) (from xs : List ℕ) (j : ℕ) → at + LINE_BYTES ≤ length xs → j < LINE_BYTES
    → get_or (merged_at at mask from xs) (at + j) 0 ≡ cond (has_bit mask j) (get_or from j 0) (get_or xs (at + j) 0)
merged_inside at mask from xs j within below =
    let size = length_bytes_at at xs within in
    sym (byte_at at (merged_at at mask from xs) j below)
    ∙ ap (λ ys. get_or ys j 0) (merged_line at mask from xs within)
    ∙ merged_each LINE_BYTES mask from (bytes_at at xs) j (omega arith) below
    ∙ ap (λ x. cond (has_bit mask j) (get_or from j 0) x) (byte_at at xs j below)

pub merged_outside : (at mask : ℕ) (from xs : List ℕ) (k : ℕ) → at + LINE_BYTES ≤ length xs → (k < at) ⊎ (at + LINE_BYTES ≤ k) → get_or (merged_at at mask from xs) k 0 ≡ get_or xs k 0
unfolding merged_at
merged_outside at mask from xs k within apart =
    let size = as_long LINE_BYTES at mask from xs within in
    ⊎_elim
    (λ before. spliced_before at (merged mask from (bytes_at at xs)) xs k (omega arith) before)
    (λ past. spliced_past at (merged mask from (bytes_at at xs)) xs k (omega arith) (omega arith))
    apart

at_most_a_line : (at : ℕ) (xs : List ℕ) → length (bytes_at at xs) ≤ LINE_BYTES
unfolding bytes_at
at_most_a_line at xs = let size = length-take LINE_BYTES (drop at xs) in omega arith

pub merged_elsewhere : (at mask : ℕ) (from xs : List ℕ) (other : ℕ) → at + LINE_BYTES ≤ length xs → (other + LINE_BYTES ≤ at) ⊎ (at + LINE_BYTES ≤ other) → bytes_at other (merged_at at mask from xs) ≡ bytes_at other xs
merged_elsewhere at mask from xs other within apart =
    ext_get_or 0 (bytes_at other (merged_at at mask from xs)) (bytes_at other xs) (as_long_at other (merged_at at mask from xs) xs (length_merged_at at mask from xs within)) (λ i short.
    let below : i < LINE_BYTES = omega (arith, short, at_most_a_line other (merged_at at mask from xs)) in
    byte_at other (merged_at at mask from xs) i below
    ∙ merged_outside at mask from xs (other + i) within (⊎_elim (λ before. inl (omega arith)) (λ past. inr (omega arith)) apart)
    ∙ sym (byte_at other xs i below))
