-- A line is filled from memory byte by byte.
use Rattle.std.proofs.Common.{◌≡◌, ℕ, suc, ◌+◌, ◌-◌, ◌*◌, ◌^◌, ◌<◌, ◌≤◌, List, [], ◌∷◌, ◌++◌, length, take, drop, replicate, get_or, set, arith, refl, sym, ap, ◌∙◌, append_assoc}
use Rattle.std.proofs.lemmas.List.{append-nil, get_or-drop, length-drop, length-take-le, set_at, take_more}
use Rattle.axp_base.specs.Parts.{byte, part, with_part, number_at}
use Rattle.axp_base.specs.declared.lines.TheConstants.{LINE_BYTES}
use Rattle.axp_memory.specs.Bytes.{bytes_at}

-- n bytes from an offset on, of a line that is else 0
unfoldable pub filled : ℕ → ℕ → ℕ → List ℕ → List ℕ
filled whole n at xs = take n (drop at xs) ++ replicate (whole - n) 0

pub filled_none : (at : ℕ) (xs : List ℕ) → filled LINE_BYTES 0 at xs ≡ replicate LINE_BYTES 0
unfolding filled
filled_none at xs = refl

-- one byte more, with m bytes behind it that are 0
filled_step : (from : List ℕ) (n m x : ℕ) → n < length from → get_or from n 0 ≡ x → set (take n from ++ 0 ∷ replicate m 0) n x ≡ take (n + 1) from ++ replicate m 0
filled_step from n m x below is =
    let short : n ≤ length from = omega (arith, below) in
    set_at (take n from) 0 (replicate m 0) x n (length-take-le n from short)
    ∙ sym (append_assoc (take n from) (x ∷ []) (replicate m 0))
    ∙ ap (λ (y : ℕ). (take n from ++ y ∷ []) ++ replicate m 0) (sym is)
    ∙ ap (λ (ys : List ℕ). ys ++ replicate m 0) (sym (take_more from n 0 below))

filled_one : (whole n at : ℕ) (xs : List ℕ) → n < whole → at + whole ≤ length xs → filled whole (n + 1) at xs ≡ set (filled whole n at xs) n (get_or xs (at + n) 0)
unfolding filled
filled_one whole n at xs below within =
    let long : length (drop at xs) ≡ length xs - at = length-drop at xs in
    let short : n < length (drop at xs) = omega (arith, long, below, within) in
    let count : suc (whole - (n + 1)) ≡ whole - n = omega (arith, below) in
    sym (filled_step (drop at xs) n (whole - (n + 1)) (get_or xs (at + n) 0) short (get_or-drop at xs n 0))
    ∙ ap (λ k. set (take n (drop at xs) ++ replicate k 0) n (get_or xs (at + n) 0)) count

pub filled_more : (n at : ℕ) (xs : List ℕ) → n < LINE_BYTES → at + LINE_BYTES ≤ length xs → filled LINE_BYTES (n + 1) at xs ≡ set (filled LINE_BYTES n at xs) n (get_or xs (at + n) 0)
filled_more = filled_one LINE_BYTES

filled_whole : (at : ℕ) (xs : List ℕ) → filled LINE_BYTES LINE_BYTES at xs ≡ bytes_at at xs
unfolding filled bytes_at
filled_whole at xs = append-nil (take LINE_BYTES (drop at xs))

pub filled_all : (n at : ℕ) (xs : List ℕ) → LINE_BYTES ≤ n → n ≤ LINE_BYTES → filled LINE_BYTES n at xs ≡ bytes_at at xs
filled_all n at xs least most =
    let all : n ≡ LINE_BYTES = omega arith in
    ap (λ k. filled LINE_BYTES k at xs) all ∙ filled_whole at xs

pub one_byte_put : (xs : List ℕ) (n v : ℕ) → v < 256 → with_part xs n 1 v ≡ set xs n v
unfolding with_part
one_byte_put xs n v small =
    let value : byte v 0 ≡ v = omega arith in
    let place : n + 0 ≡ n = omega arith in
    ap (λ k. set xs k (byte v 0)) place ∙ ap (set xs n) value

pub one_byte_read : (xs : List ℕ) (n : ℕ) → part xs n 1 ≡ get_or xs n 0
unfolding number_at
one_byte_read xs n =
    let place : n + 0 ≡ n = omega arith in
    let value : 0 + get_or xs (n + 0) 0 * 2 ^ (8 * 0) ≡ get_or xs (n + 0) 0 = omega arith in
    value ∙ ap (λ k. get_or xs k 0) place
