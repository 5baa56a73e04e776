-- Parts of a list of bytes: what is put is read back, and the rest stays.
use Rattle.std.proofs.Common.{◌≡◌, ◌≢◌, ◌⊎◌, inl, inr, slice_index, ℕ, zero, suc, ◌+◌, ◌*◌, ◌%◌, ◌^◌, ◌<◌, ◌≤◌, List, length, get_or, set, arith, sym, refl, ap, ◌∙◌, add-one, ⊎_elim, get_or-set_same, get_or-set_other}
use Rattle.std.proofs.lemmas.Nat.{shl_whole, pow-add, mod-pow-add}
use Rattle.std.proofs.lemmas.Bool.{cases_eq}
use Rattle.std.proofs.Math.Nat.{mul-le-mul_right}
use Rattle.std.proofs.Math.Pow.{pow_mono}
use Rattle.std.proofs.Math.ListN.{length-set}
use Rattle.axp_base.specs.Parts.{byte, number_at, part, with_part}

pub number_at_none : (f : ℕ → ℕ) (a : ℕ) → number_at f a 0 ≡ 0
unfolding number_at
number_at_none f a = refl

pub number_at_more : (f : ℕ → ℕ) (a n : ℕ) → number_at f a (n + 1) ≡ number_at f a n + f (a + n) * 2 ^ (8 * n)
unfolding number_at
number_at_more f a n = rw add-one refl

pub number_at_small : (f : ℕ → ℕ) (a n : ℕ) → ((k : ℕ) → f k < 256) → number_at f a n < 2 ^ (8 * n)
unfolding number_at
number_at_small f a zero h = omega arith
number_at_small f a (suc n) h =
    let e : 8 * suc n ≡ 8 * n + 8 = omega arith in
    let le : f (a + n) ≤ 255 = omega (arith, h (a + n)) in
    rw (e, pow-add 2 (8 * n) 8) (omega (arith, number_at_small f a n h, mul-le-mul_right (2 ^ (8 * n)) le))

-- the number depends on its own bytes alone
pub number_at-same : (f g : ℕ → ℕ) (a n : ℕ) → ((k : ℕ) → a ≤ k → k < a + n → f k ≡ g k) → number_at f a n ≡ number_at g a n
unfolding number_at
number_at-same f g a zero h = refl
number_at-same f g a (suc n) h =
    let low : number_at f a n ≡ number_at g a n = number_at-same f g a n (λ k from below. h k from (omega arith)) in
    let top : f (a + n) ≡ g (a + n) = h (a + n) (omega arith) (omega arith) in
    rw (low, top) refl

-- a byte moved up stays whole
pub byte_whole : (x n : ℕ) → x < 2 ^ 8 → n < 8 → x * 2 ^ (8 * n) % 2 ^ 64 ≡ x * 2 ^ (8 * n)
byte_whole x n small few = shl_whole x 8 (8 * n) 64 small (omega arith)

-- a number of at most eight bytes stays below 2 ^ 64
pub number_at_fits : (f : ℕ → ℕ) (a n : ℕ) → ((k : ℕ) → f k < 256) → n < 8 → number_at f a n + f (a + n) * 2 ^ (8 * n) < 2 ^ 64
unfolding number_at
number_at_fits f a n bytes few =
    let lt : number_at f a (suc n) < 2 ^ (8 * suc n) = number_at_small f a (suc n) bytes in
    let up : 2 ^ (8 * suc n) ≤ 2 ^ 64 = pow_mono {i = 8 * suc n} {j = 64} (omega arith) in
    omega (arith, lt)

pub with_part_none : (xs : List ℕ) (a v : ℕ) → with_part xs a 0 v ≡ xs
unfolding with_part
with_part_none xs a v = refl

pub with_part_more : (xs : List ℕ) (a n v : ℕ) → with_part xs a (n + 1) v ≡ set (with_part xs a n v) (a + n) (byte v n)
unfolding with_part
with_part_more xs a n v = rw add-one refl

pub length-with_part : (xs : List ℕ) (a n v : ℕ) → length (with_part xs a n v) ≡ length xs
unfolding with_part
length-with_part xs a zero v = refl
length-with_part xs a (suc n) v = length-set (with_part xs a n v) (a + n) (byte v n) ∙ length-with_part xs a n v

-- a byte that was put, and one that stays
put_one : (xs : List ℕ) (a n i x y : ℕ) → a + n < length xs → (i ≡ n → x ≡ y) → (i ≢ n → get_or xs (a + i) 0 ≡ y) → get_or (set xs (a + n) x) (a + i) 0 ≡ y
put_one xs a n i x y inside at other =
    ⊎_elim
    (λ e. rw e (rw get_or-set_same (at e)))
    (λ (ne : i ≢ n). let apart : a + i ≢ a + n = omega arith in rw get_or-set_other (other ne))
    (cases_eq i n)

pub get_or-with_part : (xs : List ℕ) (a n v i : ℕ) → a + n ≤ length xs → i < n → get_or (with_part xs a n v) (a + i) 0 ≡ byte v i
unfolding with_part
get_or-with_part xs a zero v i fits below = absurd (omega arith)
get_or-with_part xs a (suc n) v i fits below =
    put_one (with_part xs a n v) a n i (byte v n) (byte v i) (omega (arith, length-with_part xs a n v)) (λ e. ap (byte v) (sym e))
    (λ ne. get_or-with_part xs a n v i (omega arith) (omega arith))

kept_one : (xs : List ℕ) (j x k : ℕ) → k ≢ j → get_or (set xs j x) k 0 ≡ get_or xs k 0
kept_one xs j x k apart = rw get_or-set_other refl

-- a byte below or past the part stays
pub get_or-with_part_other : (xs : List ℕ) (a n v k : ℕ) → ((i : ℕ) → i < n → k ≢ a + i) → get_or (with_part xs a n v) k 0 ≡ get_or xs k 0
unfolding with_part
get_or-with_part_other xs a zero v k apart = refl
get_or-with_part_other xs a (suc n) v k apart =
    kept_one (with_part xs a n v) (a + n) (byte v n) k (apart n (omega arith)) ∙ get_or-with_part_other xs a n v k (λ i below. apart i (omega arith))

-- the number of bytes that are those of v is the low part of v
pub number_at-bytes : (f : ℕ → ℕ) (a n v : ℕ) → ((i : ℕ) → i < n → f (a + i) ≡ byte v i) → number_at f a n ≡ v % 2 ^ (8 * n)
unfolding number_at
number_at-bytes f a zero v h = omega arith
number_at-bytes f a (suc n) v h =
    let low : number_at f a n ≡ v % 2 ^ (8 * n) = number_at-bytes f a n v (λ i below. h i (omega arith)) in
    let top : f (a + n) ≡ byte v n = h n (omega arith) in
    let e : 8 * suc n ≡ 8 + 8 * n = omega arith in
    let split = mod-pow-add v 8 (8 * n) in
    rw (low, top, e) (omega (arith, split))

-- what is put is read back
pub part-with_part : (xs : List ℕ) (a n v : ℕ) → a + n ≤ length xs → part (with_part xs a n v) a n ≡ v % 2 ^ (8 * n)
part-with_part xs a n v fits = number_at-bytes (slice_index (with_part xs a n v)) a n v (λ i below. get_or-with_part xs a n v i fits below)

pub outside-with_part : (xs : List ℕ) (a n v k : ℕ) → (k < a) ⊎ (a + n ≤ k) → get_or (with_part xs a n v) k 0 ≡ get_or xs k 0
outside-with_part xs a n v k (inl before) = get_or-with_part_other xs a n v k (λ i below. omega arith)
outside-with_part xs a n v k (inr past) = get_or-with_part_other xs a n v k (λ i below. omega arith)
