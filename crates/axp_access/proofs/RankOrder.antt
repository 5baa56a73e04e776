-- BEFORE compares ranks.
use Rattle.std.proofs.Common.{◌≡◌, ◌⊎◌, ℕ, suc, ◌+◌, ◌*◌, ◌<◌, ◌≤◌, ◌^◌, Bool, true, false, not, ◌&&◌, eqb, ltb, refl, sym, ap, ◌∙◌, arith, inl, inr, ⊎_elim}
use Rattle.std.specs.declared.cmp.Ordering.{Ordering}
use Rattle.std.specs.declared.cmp.Ordering.TheVariants.{Less, Equal, Greater}
use Rattle.std.specs.Ordering.{ordering_then, nat_cmp, bool_cmp, is_lt}
use Rattle.std.proofs.lemmas.Bool.{cases_Bool, cases_lt, lt-ltb, le-ltb}
use Rattle.std.proofs.lemmas.Nat.{mul-le}
use Rattle.std.proofs.Math.Nat.{suc-mul}
use Rattle.axp_access.specs.Order.{Key, key_cmp, key_before}
use Rattle.axp_access.specs.Ranks.{bit, rank_of, FitsRank}

nat_cmp_less : (m n : ℕ) → m < n → nat_cmp m n ≡ Less
nat_cmp_less m n e = rw (lt-ltb m n e) refl

nat_cmp_same : (n : ℕ) → nat_cmp n n ≡ Equal
nat_cmp_same n = grind arith

nat_cmp_more : (m n : ℕ) → n < m → nat_cmp m n ≡ Greater
nat_cmp_more m n e = let no : eqb m n ≡ false = grind arith in rw (le-ltb m n (omega arith), no) refl

bits : (a b : Bool) → bool_cmp a b ≡ nat_cmp (bit a) (bit b)
bits true true = refl
bits true false = refl
bits false true = refl
bits false false = refl

row_more : (x m : ℕ) → (x + 1) * m ≡ x * m + m
row_more x m = let next : x + 1 ≡ suc x = omega arith in rw next (suc-mul x m)

-- a number in front of one below m
radix : (m x y a b : ℕ) (o : Ordering) → a < m → b < m → o ≡ nat_cmp a b → ordering_then (nat_cmp x y) o ≡ nat_cmp (x * m + a) (y * m + b)
radix m x y a b o small also e = ⊎_elim
    (λ (less : x < y). let step : (x + 1) * m ≤ y * m = mul-le (x + 1) m y m (omega arith) (omega arith) in let sum : (x + 1) * m ≡ x * m + m = row_more x m in rw (nat_cmp_less x y less) (sym (nat_cmp_less (x * m + a) (y * m + b) (omega (arith, step, sum)))))
    (λ (ge : y ≤ x). ⊎_elim
    (λ (more : y < x). let step : (y + 1) * m ≤ x * m = mul-le (y + 1) m x m (omega arith) (omega arith) in let sum : (y + 1) * m ≡ y * m + m = row_more y m in rw (nat_cmp_more x y more) (sym (nat_cmp_more (x * m + a) (y * m + b) (omega (arith, step, sum)))))
    (λ (le : x ≤ y). let same : x ≡ y = omega arith in rw same (rw (nat_cmp_same y) (e ∙ by_cases (y * m) (cases_lt a b))))
    (cases_lt y x))
    (cases_lt x y) where
      by_cases : (k : ℕ) → (a < b) ⊎ (b ≤ a) → nat_cmp a b ≡ nat_cmp (k + a) (k + b)
      by_cases k split = ⊎_elim
          (λ (less : a < b). rw (nat_cmp_less a b less) (sym (nat_cmp_less (k + a) (k + b) (omega (arith, less)))))
          (λ (ge : b ≤ a). ⊎_elim
          (λ (more : b < a). rw (nat_cmp_more a b more) (sym (nat_cmp_more (k + a) (k + b) (omega (arith, more)))))
          (λ (le : a ≤ b). let same : a ≡ b = omega (arith, ge, le) in rw same (nat_cmp_same b ∙ sym (nat_cmp_same (k + b))))
          (cases_lt b a))
          split

bit_small : (b : Bool) → bit b < 2
bit_small true = omega arith
bit_small false = omega arith

-- the number of a key without whether it has a place
abbrev pub number_of : Key → ℕ
number_of k = bit k.spot.last * 2 ^ 105 + (k.spot.place * 2 ^ 41 + (bit k.other * 2 ^ 40 + (k.cpu * 2 ^ 32 + k.number)))

pub compared : (a b : Key) → FitsRank a → FitsRank b → key_cmp a b ≡ nat_cmp (number_of a) (number_of b)
compared a b small also =
    let s1 = small.place in let s2 = small.cpu in let s3 = small.number in let s4 = bit_small a.other in
    let t1 = also.place in let t2 = also.cpu in let t3 = also.number in let t4 = bit_small b.other in
    let cpus = radix (2 ^ 32) a.cpu b.cpu a.number b.number (nat_cmp a.number b.number) s3 t3 refl in
    let others = radix (2 ^ 40) (bit a.other) (bit b.other) (a.cpu * 2 ^ 32 + a.number) (b.cpu * 2 ^ 32 + b.number) _ (omega (arith, s2, s3)) (omega (arith, t2, t3)) cpus in
    let places = radix (2 ^ 41) a.spot.place b.spot.place (bit a.other * 2 ^ 40 + (a.cpu * 2 ^ 32 + a.number)) (bit b.other * 2 ^ 40 + (b.cpu * 2 ^ 32 + b.number)) _ (omega (arith, s2, s3, s4)) (omega (arith, t2, t3, t4)) others in
    let lasts = radix (2 ^ 105) (bit a.spot.last) (bit b.spot.last) (a.spot.place * 2 ^ 41 + (bit a.other * 2 ^ 40 + (a.cpu * 2 ^ 32 + a.number))) (b.spot.place * 2 ^ 41 + (bit b.other * 2 ^ 40 + (b.cpu * 2 ^ 32 + b.number))) _ (omega (arith, s1, s2, s3, s4)) (omega (arith, t1, t2, t3, t4)) places in
    rw (bits a.spot.last b.spot.last, bits a.other b.other) lasts

-- of two keys that have a place, the one BEFORE has the lesser rank
pub before_is_less : (a b : Key) → FitsRank a → FitsRank b → a.spot.placed ≡ true → b.spot.placed ≡ true → key_before a b ≡ ltb (rank_of a) (rank_of b)
unfolding key_before rank_of
before_is_less a b small also pa pb = rw (pa, pb) (ap is_lt (compared a b small also) ∙ less_of (number_of a) (number_of b)) where
  less_of : (m n : ℕ) → is_lt (nat_cmp m n) ≡ ltb m n
  less_of m n = ⊎_elim
      (λ (less : m < n). rw (nat_cmp_less m n less) (sym (lt-ltb m n less)))
      (λ (ge : n ≤ m). ⊎_elim
      (λ (more : n < m). rw (nat_cmp_more m n more) (sym (le-ltb m n ge)))
      (λ (le : m ≤ n). let same : m ≡ n = omega (arith, ge, le) in rw same (rw (nat_cmp_same n) (sym (le-ltb n n (omega arith)))))
      (cases_lt n m))
      (cases_lt m n)

no_rank : (k : Key) → k.spot.placed ≡ false → rank_of k ≡ 0
unfolding rank_of
no_rank k e = rw e refl

some_rank : (k : Key) → FitsRank k → k.spot.placed ≡ true → eqb (rank_of k) 0 ≡ false
unfolding rank_of
some_rank k small e = rw e (let first = small.first in positive (bit k.spot.last * 2 ^ 105 + (k.spot.place * 2 ^ 41 + (bit k.other * 2 ^ 40 + (k.cpu * 2 ^ 32 + k.number)))) (omega (arith, first))) where
  positive : (n : ℕ) → 1 ≤ n → eqb n 0 ≡ false
  positive n e = grind arith

not_first : (a b : Key) → a.spot.placed ≡ false → key_before a b ≡ false
unfolding key_before
not_first a b e = rw e refl

not_second : (a b : Key) → b.spot.placed ≡ false → key_before a b ≡ false
unfolding key_before
not_second a b e = rw e (last a.spot.placed) where
  last : (p : Bool) → ((p && false) && is_lt (key_cmp a b)) ≡ false
  last true = refl
  last false = refl

-- BEFORE by ranks, also where one has no place
pub before_by_rank : (a b : Key) → FitsRank a → FitsRank b → key_before a b ≡ (not (eqb (rank_of a) 0) && ltb (rank_of a) (rank_of b))
before_by_rank a b small also = by (cases_Bool a.spot.placed) (cases_Bool b.spot.placed) where
  by : (a.spot.placed ≡ true) ⊎ (a.spot.placed ≡ false) → (b.spot.placed ≡ true) ⊎ (b.spot.placed ≡ false) → key_before a b ≡ (not (eqb (rank_of a) 0) && ltb (rank_of a) (rank_of b))
  by (inl pa) (inl pb) = rw (before_is_less a b small also pa pb, some_rank a small pa) refl
  by (inl pa) (inr nb) = rw (not_second a b nb, no_rank b nb, some_rank a small pa) (sym (le-ltb (rank_of a) 0 (omega arith)))
  by (inr na) ob = rw (not_first a b na, no_rank a na) refl
