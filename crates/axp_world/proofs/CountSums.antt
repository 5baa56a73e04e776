-- Sums over the processors below a count.
use Rattle.std.proofs.Common.{◌≡◌, ℕ, zero, suc, ◌+◌, ◌*◌, ◌<◌, ◌≤◌, true, false, eqb, refl, subst, ⊎_elim, arith}
use Rattle.std.proofs.Math.Nat.{suc-mul}
use Rattle.std.proofs.lemmas.Bool.{cases_Bool, eqb-true, eqb-false, ne_eqb}

abbrev pub sum_below : (ℕ → ℕ) → ℕ → ℕ
sum_below f zero = 0
sum_below f (suc n) = f n + sum_below f n

pub sum_both : (f g : ℕ → ℕ) (n : ℕ) → sum_below (λ p. f p + g p) n ≡ sum_below f n + sum_below g n
sum_both f g zero = refl
sum_both f g (suc n) = omega (arith, sum_both f g n)

pub sum_most : (f : ℕ → ℕ) (most n : ℕ) → ((p : ℕ) → f p ≤ most) → sum_below f n ≤ n * most
sum_most f most zero within = omega arith
sum_most f most (suc n) within = omega (arith, within n, sum_most f most n within, suc-mul n most)

pub sum_under : (f g : ℕ → ℕ) (n : ℕ) → ((p : ℕ) → f p ≤ g p) → sum_below f n ≤ sum_below g n
sum_under f g zero under = omega arith
sum_under f g (suc n) under = omega (arith, under n, sum_under f g n under)

pub sum_same : (f g : ℕ → ℕ) (n : ℕ) → ((p : ℕ) → p < n → g p ≡ f p) → sum_below g n ≡ sum_below f n
sum_same f g zero same = refl
sum_same f g (suc n) same = omega (arith, same n (omega arith), sum_same f g n (λ p below. same p (omega (arith, below))))

-- one processor's part is more by k
pub sum_raised : (f g : ℕ → ℕ) (q k n : ℕ) → q < n → g q ≡ f q + k → ((p : ℕ) → eqb q p ≡ false → g p ≡ f p) → sum_below g n ≡ sum_below f n + k
sum_raised f g q k zero below raised same = absurd (omega (arith, below))
sum_raised f g q k (suc n) below raised same =
    ⊎_elim
    (λ (last : eqb q n ≡ true).
    let at = eqb-true q n last in
    let here = subst (λ m. g m ≡ f m + k) at raised in
    omega (arith, here, sum_same f g n (λ p less. same p (ne_eqb q p (λ e. omega (arith, at, e, less))))))
    (λ (other : eqb q n ≡ false). omega (arith, same n other, sum_raised f g q k n (nearer q n below (eqb-false q n other)) raised same))
    (cases_Bool (eqb q n))
  where
    nearer : (q n : ℕ) → q < suc n → (q ≡ n → ⊥) → q < n
    nearer q n below apart = grind (arith, below, apart)

pub sum_none : (f : ℕ → ℕ) (n : ℕ) → ((p : ℕ) → f p ≡ 0) → sum_below f n ≡ 0
sum_none f zero none = refl
sum_none f (suc n) none = omega (arith, none n, sum_none f n none)
