-- Being reached, by a relation of a list's elements.
use Rattle.std.proofs.Common.{cond, ◌≡◌, ◌⊎◌, ℕ, zero, suc, ◌+◌, ◌-◌, ◌<◌, ◌≤◌, Bool, true, false, ◌&&◌, List, [], ◌∷◌, length, refl, sym, ap, ◌∙◌, subst, arith, inl, inr, ⊎_elim}
use Rattle.std.specs.List.{list_any}
use Rattle.std.proofs.lemmas.Bool.{cases_Bool, and_parts, and_from, or_cases, or_left, or_right, false≢true}
use Rattle.axp_laws.proofs.CauseMoments.{Among}
use Rattle.axp_check.specs.Loops.{leads}

-- some element passes
pub any_from : {X : Type 0} (test : X → Bool) (xs : List X) (x : X) → Among x xs → test x ≡ true → list_any test xs ≡ true
any_from test [] x among passed = absurd among
any_from test (y ∷ ys) x among passed = ⊎_elim (λ same. or_left (test y) (list_any test ys) (subst (λ z. test z ≡ true) (sym same) passed)) (λ back. or_right (test y) (list_any test ys) (any_from test ys x back passed)) among

pub any_gives : {X : Type 0} (test : X → Bool) (xs : List X) → list_any test xs ≡ true → (x : X) × (Among x xs × (test x ≡ true))
any_gives test [] e = absurd (false≢true e)
any_gives test (y ∷ ys) e = ⊎_elim (λ here. (y, (inl refl, here))) (λ back. let rest = any_gives test ys back in (rest.0, (inr rest.1.0, rest.1.1))) (or_cases (test y) (list_any test ys) e)

-- one step more at the end
pub leads_on : {X : Type 0} (cause : X → X → Bool) (us : List X) (n : ℕ) (u w v : X) → Among w us → leads cause us n u w ≡ true → cause w v ≡ true → leads cause us (n + 1) u v ≡ true
leads_on cause us n u w v among first last = let next : n + 1 ≡ suc n = omega arith in rw next (or_right (cause u v) (list_any (λ w. leads cause us n u w && cause w v) us) (any_from (λ w. leads cause us n u w && cause w v) us w among (and_from (leads cause us n u w) (cause w v) first last)))

-- two ways in a row
pub leads_join : {X : Type 0} (cause : X → X → Bool) (us : List X) (m n : ℕ) (u w v : X) → Among w us → leads cause us m u w ≡ true → leads cause us n w v ≡ true → (k : ℕ) × (leads cause us k u v ≡ true)
leads_join cause us m zero u w v among first last = (m + 1, leads_on cause us m u w v among first last)
leads_join cause us m (suc n) u w v among first last =
    ⊎_elim
    (λ (one : cause w v ≡ true). (m + 1, leads_on cause us m u w v among first one))
    (λ (more : list_any (λ x. leads cause us n w x && cause x v) us ≡ true).
    let x = any_gives (λ x. leads cause us n w x && cause x v) us more in
    let both = and_parts (leads cause us n w x.0) (cause x.0 v) x.1.1 in
    let way = leads_join cause us m n u w x.0 among first both.0 in
    (way.0 + 1, leads_on cause us way.0 u x.0 v x.1.0 way.1 both.1))
    (or_cases (cause w v) (list_any (λ x. leads cause us n w x && cause x v) us) last)

-- where each step raises a number, so does each way
pub leads_raises : {X : Type 0} (cause : X → X → Bool) (us : List X) (f : X → ℕ) → ((u v : X) → cause u v ≡ true → f u < f v) → (n : ℕ) (u v : X) → leads cause us n u v ≡ true → f u < f v
leads_raises cause us f up zero u v way = up u v way
leads_raises cause us f up (suc n) u v way =
    ⊎_elim
    (λ (one : cause u v ≡ true). up u v one)
    (λ (more : list_any (λ w. leads cause us n u w && cause w v) us ≡ true).
    let w = any_gives (λ w. leads cause us n u w && cause w v) us more in
    let both = and_parts (leads cause us n u w.0) (cause w.0 v) w.1.1 in
    omega (arith, leads_raises cause us f up n u w.0 both.0, up w.0 v both.1))
    (or_cases (cause u v) (list_any (λ w. leads cause us n u w && cause w v) us) way)

-- what is before the last step of a way from x to itself
pub record LastStep {X : Type 0} (cause : X → X → Bool) (us : List X) (x : X) : Type 0 where
  pub from : X
  pub step : cause from x ≡ true
  -- it is x, or comes back to itself as well
  pub back : (from ≡ x) ⊎ (Among from us × ((k : ℕ) × (leads cause us k from from ≡ true)))

pub last_step : {X : Type 0} (cause : X → X → Bool) (us : List X) (n : ℕ) (x : X) → Among x us → leads cause us n x x ≡ true → LastStep cause us x
last_step cause us zero x among way = record { from = x; step = way; back = inl refl }
last_step cause us (suc n) x among way =
    ⊎_elim
    (λ (one : cause x x ≡ true). record { from = x; step = one; back = inl refl })
    (λ (more : list_any (λ w. leads cause us n x w && cause w x) us ≡ true).
    let w = any_gives (λ w. leads cause us n x w && cause w x) us more in
    let both = and_parts (leads cause us n x w.0) (cause w.0 x) w.1.1 in
    record { from = w.0; step = both.1; back = inr (w.1.0, leads_join cause us 0 n w.0 x w.0 among both.1 both.0) })
    (or_cases (cause x x) (list_any (λ w. leads cause us n x w && cause w x) us) way)

-- so the least of those that come back to themselves is reached in its last step from one not less
pub least_from_above : {X : Type 0} (cause : X → X → Bool) (us : List X) (f : X → ℕ) (n : ℕ) (x : X) → Among x us → leads cause us n x x ≡ true → ((y : X) (k : ℕ) → Among y us → leads cause us k y y ≡ true → f x ≤ f y) → (y : X) × ((cause y x ≡ true) × (f x ≤ f y))
least_from_above cause us f n x among way least =
    let last = last_step cause us n x among way in
    (last.from, (last.step, ⊎_elim (λ (same : last.from ≡ x). let one : f last.from ≡ f x = ap f same in omega (arith, one)) (λ back. least last.from back.1.0 back.0 back.1.1) last.back))

-- more steps reach no less
pub leads_more : {X : Type 0} (cause : X → X → Bool) (us : List X) (n : ℕ) (u v : X) → leads cause us n u v ≡ true → leads cause us (suc n) u v ≡ true
leads_more cause us zero u v way = or_left (cause u v) (list_any (λ w. leads cause us zero u w && cause w v) us) way
leads_more cause us (suc n) u v way =
    ⊎_elim
    (λ (one : cause u v ≡ true). or_left (cause u v) (list_any (λ w. leads cause us (suc n) u w && cause w v) us) one)
    (λ (more : list_any (λ w. leads cause us n u w && cause w v) us ≡ true).
    let w = any_gives (λ w. leads cause us n u w && cause w v) us more in
    let both = and_parts (leads cause us n u w.0) (cause w.0 v) w.1.1 in
    or_right (cause u v) (list_any (λ w. leads cause us (suc n) u w && cause w v) us) (any_from (λ w. leads cause us (suc n) u w && cause w v) us w.0 w.1.0 (and_from (leads cause us (suc n) u w.0) (cause w.0 v) (leads_more cause us n u w.0 both.0) both.1)))
    (or_cases (cause u v) (list_any (λ w. leads cause us n u w && cause w v) us) way)

-- m steps reach all that one step more does
abbrev Settles : {X : Type 0} → (X → X → Bool) → List X → X → ℕ → Type 0
Settles {X} cause us u m = (v : X) → Among v us → leads cause us (suc m) u v ≡ true → leads cause us m u v ≡ true

leads_one : {X : Type 0} (cause : X → X → Bool) (us : List X) (u v : X) → cause u v ≡ true → (n : ℕ) → leads cause us n u v ≡ true
leads_one cause us u v one zero = one
leads_one cause us u v one (suc n) = or_left (cause u v) (list_any (λ w. leads cause us n u w && cause w v) us) one

-- and then all that any number of steps does
settled_for_good : {X : Type 0} (cause : X → X → Bool) (us : List X) (u : X) (m : ℕ) → Settles cause us u m → (k : ℕ) (v : X) → Among v us → leads cause us k u v ≡ true → leads cause us m u v ≡ true
settled_for_good cause us u m settles zero v among way = leads_one cause us u v way m
settled_for_good cause us u m settles (suc k) v among way =
    ⊎_elim
    (λ (one : cause u v ≡ true). leads_one cause us u v one m)
    (λ (more : list_any (λ w. leads cause us k u w && cause w v) us ≡ true).
    let w = any_gives (λ w. leads cause us k u w && cause w v) us more in
    let both = and_parts (leads cause us k u w.0) (cause w.0 v) w.1.1 in
    settles v among (or_right (cause u v) (list_any (λ w. leads cause us m u w && cause w v) us) (any_from (λ w. leads cause us m u w && cause w v) us w.0 w.1.0 (and_from (leads cause us m u w.0) (cause w.0 v) (settled_for_good cause us u m settles k w.0 w.1.0 both.0) both.1))))
    (or_cases (cause u v) (list_any (λ w. leads cause us k u w && cause w v) us) way)

-- how many pass a test
abbrev how_many : {X : Type 0} → (X → Bool) → List X → ℕ
how_many p [] = 0
how_many p (x ∷ xs) = cond (p x) 1 0 + how_many p xs

how_many_most : {X : Type 0} (p : X → Bool) (us : List X) → how_many p us ≤ length us
how_many_most p [] = omega arith
how_many_most p (x ∷ xs) = let rest = how_many_most p xs in ⊎_elim (λ (yes_ : p x ≡ true). rw yes_ (omega (arith, rest))) (λ (no_ : p x ≡ false). rw no_ (omega (arith, rest))) (cases_Bool (p x))

-- of two tests, the second the weaker, either passes the same ones, or the second passes more
same_or_more : {X : Type 0} (p q : X → Bool) (us : List X) → ((x : X) → p x ≡ true → q x ≡ true) → ((x : X) → Among x us → q x ≡ true → p x ≡ true) ⊎ (how_many p us + 1 ≤ how_many q us)
same_or_more p q [] weaker = inl (λ x among e. absurd among)
same_or_more p q (y ∷ ys) weaker =
    ⊎_elim
    (λ (yes_ : p y ≡ true). ⊎_elim
    (λ same. inl (λ x among e. ⊎_elim (λ one. subst (λ z. p z ≡ true) one yes_) (λ back. same x back e) among))
    (λ more. inr (rw (yes_, weaker y yes_) (omega (arith, more))))
    (same_or_more p q ys weaker))
    (λ (no_ : p y ≡ false). ⊎_elim
    (λ (new : q y ≡ true). inr (rw (no_, new) (omega (arith, no_less p q ys weaker))))
    (λ (none : q y ≡ false). ⊎_elim
    (λ same. inl (λ x among e. ⊎_elim (λ one. absurd (false≢true (sym none ∙ subst (λ z. q z ≡ true) (sym one) e))) (λ back. same x back e) among))
    (λ more. inr (rw (no_, none) (omega (arith, more))))
    (same_or_more p q ys weaker))
    (cases_Bool (q y)))
    (cases_Bool (p y)) where
      no_less : {X : Type 0} (p q : X → Bool) (us : List X) → ((x : X) → p x ≡ true → q x ≡ true) → how_many p us ≤ how_many q us
      no_less p q [] weaker = omega arith
      no_less p q (y ∷ ys) weaker =
          ⊎_elim
          (λ (yes_ : p y ≡ true). rw (yes_, weaker y yes_) (omega (arith, no_less p q ys weaker)))
          (λ (no_ : p y ≡ false). rw no_ (omega (arith, no_less p q ys weaker)))
          (cases_Bool (p y))

-- within n steps it settles, or n elements were reached
settles_or_grows : {X : Type 0} (cause : X → X → Bool) (us : List X) (u : X) (n : ℕ) → ((m : ℕ) × (Settles cause us u m × (m ≤ n))) ⊎ (n + 1 ≤ how_many (leads cause us (suc n) u) us)
settles_or_grows cause us u zero =
    ⊎_elim
    (λ same. inl (zero, (same, omega arith)))
    (λ more. inr (omega (arith, more)))
    (same_or_more (leads cause us zero u) (leads cause us (suc zero) u) us (λ x way. leads_more cause us zero u x way))
settles_or_grows cause us u (suc n) =
    ⊎_elim
    (λ done. inl (done.0, (done.1.0, (let low = done.1.1 in omega (arith, low)))))
    (λ grew. ⊎_elim
    (λ same. inl (suc n, (same, omega arith)))
    (λ more. inr (omega (arith, grew, more)))
    (same_or_more (leads cause us (suc n) u) (leads cause us (suc (suc n)) u) us (λ x way. leads_more cause us (suc n) u x way)))
    (settles_or_grows cause us u n)

leads_up : {X : Type 0} (cause : X → X → Bool) (us : List X) (u v : X) (m k : ℕ) → leads cause us m u v ≡ true → leads cause us (k + m) u v ≡ true
leads_up cause us u v m zero way = let same : 0 + m ≡ m = omega arith in rw same way
leads_up cause us u v m (suc k) way = let next : suc k + m ≡ suc (k + m) = omega arith in rw next (leads_more cause us (k + m) u v (leads_up cause us u v m k way))

-- what is reached at all is reached over no more elements than there are
pub leads_within : {X : Type 0} (cause : X → X → Bool) (us : List X) (k : ℕ) (u v : X) → Among v us → leads cause us k u v ≡ true → leads cause us (length us) u v ≡ true
leads_within cause us k u v among way =
    ⊎_elim
    (λ done. let low = done.1.1 in let sum : (length us - done.0) + done.0 ≡ length us = omega (arith, low) in rw (sym sum) (leads_up cause us u v done.0 (length us - done.0) (settled_for_good cause us u done.0 done.1.0 k v among way)))
    (λ grew. let most = how_many_most (leads cause us (suc (length us)) u) us in absurd (never (length us) (how_many (leads cause us (suc (length us)) u) us) grew most))
    (settles_or_grows cause us u (length us)) where
      never : (a b : ℕ) → a + 1 ≤ b → b ≤ a → ⊥
      never a b more most = omega (arith, more, most)
