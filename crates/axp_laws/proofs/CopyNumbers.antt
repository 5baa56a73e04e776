-- Ascending lists of numbers, by their members.
use Rattle.std.proofs.Common.{true, false, ℕ, ◌+◌, ◌<◌, ◌≤◌, ◌≡◌, ⊎_elim, eqb, ltb, cond, Bool, ◌&&◌, ◌||◌, List, [], ◌∷◌, length, refl, sym, ◌∙◌, arith}
use Rattle.std.specs.List.{AllByRecursion, filter}
use Rattle.std.proofs.lemmas.Bool.{cond_both, cases_Bool, cases_eq, cases_lt, or_cases, or_left, or_right, eqb-true, eqb-false, eq-eqb, ltb-true, ltb-false, false≢true}
use Rattle.axp_model.specs.Late.{insert}
use Rattle.axp_laws.specs.LateLaws.{is_among, IsAscending, ListsExactly}
use Rattle.axp_laws.proofs.RunSteps.{each_map}

or_swap : (a b c : Bool) → (a || (b || c)) ≡ (b || (a || c))
or_swap true true c = refl
or_swap true false c = refl
or_swap false b c = refl

or_again : (a c : Bool) → (a || c) ≡ (a || (a || c))
or_again true c = refl
or_again false c = refl

-- members of a list with a number put in
pub among_insert : (l k : ℕ) (ks : List ℕ) → is_among l (insert k ks) ≡ (eqb k l || is_among l ks)
among_insert l k [] = refl
among_insert l k (x ∷ ks) =
    ⊎_elim
    (λ (less : ltb k x ≡ true). rw less refl)
    (λ (more : ltb k x ≡ false).
    ⊎_elim
    (λ (same : eqb k x ≡ true). rw more (rw same (rw (eqb-true k x same) (or_again (eqb x l) (is_among l ks)))))
    (λ (apart : eqb k x ≡ false). rw more (rw apart (rw (among_insert l k ks) (or_swap (eqb x l) (eqb k l) (is_among l ks)))))
    (cases_Bool (eqb k x)))
    (cases_Bool (ltb k x))

above_insert : (m k : ℕ) (ks : List ℕ) → m < k → AllByRecursion (λ n. m < n) ks → AllByRecursion (λ n. m < n) (insert k ks)
above_insert m k [] less each = (less, tt)
above_insert m k (x ∷ ks) less each =
    cond_both (ltb k x) (k ∷ x ∷ ks) (cond (eqb k x) (x ∷ ks) (x ∷ insert k ks)) (AllByRecursion (λ n. m < n)) (λ _. (less, each))
    (λ _. cond_both (eqb k x) (x ∷ ks) (x ∷ insert k ks) (AllByRecursion (λ n. m < n)) (λ _. each) (λ _. (each.0, above_insert m k ks less each.1)))

above_more : (m k : ℕ) (ks : List ℕ) → m < k → AllByRecursion (λ n. k < n) ks → AllByRecursion (λ n. m < n) ks
above_more m k ks less each = each_map (λ n. k < n) (λ n. m < n) ks (λ n above. omega arith) each

pub ascending_insert : (k : ℕ) (ks : List ℕ) → IsAscending ks → IsAscending (insert k ks)
ascending_insert k [] asc = (tt, tt)
ascending_insert k (x ∷ ks) asc =
    cond_both (ltb k x) (k ∷ x ∷ ks) (cond (eqb k x) (x ∷ ks) (x ∷ insert k ks)) IsAscending
    (λ less. let under : k < x = ltb-true k x less in ((under, above_more k x ks under asc.0), asc))
    (λ more. cond_both (eqb k x) (x ∷ ks) (x ∷ insert k ks) IsAscending (λ _. asc)
    (λ apart.
    let over : x ≤ k = ltb-false k x more in
    let other : k ≡ x → ⊥ = eqb-false k x apart in
    (above_insert x k ks (beyond x k over other) asc.0, ascending_insert k ks asc.1)))
  where
    beyond : (x k : ℕ) → x ≤ k → (k ≡ x → ⊥) → x < k
    beyond x k over other = ⊎_elim (λ less. less) (λ ge. absurd (other (omega arith))) (cases_lt x k)

pub length_insert : (k : ℕ) (ks : List ℕ) → length (insert k ks) ≤ length ks + 1
length_insert k [] = omega arith
length_insert k (x ∷ ks) =
    cond_both (ltb k x) (k ∷ x ∷ ks) (cond (eqb k x) (x ∷ ks) (x ∷ insert k ks)) (λ z. length z ≤ length (x ∷ ks) + 1) (λ _. omega arith)
    (λ _. cond_both (eqb k x) (x ∷ ks) (x ∷ insert k ks) (λ z. length z ≤ length (x ∷ ks) + 1) (λ _. omega arith) (λ _. omega (arith, length_insert k ks)))

-- members of those that pass a test
among_filter : (test : ℕ → Bool) (l : ℕ) (ks : List ℕ) → is_among l (filter test ks) ≡ (test l && is_among l ks)
among_filter test l [] = ⊎_elim (λ (t : test l ≡ true). rw t refl) (λ (f : test l ≡ false). rw f refl) (cases_Bool (test l))
among_filter test l (x ∷ ks) =
    ⊎_elim
    (λ (same : eqb x l ≡ true).
    let is : x ≡ l = eqb-true x l same in
    ⊎_elim
    (λ (passed : test l ≡ true). let first : test x ≡ true = rw is passed in rw first (rw passed (rw same refl)))
    (λ (failed : test l ≡ false). let first : test x ≡ false = rw is failed in rw first (among_filter test l ks ∙ (rw failed refl)))
    (cases_Bool (test l)))
    (λ (apart : eqb x l ≡ false).
    rw apart (cond_both (test x) (x ∷ filter test ks) (filter test ks) (λ z. is_among l z ≡ (test l && is_among l ks)) (λ _. rw apart (among_filter test l ks)) (λ _. among_filter test l ks)))
    (cases_Bool (eqb x l))

each_filter : (P : ℕ → Type 0) (test : ℕ → Bool) (ks : List ℕ) → AllByRecursion P ks → AllByRecursion P (filter test ks)
each_filter P test [] each = tt
each_filter P test (x ∷ ks) each = cond_both (test x) (x ∷ filter test ks) (filter test ks) (AllByRecursion P) (λ _. (each.0, each_filter P test ks each.1)) (λ _. each_filter P test ks each.1)

ascending_filter : (test : ℕ → Bool) (ks : List ℕ) → IsAscending ks → IsAscending (filter test ks)
ascending_filter test [] asc = tt
ascending_filter test (x ∷ ks) asc =
    cond_both (test x) (x ∷ filter test ks) (filter test ks) IsAscending (λ _. (each_filter (λ n. x < n) test ks asc.0, ascending_filter test ks asc.1)) (λ _. ascending_filter test ks asc.1)

-- an ascending list, filtered by a test that only its members pass
pub lists_filter : (test : ℕ → Bool) (ks : List ℕ) → IsAscending ks → ((l : ℕ) → test l ≡ true → is_among l ks ≡ true) → ListsExactly test (filter test ks)
lists_filter test ks asc has = record {
  members = λ l. among_filter test l ks ∙ ⊎_elim (λ (t : test l ≡ true). rw t (has l t)) (λ (f : test l ≡ false). rw f refl) (cases_Bool (test l));
  ascending = ascending_filter test ks asc;
}

-- below the first of an ascending list nothing is a member
not_under : (l : ℕ) (ks : List ℕ) → AllByRecursion (λ n. l < n) ks → is_among l ks ≡ true → ⊥
not_under l [] each among = false≢true among
not_under l (x ∷ ks) each among =
    ⊎_elim
    (λ here. let same : x ≡ l = eqb-true x l here in omega (arith, each.0))
    (λ there. not_under l ks each.1 there)
    (or_cases (eqb x l) (is_among l ks) among)

above_of : (m l : ℕ) (ks : List ℕ) → AllByRecursion (λ n. m < n) ks → is_among l ks ≡ true → m < l
above_of m l [] each among = absurd (false≢true among)
above_of m l (x ∷ ks) each among =
    ⊎_elim
    (λ here. let same : x ≡ l = eqb-true x l here in omega (arith, each.0))
    (λ there. above_of m l ks each.1 there)
    (or_cases (eqb x l) (is_among l ks) among)

-- a list whose members are all above the first of another needs only that one's others
among_others : (y l : ℕ) (ys : List ℕ) → y < l → is_among l (y ∷ ys) ≡ true → is_among l ys ≡ true
among_others y l ys less among = ⊎_elim (λ here. let same : y ≡ l = eqb-true y l here in absurd (omega arith)) (λ there. there) (or_cases (eqb y l) (is_among l ys) among)

pub length_sub : (ys xs : List ℕ) → IsAscending ys → IsAscending xs → ((l : ℕ) → is_among l xs ≡ true → is_among l ys ≡ true) → length xs ≤ length ys
length_sub [] [] ay ax sub = omega arith
length_sub [] (x ∷ xs) ay ax sub = absurd (false≢true (sub x (or_left (eqb x x) (is_among x xs) (eq-eqb x x refl))))
length_sub (y ∷ ys) [] ay ax sub = omega arith
length_sub (y ∷ ys) (x ∷ xs) ay ax sub =
    let there : is_among x (y ∷ ys) ≡ true = sub x (or_left (eqb x x) (is_among x xs) (eq-eqb x x refl)) in
    ⊎_elim
    (λ (same : x ≡ y). omega (
      arith,
      length_sub ys xs ay.1 ax.1 (λ l among.
          let above : x < l = above_of x l xs ax.0 among in
          let over : y < l = omega arith in
          among_others y l ys over (sub l (or_right (eqb x l) (is_among l xs) among))),
    ))
    (λ (apart : x ≡ y → ⊥).
    ⊎_elim
    (λ (less : x < y). absurd (⊎_elim (λ here. apart (sym (eqb-true y x here))) (λ later. not_under x ys (above_more x y ys less ay.0) later) (or_cases (eqb y x) (is_among x ys) there)))
    (λ (more : y ≤ x). omega (
      arith,
      length_sub ys (x ∷ xs) ay.1 ax (λ l among.
          let above : x ≤ l = first_least x xs ax.0 l among in
          among_others y l ys (strictly y x l more apart above) (sub l among)),
    ))
    (cases_lt x y))
    (cases_eq x y)
  where
    first_least : (x : ℕ) (xs : List ℕ) → AllByRecursion (λ n. x < n) xs → (l : ℕ) → is_among l (x ∷ xs) ≡ true → x ≤ l
    first_least x xs each l among = ⊎_elim (λ here. let same : x ≡ l = eqb-true x l here in omega arith) (λ there. let above : x < l = above_of x l xs each there in omega arith) (or_cases (eqb x l) (is_among l xs) among)

    strictly : (y x l : ℕ) → y ≤ x → (x ≡ y → ⊥) → x ≤ l → y < l
    strictly y x l more apart above = ⊎_elim (λ less. omega arith) (λ ge. absurd (apart (omega arith))) (cases_lt y x)
