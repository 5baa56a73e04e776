-- Where elements stand in lists.
use Rattle.std.proofs.Common.{◌≡◌, ◌⊎◌, ⊎_elim, inl, inr, ℕ, zero, suc, ◌<◌, List, [], ◌∷◌, ◌++◌, length, sym, refl, ap, arith}
use mathlib.Core.Option.{some, some-injective, some-ne-none}
use lib.ListN.{get_elem?}

module _ {Item : Type 0} where
  -- below its length a list has an element
  pub some_at : (l : List Item) (n : ℕ) → n < length l → (x : Item) × (get_elem? l n ≡ some x)
  some_at [] n h = absurd (omega arith)
  some_at (x ∷ xs) zero h = (x, refl)
  some_at (x ∷ xs) (suc n) h = some_at xs n (omega arith)

  -- and nowhere else
  pub below_length : (l : List Item) (n : ℕ) (x : Item) → get_elem? l n ≡ some x → n < length l
  below_length [] n x e = absurd (some-ne-none x (sym e))
  below_length (y ∷ ys) zero x e = omega arith
  below_length (y ∷ ys) (suc n) x e = let h = below_length ys n x e in omega arith

  -- lists with the same elements at the same places are one
  pub same_list : (l m : List Item)
      → ((n : ℕ) (x : Item) → get_elem? l n ≡ some x → get_elem? m n ≡ some x)
      → ((n : ℕ) (x : Item) → get_elem? m n ≡ some x → get_elem? l n ≡ some x) → l ≡ m
  same_list [] [] there back = refl
  same_list [] (y ∷ ys) there back = absurd (some-ne-none y (sym (back 0 y refl)))
  same_list (x ∷ xs) [] there back = absurd (some-ne-none x (sym (there 0 x refl)))
  same_list (x ∷ xs) (y ∷ ys) there back =
      let first : y ≡ x = some-injective y x (there 0 x refl) in
      let others : xs ≡ ys = same_list xs ys (λ n z e. there (suc n) z e) (λ n z e.
      back (suc n) z e) in
      λ i. sym first i ∷ others i

  -- an element of a list that is one longer is one of the list, or the last
  pub at_end : (l : List Item) (a b : Item) (j : ℕ) → get_elem? (l ++ a ∷ []) j ≡ some b
      → (get_elem? l j ≡ some b) ⊎ ((j ≡ length l) × (a ≡ b))
  at_end [] a b zero e = inr (refl, some-injective a b e)
  at_end [] a b (suc j) e = absurd (some-ne-none b (sym e))
  at_end (x ∷ xs) a b zero e = inl e
  at_end (x ∷ xs) a b (suc j) e =
      ⊎_elim (λ h. inl h) (λ (h : (j ≡ length xs) × (a ≡ b)). inr (ap suc h.0, h.1))
      (at_end xs a b j e)

  -- lists that differ in their last element alone
  pub last_same : (xs : List Item) (x y : Item) → xs ++ x ∷ [] ≡ xs ++ y ∷ [] → x ≡ y
  last_same [] x y e = cc
  last_same (z ∷ zs) x y e = last_same zs x y cc
