-- A list of calls, each of which is right, one call longer.
use Rattle.std.proofs.Common.{◌≡◌, ℕ, List, [], ◌∷◌, ◌++◌, suc, length, ◌⊎◌, ⊎_elim, inl, inr, sym, refl, ap, ◌∙◌, subst, arith, append_assoc, append-nil, length-append}
use Rattle.axp_call.specs.declared.calls.Call.{Call}
use Rattle.axp_call.specs.Calls.{caller, RightAfter, AllRight, EachRight}

module _ {Start A R : Type 0} (Right : Start → List (Call A R) → ℕ → A → R → Type 0) (start : Start) where
  pub right_after_append : (before cs : List (Call A R)) (c : Call A R) → RightAfter Right start before cs → Right start (before ++ cs) (caller c) c.ask c.answer → RightAfter Right start before (cs ++ c ∷ [])
  right_after_append before [] c all now = (subst (λ (l : List (Call A R)). Right start l (caller c) c.ask c.answer) (append-nil before) now, tt)
  right_after_append before (x ∷ xs) c all now =
      (all.0, right_after_append (before ++ x ∷ []) xs c all.1 (subst (λ (l : List (Call A R)). Right start l (caller c) c.ask c.answer) (sym (append_assoc before (x ∷ []) xs)) now))

module _ {A : Type 0} where
  snoc_split : (cs before after : List A) (c d : A) → cs ++ c ∷ [] ≡ before ++ d ∷ after → ((cs ≡ before) × (c ≡ d)) ⊎ ((rest : List A) × (cs ≡ before ++ d ∷ rest))
  snoc_split [] [] after c d e = inl (refl, cc)
  snoc_split [] (b ∷ bs) after c d e = let h : length (c ∷ []) ≡ length ((b ∷ bs) ++ d ∷ after) = ap length e in let k = length-append bs (d ∷ after) in absurd (omega arith)
  snoc_split (x ∷ xs) [] after c d e = let h : x ≡ d = cc in inr (xs, λ i. h i ∷ xs)
  snoc_split (x ∷ xs) (b ∷ bs) after c d e = let h : x ≡ b = cc in
      ⊎_elim (λ (t : (xs ≡ bs) × (c ≡ d)). inl ((λ i. h i ∷ t.0 i), t.1)) (λ (t : (rest : List A) × (xs ≡ bs ++ d ∷ rest)). inr (t.0, λ i. h i ∷ t.1 i)) (snoc_split xs bs after c d cc)

module _ {Start A R : Type 0} (Right : Start → List (Call A R) → ℕ → A → R → Type 0) (start : Start) where
  pub each_right_append : (cs : List (Call A R)) (c : Call A R) → EachRight Right start cs → Right start cs (caller c) c.ask c.answer → EachRight Right start (cs ++ c ∷ [])
  each_right_append cs c all now before after d e =
      ⊎_elim (λ (t : (cs ≡ before) × (c ≡ d)). subst (λ (x : List (Call A R) × Call A R). Right start x.0 (caller x.1) x.1.ask x.1.answer) (λ i. (t.0 i, t.1 i)) now)
      (λ (t : (rest : List (Call A R)) × (cs ≡ before ++ d ∷ rest)). all before t.0 d t.1) (snoc_split cs before after c d e)

  -- by the recursion, each call is right after those before it
  pub right_after_each : (first cs before after : List (Call A R)) (c : Call A R) → RightAfter Right start first cs → cs ≡ before ++ c ∷ after → Right start (first ++ before) (caller c) c.ask c.answer
  right_after_each first [] [] after c all e = absurd (let h : 0 ≡ suc (length after) = ap length e in omega arith)
  right_after_each first [] (b ∷ bs) after c all e = absurd (let h : 0 ≡ suc (length (bs ++ c ∷ after)) = ap length e in omega arith)
  right_after_each first (x ∷ xs) [] after c all e =
      let same : x ≡ c = cc in
      subst (λ (y : List (Call A R) × Call A R). Right start y.0 (caller y.1) y.1.ask y.1.answer) (λ i. (sym (append-nil first) i, same i)) all.0
  right_after_each first (x ∷ xs) (b ∷ bs) after c all e =
      let same : x ≡ b = cc in
      let more : xs ≡ bs ++ c ∷ after = cc in
      subst (λ (l : List (Call A R)). Right start l (caller c) c.ask c.answer) (append_assoc first (x ∷ []) bs ∙ ap (λ y. first ++ y ∷ bs) same)
      (right_after_each (first ++ x ∷ []) xs bs after c all.1 more)

  pub all_right_each : (cs : List (Call A R)) → AllRight Right start cs → EachRight Right start cs
  all_right_each cs all before after c e = right_after_each [] cs before after c all e
