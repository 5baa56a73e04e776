-- Pairs are taken in the order in which they were added.
use Rattle.std.proofs.Common.{◌≡◌, ℕ, ◌+◌, suc, List, [], ◌∷◌, ◌++◌, length, arith, refl, sym, ap, ◌∙◌, append_assoc}
use Rattle.axp_base.specs.declared.lines.Line.{Line}
use Rattle.axp_base.specs.LatePairs.{others}
use Rattle.axp_inval.specs.Steps.{Step, Added, Taken, added, first_of, kept, taken, takes}

first_and_others : (pairs : List (Line × ℕ)) → first_of pairs ++ others pairs ≡ pairs
first_and_others [] = refl
first_and_others (p ∷ pairs) = refl

pub in_order_of_adding : (steps : List Step) → taken steps ++ kept steps ≡ added steps
in_order_of_adding [] = refl
in_order_of_adding (Added p ∷ steps) =
    sym (append_assoc (taken steps) (kept steps) (p ∷ [])) ∙ ap (λ (pairs : List (Line × ℕ)). pairs ++ p ∷ []) (in_order_of_adding steps)
in_order_of_adding (Taken ∷ steps) =
    append_assoc (taken steps) (first_of (kept steps)) (others (kept steps))
    ∙ ap (λ (pairs : List (Line × ℕ)). taken steps ++ pairs) (first_and_others (kept steps))
    ∙ in_order_of_adding steps

pub last_is_last : (pairs : List (Line × ℕ)) (p : Line × ℕ) → takes (length pairs + 1) (pairs ++ p ∷ []) ≡ pairs ++ p ∷ []
last_is_last [] p = refl
last_is_last (q ∷ pairs) p =
    let more : length (q ∷ pairs) + 1 ≡ suc (length pairs + 1) = omega arith in
    ap (λ n. takes n (q ∷ (pairs ++ p ∷ []))) more
    ∙ ap (λ (rest : List (Line × ℕ)). q ∷ rest) (last_is_last pairs p)
