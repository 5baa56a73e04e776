-- Numbers that came back in order.
use Rattle.std.proofs.Common.{◌≡◌, ℕ, suc, List, [], ◌∷◌, ◌++◌, length, refl, sym, ◌∙◌, arith}
use mathlib.Core.Logic.{dite}
use native.Mathlib.Decide.{ℕ_discrete}
use Rattle.atomic_table.proofs.Lists.{at_longer, at_last}
use Rattle.axp_ticket.specs.declared.board.Own.{Own}
use Rattle.axp_ticket.specs.History.{AllBack}

module _ {Ask Answer : Type 0} where
  pub none_out : (kept : List (Own Ask Answer)) → AllBack 0 kept
  none_out kept n h = absurd (omega arith)

  -- where all numbers below this one came back, and then this one
  pub one_more_back : (given : ℕ) (kept : List (Own Ask Answer)) (o : Own Ask Answer)
      → AllBack given kept → o.number ≡ given → AllBack (suc given) (kept ++ o ∷ [])
  one_more_back given kept o back e n below = dite (ℕ_discrete n given)
      (λ same. (length kept, o, at_last kept o (length kept) refl, e ∙ sym same))
      (λ other. let b = back n (omega arith) in
      (b.0, b.1, at_longer kept (o ∷ []) b.0 b.1 b.2, b.3))
