-- Two lists of calls of which the same calls were kept are one list.
use Rattle.std.proofs.Common.{◌≡◌, ℕ, List, sym, ap, ◌∙◌}
use mathlib.Core.Option.{some}
use lib.ListN.{get_elem?}
use Rattle.axp_call.specs.declared.calls.Call.{Call}
use Rattle.axp_ticket.specs.declared.board.Own.{Own}
use Rattle.axp_ticket.specs.History.{IsOneHistory}
use Rattle.axp_ticket.proofs.ListPlaces.{same_list, below_length}

module _ {Start Ask Answer : Type 0} (Right : Start → List (Call Ask Answer) → ℕ → Ask → Answer
    → Type 0) (start : Start) (kept : List (Own Ask Answer)) where
  told_too : (one other : List (Call Ask Answer))
      → IsOneHistory Right start kept one → IsOneHistory Right start kept other
      → (n : ℕ) (c : Call Ask Answer) → get_elem? one n ≡ some c → get_elem? other n ≡ some c
  told_too one other h h' n c e =
      let (k, i, o, p, at, at', is) = h.whole n (below_length one n c e) in
      let mine = (h.told k i o p at at').0 in
      let theirs = (h'.told k i o p at at').0 in
      ap (λ (m : ℕ). get_elem? other m) (sym is)
      ∙ (theirs ∙ (sym mine ∙ (ap (λ (m : ℕ). get_elem? one m) is ∙ e)))

  pub one_log : (one other : List (Call Ask Answer))
      → IsOneHistory Right start kept one → IsOneHistory Right start kept other → one ≡ other
  one_log one other h h' = same_list one other (told_too one other h h') (told_too other one h' h)
