-- Where every number came back, the calls that were kept are those of one history.
use Rattle.std.proofs.Common.{◌≡◌, ℕ, ◌<◌, List, length, sym, refl, ap, ◌∙◌, arith, zero-add}
use mathlib.Core.Logic.{dite}
use mathlib.Core.Option.{some, some-injective}
use native.Mathlib.Decide.{ℕ_discrete, dec_le}
use lib.ListN.{get_elem?}
use Rattle.axp_call.specs.declared.calls.Call.{Call}
use Rattle.axp_call.specs.Calls.{caller}
use Rattle.axp_call.proofs.Rightness.{all_right_each}
use Rattle.axp_ticket.specs.declared.board.Placed.{Placed}
use Rattle.axp_ticket.specs.declared.board.Own.{Own}
use Rattle.axp_ticket.specs.History.{placed, calls_of, IsAmong, AllBack, IsHistoryOf, IsOneHistory}
use Rattle.axp_ticket.proofs.NumberCalls.{calls_from-told, calls_from-ordered, calls_of-whole}

module _ {Start Ask Answer : Type 0} (Right : Start → List (Call Ask Answer) → ℕ → Ask → Answer
    → Type 0) (start : Start) (given : ℕ) (kept : List (Own Ask Answer))
    (log : List (Call Ask Answer)) where
  -- a kept call is among the calls of its number in the list
  its : IsHistoryOf Right start given kept log
      → (k i : ℕ) (o : Own Ask Answer) (p : Placed Ask Answer)
      → get_elem? kept k ≡ some o → get_elem? o.calls i ≡ some p
      → get_elem? (calls_of o.number log) i ≡ some p
  its h k i o p at at' = ap (λ (l : List (Placed Ask Answer)). get_elem? l i) (sym (h.each k o at))
      ∙ at'

  pub told_at : IsHistoryOf Right start given kept log
      → (k i : ℕ) (o : Own Ask Answer) (p : Placed Ask Answer)
      → get_elem? kept k ≡ some o → get_elem? o.calls i ≡ some p
      → (get_elem? log p.position ≡ some p.call) × (caller p.call ≡ o.number)
  told_at h k i o p at at' =
      let t = calls_from-told o.number 0 log i p (its h k i o p at at') in
      let where_ : p.position ≡ t.0 = t.1 ∙ zero-add t.0 in
      (ap (λ (n : ℕ). get_elem? log n) where_ ∙ t.2, t.3)

  in_order_at : IsHistoryOf Right start given kept log
      → (k i j : ℕ) (o : Own Ask Answer) (p q : Placed Ask Answer)
      → get_elem? kept k ≡ some o → get_elem? o.calls i ≡ some p → get_elem? o.calls j ≡ some q
      → i < j → p.position < q.position
  in_order_at h k i j o p q at a b less =
      calls_from-ordered o.number 0 log i j p q (its h k i o p at a) (its h k j o q at b) less

  -- a place among the calls of a number is fixed by the position
  place_at : IsHistoryOf Right start given kept log
      → (k i j : ℕ) (o : Own Ask Answer) (p q : Placed Ask Answer)
      → get_elem? kept k ≡ some o → get_elem? o.calls i ≡ some p → get_elem? o.calls j ≡ some q
      → p.position ≡ q.position → i ≡ j
  place_at h k i j o p q at a b e = dite (ℕ_discrete i j) (λ same. same) (λ differ.
      dite (dec_le i j)
      (λ le. absurd (let less = in_order_at h k i j o p q at a b (omega arith) in omega arith))
      (λ more. absurd (let less = in_order_at h k j i o q p at b a (omega arith) in omega arith)))

  pub once_at : IsHistoryOf Right start given kept log
      → (k k' i i' : ℕ) (o o' : Own Ask Answer) (p p' : Placed Ask Answer)
      → get_elem? kept k ≡ some o → get_elem? kept k' ≡ some o' → get_elem? o.calls i ≡ some p
      → get_elem? o'.calls i' ≡ some p'
      → p.position ≡ p'.position → (k ≡ k') × (i ≡ i')
  once_at h k k' i i' o o' p p' at at' a a' e =
      let t = told_at h k i o p at a in
      let t' = told_at h k' i' o' p' at' a' in
      let call_is : p.call ≡ p'.call =
      some-injective p.call p'.call (sym t.0 ∙ (ap (λ (n : ℕ). get_elem? log n) e ∙ t'.0)) in
      let k_is : k ≡ k' = h.once k k' o o' at at' (sym t.1 ∙ (ap caller call_is ∙ t'.1)) in
      let o_is : o ≡ o' =
      some-injective o o' (sym at ∙ (ap (λ (n : ℕ). get_elem? kept n) k_is ∙ at')) in (
        k_is,
        place_at h k i i' o p p' at a (ap (λ (x : Own Ask Answer). get_elem? x.calls i') o_is
            ∙ a') e,
      )

  whole_at : IsHistoryOf Right start given kept log → AllBack given kept → (n : ℕ) → n < length log
      → (k i : ℕ) × (o : Own Ask Answer) × (p : Placed Ask Answer) × (get_elem? kept k ≡ some o)
      × (get_elem? o.calls i ≡ some p) × (p.position ≡ n)
  whole_at h back n below =
      let (c, handed, i, among) = calls_of-whole given log h.unmade n below in
      let seat : IsAmong (caller c) kept = back (caller c) handed in
      let calls_are : seat.1.calls ≡ calls_of (caller c) log = h.each seat.0 seat.1 seat.2
      ∙ ap (λ (m : ℕ). calls_of m log) seat.3 in (
        seat.0,
        i,
        seat.1,
        placed n c,
        seat.2,
        ap (λ (l : List (Placed Ask Answer)). get_elem? l i) calls_are ∙ among,
        refl,
      )

  pub one_history : IsHistoryOf Right start given kept log → AllBack given kept
      → IsOneHistory Right start kept log
  one_history h back = record {
    right = all_right_each Right start log h.right;
    told = told_at h;
    whole = whole_at h back;
    once = once_at h;
    in_order = in_order_at h;
  }
