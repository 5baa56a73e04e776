-- What the rule of the table gives at the close, where every seat came back.
use Rattle.std.proofs.Common.{◌≡◌, ⊎_elim, ℕ, List, length, sym, ap, ◌∙◌, subst, arith, Option, Some}
use mathlib.Core.Option.{some, some-injective}
use lib.ListN.{get_elem?}
use Rattle.atomic_table.specs.Table.{Final, Seen}
use Rattle.axp_ticket.specs.declared.board.Own.{Own}
use Rattle.axp_ticket.specs.declared.board.Role.TheVariants.{Turns, Gathers}
use Rattle.axp_ticket.specs.declared.board.View.{View}
use Rattle.axp_ticket.specs.History.{IsAmong, IsHistoryOf, AllBack}
use Rattle.axp_ticket.specs.Moves.{kept_of}
use Rattle.axp_ticket.specs.Queue.{Progress, Knows, IsAway, IsHome, HasTurn, Stands, Queued, Terms, Homes, TableState}
use Rattle.axp_ticket.proofs.ViewChanges.{apart}
use Rattle.axp_ticket.proofs.RuleKnowledge.{known_as}
use Rattle.axp_ticket.proofs.RuleSettle.{gathered}

module _ {Value Start Ask Answer : Type 0} (terms : Terms Value Start Ask Answer) where
  -- where every seat came back, no seat has the turn
  all_home : (s : TableState Value Ask Answer) (p : Progress Value Ask Answer) → Stands terms s p
      → (id : ℕ) (v : View Value Ask Answer) (given : ℕ) (kept : List (Own Ask Answer))
      → get_elem? s.views id ≡ some v → v.role ≡ Gathers given kept → AllBack given kept
      → IsHome s.homes p.value
  all_home s p r id v given kept at is back =
      let gathers : Knows p s.homes id (Gathers given kept) =
      known_as s p r id v (Gathers given kept) at is in ⊎_elim (λ l. l)
      (λ (x : IsAway s.homes × (j : ℕ) × HasTurn s.views (length p.log) p.value j).
      let (d, o, there, is') = x.2 in
      let turns : Knows p s.homes x.1 (Turns o (length p.log) p.value) =
      known_as s p r x.1 d (Turns o (length p.log) p.value) there is' in
      let below = turns.0.below in let given_is = gathers.0 in
      let found : IsAmong o.number kept = back o.number (omega arith) in
      absurd (apart s.views x.1 id d v there at
      (λ e. let f : Turns o (length p.log) p.value ≡ Gathers given kept = sym is' ∙ (e ∙ is) in
      cc)
      (sym turns.0.mine ∙ (ap p.owner (sym found.3) ∙ (gathers.2 found.0 found.1 found.2).mine))))
      r.home

  -- what is found in the slot
  pub closed : (words : List ℕ) (found : List (Option Value)) (got : Option Value) (id : ℕ)
      (v : View Value Ask Answer) (given : ℕ)
      → Final (Seen (Queued terms) id v) words found → v.role ≡ Gathers given (kept_of v.role)
      → AllBack given (kept_of v.role)
      → get_elem? found 0 ≡ some got
      → (value : Value) × (got ≡ Some value) × ((u : Value) → got ≡ Some u
      → (terms.start u ≡ terms.start terms.opened) × (terms.room u ≡ terms.room terms.opened)
      × IsHistoryOf terms.Right (terms.start terms.opened) given (kept_of v.role)
      (terms.calls u))
  closed words found got id v given last is back there =
      let s : TableState Value Ask Answer = last.0 in
      let p : Progress Value Ask Answer = last.1.0.0 in
      let r : Stands terms s p = last.1.0.1 in
      let home : IsHome s.homes p.value =
      all_home s p r id v given (kept_of v.role) last.1.1 is back in
      let same : got ≡ Some p.value = some-injective got (Some p.value)
      (sym there ∙ last.4 0 (Some p.value) (ap (λ (h : Homes Value). get_elem? h 0) home)) in (
        p.value,
        same,
        λ u e. let value_is : p.value ≡ u = (let f : Some p.value ≡ Some u = sym same ∙ e in cc) in
            subst (λ (x : Value). (terms.start x ≡ terms.start terms.opened)
            × (terms.room x ≡ terms.room terms.opened)
            × IsHistoryOf terms.Right (terms.start terms.opened) given (kept_of v.role)
            (terms.calls x)) value_is (
              r.begun.0,
              r.begun.1,
              subst (IsHistoryOf terms.Right (terms.start terms.opened) given (kept_of v.role))
                  (sym r.stored) (gathered terms s p r id v given (kept_of v.role) last.1.1 is),
            ),
      )
