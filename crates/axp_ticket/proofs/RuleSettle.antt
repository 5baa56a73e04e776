-- Telling the seat that gathers what it keeps leaves the table as it is.
use Rattle.std.proofs.Common.{◌≡◌, ℕ, List, sym, refl, subst, arith}
use mathlib.Core.Option.{none}
use lib.Seq.{set-get_or}
use Rattle.atomic_table.specs.Table.{step, keeps, Allows}
use Rattle.atomic_table.proofs.Lists.{set_again}
use lib.ListN.{get_elem?}
use mathlib.Core.Option.{some}
use Rattle.axp_ticket.specs.declared.board.Own.{Own}
use Rattle.axp_ticket.specs.declared.board.Role.TheVariants.{Gathers}
use Rattle.axp_ticket.specs.declared.board.View.{View}
use Rattle.axp_ticket.specs.History.{IsHistoryOf}
use Rattle.axp_ticket.specs.Moves.{Held, kept_of, settled}
use Rattle.axp_ticket.specs.Queue.{IsSound, Progress, Knows, Stands, Queued, Terms, TableState}
use Rattle.axp_ticket.proofs.RuleKnowledge.{known_as, opened_is}

module _ {Value Start Ask Answer : Type 0} (terms : Terms Value Start Ask Answer) where
  -- what the seat that gathers keeps are calls of the history
  pub gathered : (s : TableState Value Ask Answer) (p : Progress Value Ask Answer)
      → Stands terms s p
      → (id : ℕ) (v : View Value Ask Answer) (given : ℕ) (kept : List (Own Ask Answer))
      → get_elem? s.views id ≡ some v → v.role ≡ Gathers given kept
      → IsHistoryOf terms.Right (terms.start terms.opened) given kept p.log
  gathered s p r id v given kept at is =
      let gathers : Knows p s.homes id (Gathers given kept) =
      known_as s p r id v (Gathers given kept) at is in
      let given_is = gathers.0 in
      record {
        right = r.right;
        once = (subst (IsSound terms.allowance) is (r.each_sound id v at)).1;
        unmade = λ n h. r.unmade n (omega arith);
        each = λ k o there. (gathers.2 k o there).calls;
      }

  pub settles : (slots id : ℕ) (m : Held Value Ask Answer)
      → Allows (Queued terms) slots id m 0 (λ n. n)
      (settled terms.start terms.Right (step slots 0 0 0 none) m)
  settles slots id m s (p, r) deep at fits = (
    m.0,
    keeps,
    tt,
    subst (λ (x : List ℕ × List (View Value Ask Answer)). Queued terms record {
      words = x.0;
      homes =
          s.homes;
      views = x.1;
    })
        (λ i. (sym (set-get_or s.words 0 0) i, sym (set_again s.views id m.0 at) i)) (p, r),
    (
      refl,
      λ given x is e. (
        p.log,
        subst (λ (y : Value). IsHistoryOf terms.Right (terms.start y) given
            (kept_of m.0.role) p.log) (opened_is terms.opened m.0 x (r.each_opened id m.0 at) e)
            (gathered s p r id m.0 given (kept_of m.0.role) at is),
      ),
    ),
  )
