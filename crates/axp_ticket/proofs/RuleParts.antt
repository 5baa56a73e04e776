-- The rule of the table has all its parts.
use Rattle.std.proofs.Common.{◌≡◌, ⊎_elim, inl, inr, ℕ, ◌<◌, List, length, sym, refl, ap, ◌∙◌, subst, Some}
use mathlib.Core.Option.{some, none, some-injective, some-ne-none}
use lib.ListN.{get_elem?}
use Rattle.axp_call.specs.Calls.{caller}
use Rattle.axp_call.proofs.Rightness.{all_right_each}
use Rattle.axp_ticket.specs.declared.board.Placed.{Placed}
use Rattle.axp_ticket.specs.declared.board.Own.{Own}
use Rattle.axp_ticket.specs.declared.board.Role.TheVariants.{Turns}
use Rattle.axp_ticket.specs.declared.board.View.{View}
use Rattle.axp_ticket.specs.History.{placed, calls_of, IsAmong, IsHistoryOf}
use Rattle.axp_ticket.specs.Queue.{ticket_of, numbers_of, Owns, Holds, Progress, IsAway, IsHome, HasTurn, Finds, Stands, Terms, Homes, TableState}
use Rattle.axp_ticket.specs.Parts.{HasView, HasCall, IsInOrder}
use Rattle.axp_ticket.proofs.NumberCalls.{calls_of-whole}
use Rattle.axp_ticket.proofs.HistoryKept.{told_at, once_at}
use Rattle.axp_ticket.proofs.RuleKnowledge.{ticket_known, number_known, known_as}

module _ {Value Start Ask Answer : Type 0} (terms : Terms Value Start Ask Answer)
    (s : TableState Value Ask Answer) (p : Progress Value Ask Answer) (r : Stands terms s p) where
  ticket_at : (j t : ℕ) (v : View Value Ask Answer) → HasView s j v → ticket_of v.role ≡ Some t
      → Holds (length p.log) p.next p.holder j t
  ticket_at j t v at e = ticket_known p s.homes j v.role t (r.each_knows j v at) e

  number_at : (j k : ℕ) (v : View Value Ask Answer) (o : Own Ask Answer) → HasView s j v
      → get_elem? (numbers_of v.role) k ≡ some o → Owns p.log p.given p.owner j o
  number_at j k v o at e = number_known p s.homes j v.role k o (r.each_knows j v at) e

  among_at : (j n : ℕ) (v : View Value Ask Answer) → HasView s j v → IsAmong n (numbers_of v.role)
      → (n < p.given) × (p.owner n ≡ j)
  among_at j n v at a = let owns = number_at j a.0 v a.1 at a.2 in
      subst (λ (m : ℕ). (m < p.given) × (p.owner m ≡ j)) a.3 (owns.below, owns.mine)

  -- what stands in a view are calls of the history
  of_history : (j : ℕ) (v : View Value Ask Answer) → HasView s j v
      → IsHistoryOf terms.Right (terms.start terms.opened) p.given (numbers_of v.role) p.log
  of_history j v at = record {
    right = r.right;
    once = (r.each_sound j v at).1;
    unmade = r.unmade;
    each = λ k o e. (number_at j k v o at e).calls;
  }

  told_in : (j k i : ℕ) (v : View Value Ask Answer) (o : Own Ask Answer) (c : Placed Ask Answer)
      → HasCall s j v k o i c → (get_elem? p.log c.position ≡ some c.call)
      × (caller c.call ≡ o.number)
  told_in j k i v o c h = told_at terms.Right (terms.start terms.opened) p.given
      (numbers_of v.role) p.log (of_history j v h.0) k i o c h.1 h.2

  whole_in : (n : ℕ) → n < length p.log → (j k i : ℕ) × (v : View Value Ask Answer)
      × (o : Own Ask Answer) × (c : Placed Ask Answer) × HasCall s j v k o i c × (c.position ≡ n)
  whole_in n below =
      let (c, handed, i, among) = calls_of-whole p.given p.log r.unmade n below in
      let found : Finds s.views (p.owner (caller c)) (λ role.
      IsAmong (caller c) (numbers_of role)) = r.each_number (caller c) handed in
      let there : IsAmong (caller c) (numbers_of found.0.role) = found.2 in
      let calls_are : there.1.calls ≡ calls_of (caller c) p.log =
      (number_at (p.owner (caller c)) there.0 found.0 there.1 found.1 there.2).calls
      ∙ ap (λ (m : ℕ). calls_of m p.log) there.3 in (
        p.owner (caller c),
        there.0,
        i,
        found.0,
        there.1,
        placed n c,
        (
          found.1,
          there.2,
          ap (λ (l : List (Placed Ask Answer)). get_elem? l i) calls_are ∙ among,
        ),
        refl,
      )

  once_in : (j j' k k' i i' : ℕ) (v v' : View Value Ask Answer) (o o' : Own Ask Answer)
      (c c' : Placed Ask Answer) → HasCall s j v k o i c → HasCall s j' v' k' o' i' c'
      → c.position ≡ c'.position → (j ≡ j') × (k ≡ k') × (i ≡ i')
  once_in j j' k k' i i' v v' o o' c c' h h' e =
      let t = told_in j k i v o c h in
      let t' = told_in j' k' i' v' o' c' h' in
      let call_is : c.call ≡ c'.call =
      some-injective c.call c'.call (sym t.0 ∙ (ap (λ (n : ℕ). get_elem? p.log n) e ∙ t'.0)) in
      let number_is : o.number ≡ o'.number = sym t.1 ∙ (ap caller call_is ∙ t'.1) in
      let j_is : j ≡ j' = sym (number_at j k v o h.0 h.1).mine
      ∙ (ap p.owner number_is ∙ (number_at j' k' v' o' h'.0 h'.1).mine) in
      let v_is : v' ≡ v =
      some-injective v' v (sym h'.0 ∙ (ap (λ (n : ℕ). get_elem? s.views n) (sym j_is) ∙ h.0)) in
      let there : get_elem? (numbers_of v.role) k' ≡ some o' =
      ap (λ (x : View Value Ask Answer). get_elem? (numbers_of x.role) k') (sym v_is) ∙ h'.1 in
      let same = once_at terms.Right (terms.start terms.opened) p.given (numbers_of v.role) p.log
      (of_history j v h.0) k k' i i' o o' c c' h.1 there h.2 h'.2 e in
      (j_is, same.0, same.1)

  turn_in : (j t : ℕ) (v : View Value Ask Answer) (o : Own Ask Answer) (x : Value) → HasView s j v
      → v.role ≡ Turns o t x → (t ≡ length p.log) × IsAway s.homes
  turn_in j t v o x at is = let known = known_as s p r j v (Turns o t x) at is in (known.2, known.4)

  away_in : IsAway s.homes → (j : ℕ) × (v : View Value Ask Answer) × (o : Own Ask Answer)
      × HasView s j v × (v.role ≡ Turns o (length p.log) p.value)
  away_in gone = ⊎_elim
      (λ (h : IsHome s.homes p.value).
      absurd (some-ne-none (Some p.value) (some-injective (some (Some p.value)) none
      (ap (λ (l : Homes Value). get_elem? l 0) (sym h ∙ gone)))))
      (λ (h : IsAway s.homes × (j : ℕ) × HasTurn s.views (length p.log) p.value j).
      let (v, o, at, is) = h.2 in (h.1, v, o, at, is)) r.home

  pub in_order : IsInOrder terms s p.next p.given p.value p.log
  in_order = record {
    words = r.words;
    ticket_between = λ j t v at e. let h = ticket_at j t v at e in (h.from, h.below);
    ticket_held = λ t low high. let f = r.each_ticket t low high in (p.holder t, f.0, f.1, f.2);
    ticket_once = λ j j' t v v' at at' e e'. sym (ticket_at j t v at e).mine
        ∙ (ticket_at j' t v' at' e').mine;
    turn_is_served = turn_in;
    away_is_a_turn = away_in;
    home_or_away = ⊎_elim (λ h. inl h) (λ (h : IsAway s.homes × (j : ℕ)
        × HasTurn s.views (length p.log) p.value j). inr h.0) r.home;
    few = r.few;
    number_stands = λ n h. let f = r.each_number n h in (p.owner n, f.0, f.1, f.2);
    number_once = λ j j' n v v' at at' a a'. sym (among_at j n v at a).1
        ∙ (among_at j' n v' at' a').1;
    number_once_there = λ j v at. (r.each_sound j v at).1;
    number_given = λ j n v at a. (among_at j n v at a).0;
    unmade = r.unmade;
    told = told_in;
    whole = whole_in;
    once = once_in;
    allowed = λ j k v o h. (r.each_sound j v h.0).0 k o h.1;
    begun = r.begun;
    stored = r.stored;
    right = all_right_each terms.Right (terms.start terms.opened) p.log r.right;
  }
