-- Handing out a number keeps the rule of the table.
use Rattle.std.proofs.Common.{◌≡◌, ⊎_elim, inl, inr, ℕ, suc, ◌+◌, ◌-◌, ◌*◌, ◌<◌, List, [], ◌∷◌, ◌++◌, length, set, sym, ap, ◌∙◌, subst, arith, Some, None, suc-mul, length-set}
use mathlib.Core.Logic.{dite}
use mathlib.Core.Option.{some}
use native.Mathlib.Decide.{ℕ_discrete}
use lib.ListN.{get_elem?}
use Rattle.atomic_table.specs.Table.{Splits}
use Rattle.atomic_table.proofs.Lists.{at_longer, at_last}
use Rattle.axp_ticket.specs.declared.board.Own.{Own}
use Rattle.axp_ticket.specs.declared.board.Role.{Role}
use Rattle.axp_ticket.specs.declared.board.Role.TheVariants.{Idle, Gathers}
use Rattle.axp_ticket.specs.declared.board.View.{View}
use Rattle.axp_ticket.specs.History.{own, IsAmong}
use Rattle.axp_ticket.specs.Moves.{kept_of, left_of, right_of, one_given, next_own}
use Rattle.axp_ticket.specs.Queue.{rights, ticket_of, numbers_of, IsOpened, IsSound, Owns, Progress, Knows, IsAway, HasTurn, Finds, Queued, Terms, rights_in}
use Rattle.axp_ticket.proofs.ListPlaces.{at_end}
use Rattle.axp_ticket.proofs.FunctionChanges.{put, put_here, put_else}
use Rattle.axp_ticket.proofs.ViewChanges.{views_stay, found_after, found_longer, home_stays, total_moved, total_snoc, one_among, sound_one}
use Rattle.axp_ticket.proofs.RuleKnowledge.{known_as, knows_reowned, reowned}

module _ {Value Ask Answer : Type 0} where
  -- the next number stands in the view `to`
  abbrev after_hand_out : ℕ → Progress Value Ask Answer → Progress Value Ask Answer
  after_hand_out to p = reowned (suc p.given) (put p.owner p.given to) p

  owns_more : (p : Progress Value Ask Answer) (to j : ℕ) (o : Own Ask Answer)
      → Owns p.log p.given p.owner j o
      → Owns p.log (suc p.given) (put p.owner p.given to) j o
  owns_more p to j o h = let below = h.below in record {
    below = omega arith;
    mine = put_else p.owner p.given to o.number (λ e. omega arith) ∙ h.mine;
    calls = h.calls;
  }

  -- what holds of the views, and of one more at their end, holds of all
  views_longer : (K : ℕ → View Value Ask Answer → Type 0) (vs : List (View Value Ask Answer))
      (u : View Value Ask Answer) (to : ℕ) → length vs ≡ to
      → ((j : ℕ) (d : View Value Ask Answer) → get_elem? vs j ≡ some d → K j d) → K to u
      → (j : ℕ) (d : View Value Ask Answer) → get_elem? (vs ++ u ∷ []) j ≡ some d → K j d
  views_longer K vs u to long all last j d there = ⊎_elim (λ h. all j d h)
      (λ (h : (j ≡ length vs) × (u ≡ d)). subst (λ (x : ℕ × View Value Ask Answer). K x.0 x.1)
      (λ i. (sym (h.0 ∙ long) i, h.1 i)) last)
      (at_end vs u d j there)

module _ {Value Start Ask Answer : Type 0} (terms : Terms Value Start Ask Answer) where
  -- the calls that may still be made are as many as before
  rights_split : (vs : List (View Value Ask Answer)) (id given : ℕ) (kept : List (Own Ask Answer))
      (v w u : View Value Ask Answer)
      → get_elem? vs id ≡ some v → v.role ≡ Gathers given kept → w.role ≡ Gathers (suc given) kept
      → u.role ≡ Idle (own given []) → given < terms.seats
      → rights_in terms (set vs id w ++ u ∷ []) ≡ rights_in terms vs
  rights_split vs id given kept v w u at is w_is u_is few =
      let sums : rights_in terms (set vs id w) +
      (terms.seats - given) * terms.allowance ≡ rights_in terms vs +
      (terms.seats - suc given) * terms.allowance =
      total_moved (rights terms.seats terms.allowance) vs id v w (Gathers given kept)
      (Gathers (suc given) kept) at is w_is in
      let more : rights_in terms (set vs id w ++ u ∷ []) ≡ rights_in terms
      (set vs id w) + rights terms.seats terms.allowance u.role =
      total_snoc (rights terms.seats terms.allowance) (set vs id w) u in
      let u_now : rights terms.seats terms.allowance u.role ≡ terms.allowance - 0 =
      ap (rights terms.seats terms.allowance) u_is in
      let cut : (terms.seats - given) * terms.allowance ≡
      (terms.seats - suc given) * terms.allowance + terms.allowance =
      ap (λ (k : ℕ). k * terms.allowance) (omega arith)
      ∙ suc-mul (terms.seats - suc given) terms.allowance in
      omega arith

  pub splits : (id : ℕ) (v : View Value Ask Answer) (given : ℕ)
      → v.role ≡ Gathers given (kept_of v.role) → given < terms.seats
      → Splits (Queued terms) id v (left_of v) (right_of v)
  splits id v given is few s (p, r) at =
      let kept : List (Own Ask Answer) = kept_of v.role in
      let gathers : Knows p s.homes id (Gathers given kept) =
      known_as s p r id v (Gathers given kept) at is in
      let given_is = gathers.0 in
      let to : ℕ = length s.views in
      let owner' : ℕ → ℕ = put p.owner p.given to in
      let w : View Value Ask Answer = left_of v in
      let u : View Value Ask Answer = right_of v in
      let w_role : w.role ≡ Gathers (suc given) kept = ap one_given is in
      let u_role : u.role ≡ Idle (own given []) = ap next_own is in
      let sums : rights_in terms (set s.views id w ++ u ∷ []) ≡ rights_in terms s.views =
      rights_split s.views id given kept v w u at is w_role u_role few in
      let bound = r.bound in
      let long : length (set s.views id w) ≡ to = length-set s.views id w in
      let left_knows : Knows (after_hand_out to p) s.homes id w.role =
      subst (Knows (after_hand_out to p) s.homes id) (sym w_role)
      (ap suc given_is, gathers.1, λ i o a. owns_more p to id o (gathers.2 i o a)) in
      let right_knows : Knows (after_hand_out to p) s.homes to u.role =
      subst (Knows (after_hand_out to p) s.homes to) (sym u_role)
      record {
        below = omega arith;
        mine = ap owner' given_is ∙ put_here p.owner p.given to;
        calls =
            sym (r.unmade given (omega arith));
      } in (
        after_hand_out to p,
        record {
          words = r.words;
          served = r.served;
          right = r.right;
          begun = r.begun;
          stored = r.stored;
          few = omega arith;
          unmade = λ n h. r.unmade n (omega arith);
          bound = omega arith;
          ample = r.ample;
          home = ⊎_elim (λ l. inl l)
              (λ (t : IsAway s.homes × (j : ℕ)
              × HasTurn (set s.views id w) (length p.log) p.value j).
              let (d, o, there, turns) = t.2 in
              inr (t.0, t.1, (d, o, at_longer (set s.views id w) (u ∷ []) t.1 d there, turns)))
              (home_stays s.homes s.views (length p.log) p.value id v w at (λ o' t x e. let f = e
              ∙ is in cc) r.home);
          each_opened = views_longer (λ _ d. IsOpened terms.opened d) (set s.views id w) u to long
              (views_stay (λ _ d. IsOpened terms.opened d) s.views id w (r.each_opened id v at)
              (λ j d _ there. r.each_opened j d there)) (r.each_opened id v at);
          each_knows = views_longer (λ j d. Knows (after_hand_out to p) s.homes j d.role)
              (set s.views id w) u to long
              (views_stay (λ j d. Knows (after_hand_out to p) s.homes j d.role) s.views id w
              left_knows
              (λ j d other there. knows_reowned p s.homes j (suc p.given) owner'
              (λ e. other (e ∙ sym gathers.1)) (owns_more p to j) d.role
              (r.each_knows j d there))) right_knows;
          each_sound = views_longer (λ _ d. IsSound terms.allowance d.role)
              (set s.views id w) u to long
              (views_stay (λ _ x. IsSound terms.allowance x.role) s.views id w
              (subst (IsSound terms.allowance) (sym w_role)
              (subst (IsSound terms.allowance) is (r.each_sound id v at))) (λ i x _ a.
              r.each_sound i x a))
              (subst (IsSound terms.allowance) (sym u_role)
              (sound_one terms.allowance (own given []) 0 (omega arith)));
          each_ticket = λ t low high. found_longer (λ role. ticket_of role ≡ Some t)
              (set s.views id w) u (p.holder t)
              (found_after (λ role. ticket_of role ≡ Some t) s.views id v w (p.holder t) at
              (λ h. let f : None ≡ Some t = sym (ap ticket_of is) ∙ h in
              cc) (r.each_ticket t low high));
          each_number = λ n h. dite (ℕ_discrete n p.given)
              (λ e. (
                u,
                subst (λ (i : ℕ). get_elem? (set s.views id w ++ u ∷ []) i ≡ some u)
                    (sym (ap owner' e ∙ put_here p.owner p.given to))
                    (at_last (set s.views id w) u to long),
                subst (λ (x : Role Value Ask Answer). IsAmong n (numbers_of x)) (sym u_role)
                    (one_among n (own given []) (given_is ∙ sym e)),
              ))
              (λ other. subst (λ (i : ℕ). Finds (set s.views id w ++ u ∷ []) i (λ role.
              IsAmong n (numbers_of role))) (sym (put_else p.owner p.given to n other))
              (found_longer (λ role. IsAmong n (numbers_of role)) (set s.views id w) u (p.owner n)
              (found_after (λ role. IsAmong n (numbers_of role)) s.views id v w (p.owner n) at
              (λ there. subst (IsAmong n) (ap numbers_of is ∙ sym (ap numbers_of w_role)) there)
              (r.each_number n (omega arith)))));
        },
      )
