-- Taking a number back with its calls keeps the rule of the table.
use Rattle.std.proofs.Common.{◌≡◌, ◌≢◌, ⊎_elim, inl, ℕ, ◌+◌, ◌-◌, ◌*◌, ◌≤◌, List, [], ◌∷◌, ◌++◌, length, set, sym, refl, ap, ◌∙◌, subst, arith, Some, None}
use mathlib.Core.Logic.{dite}
use mathlib.Core.Option.{some, some-ne-none}
use native.Mathlib.Decide.{ℕ_discrete}
use lib.ListN.{get_elem?}
use Rattle.atomic_table.specs.Table.{Joins}
use Rattle.atomic_table.proofs.Lists.{set_else, at_longer, at_last}
use Rattle.axp_ticket.specs.declared.board.Own.{Own}
use Rattle.axp_ticket.specs.declared.board.Role.{Role}
use Rattle.axp_ticket.specs.declared.board.Role.TheVariants.{Nobody, Idle, Gathers}
use Rattle.axp_ticket.specs.declared.board.View.{View}
use Rattle.axp_ticket.specs.History.{IsAmong, EachOnce}
use Rattle.axp_ticket.specs.Moves.{own_of, kept_of, both_of, with_own, nobody}
use Rattle.axp_ticket.specs.Queue.{rights, ticket_of, numbers_of, IsOpened, IsSound, Owns, Progress, Knows, Finds, Queued, Terms, rights_in}
use Rattle.axp_ticket.proofs.ListPlaces.{at_end}
use Rattle.axp_ticket.proofs.FunctionChanges.{put, put_here, put_else}
use Rattle.axp_ticket.proofs.ViewChanges.{views_stay, set_there, found_after, home_stays, total_moved, among_one}
use Rattle.axp_ticket.proofs.RuleKnowledge.{known_as, knows_reowned, reowned}

module _ {Value Ask Answer : Type 0} where
  -- the number stands in the view that gathers
  abbrev after_take_back : ℕ → ℕ → Progress Value Ask Answer → Progress Value Ask Answer
  after_take_back number id p = reowned p.given (put p.owner number id) p

  owns_beside : (p : Progress Value Ask Answer) (number id j : ℕ) (o : Own Ask Answer)
      → p.owner number ≢ j
      → Owns p.log p.given p.owner j o → Owns p.log p.given (put p.owner number id) j o
  owns_beside p number id j o other h = record {
    below = h.below;
    mine = put_else p.owner number id o.number (λ e. other (ap p.owner (sym e) ∙ h.mine)) ∙ h.mine;
    calls = h.calls;
  }

module _ {Ask Answer : Type 0} where
  -- what holds of the kept numbers, and of one more, holds of all
  kept_longer : (K : Own Ask Answer → Type 0) (kept : List (Own Ask Answer)) (o : Own Ask Answer)
      → ((k : ℕ) (x : Own Ask Answer) → get_elem? kept k ≡ some x → K x) → K o
      → (k : ℕ) (x : Own Ask Answer) → get_elem? (kept ++ o ∷ []) k ≡ some x → K x
  kept_longer K kept o all last k x there = ⊎_elim (λ h. all k x h)
      (λ (h : (k ≡ length kept) × (o ≡ x)). subst K h.1 last) (at_end kept o x k there)

  -- no number is kept twice where the one that comes back was not kept
  once_longer : (kept : List (Own Ask Answer)) (o : Own Ask Answer) → EachOnce kept
      → ((k : ℕ) (x : Own Ask Answer) → get_elem? kept k ≡ some x → x.number ≢ o.number)
      → EachOnce (kept ++ o ∷ [])
  once_longer kept o once foreign i k x y a a' e =
      let number : Own Ask Answer → ℕ = λ z. z.number in ⊎_elim
      (λ h. ⊎_elim (λ h'. once i k x y h h' e)
      (λ (h' : (k ≡ length kept) × (o ≡ y)). absurd (foreign i x h (e ∙ ap number (sym h'.1))))
      (at_end kept o y k a'))
      (λ (h : (i ≡ length kept) × (o ≡ x)).
      ⊎_elim (λ h'. absurd (foreign k y h' (sym e ∙ ap number (sym h.1))))
      (λ (h' : (k ≡ length kept) × (o ≡ y)). h.0 ∙ sym h'.0) (at_end kept o y k a'))
      (at_end kept o x i a)

module _ {Value Start Ask Answer : Type 0} (terms : Terms Value Start Ask Answer) where
  -- the gathering view is sound with the number that came back
  sound_longer : (kept : List (Own Ask Answer)) (o : Own Ask Answer) (given : ℕ)
      → IsSound {Value = Value} terms.allowance (Gathers given kept)
      → IsSound {Value = Value} terms.allowance (Idle o)
      → ((k : ℕ) (x : Own Ask Answer) → get_elem? kept k ≡ some x → x.number ≢ o.number)
      → IsSound {Value = Value} terms.allowance (Gathers given (kept ++ o ∷ []))
  sound_longer kept o given sound sound' foreign = (
    kept_longer (λ x. length x.calls + 0 ≤ terms.allowance) kept o sound.0 (sound'.0 0 o refl),
    once_longer kept o sound.1 foreign,
  )

  pub joins : (id other : ℕ) (v w : View Value Ask Answer) (given : ℕ)
      → v.role ≡ Gathers given (kept_of v.role) → w.role ≡ Idle (own_of w.role)
      → Joins (Queued terms) id v other w (both_of v w) nobody
  joins id other v w given is is' s (p, r) at apart_ at' =
      let kept : List (Own Ask Answer) = kept_of v.role in
      let o : Own Ask Answer = own_of w.role in
      let b : View Value Ask Answer = both_of v w in
      let vs : List (View Value Ask Answer) = set s.views id b in
      let there : get_elem? s.views other ≡ some w = sym (set_else s.views id other b apart_)
      ∙ at' in
      let gathers : Knows p s.homes id (Gathers given kept) =
      known_as s p r id v (Gathers given kept) at is in
      let owns : Owns p.log p.given p.owner other o = known_as s p r other w (Idle o) there is' in
      let b_role : b.role ≡ Gathers given (kept ++ o ∷ []) = (λ i. with_own (is i) (is' i)) in
      let sums : rights_in terms vs +
      (terms.seats - given) * terms.allowance ≡ rights_in terms s.views +
      (terms.seats - given) * terms.allowance =
      total_moved (rights terms.seats terms.allowance) s.views id v b (Gathers given kept)
      (Gathers given (kept ++ o ∷ [])) at is b_role in
      let more : rights_in terms (set vs other nobody) +
      (terms.allowance - length o.calls) ≡ rights_in terms vs + 0 =
      total_moved (rights terms.seats terms.allowance) vs other w nobody
      (Idle o) Nobody at' is' refl in
      let bound = r.bound in
      let owner' : ℕ → ℕ = put p.owner o.number id in
      let foreign : (k : ℕ) (x : Own Ask Answer) → get_elem? kept k ≡ some x
      → x.number ≢ o.number = λ k x a e.
      apart_ (sym owns.mine ∙ (ap p.owner (sym e) ∙ (gathers.2 k x a).mine)) in
      let mine : Owns p.log p.given owner' id o =
      record { below = owns.below; mine = put_here p.owner o.number id; calls = owns.calls } in
      let all_mine : (k : ℕ) (x : Own Ask Answer) → get_elem? (kept ++ o ∷ []) k ≡ some x
      → Owns p.log p.given owner' id x =
      kept_longer (Owns p.log p.given owner' id) kept o (λ k x a.
      owns_beside p o.number id id x (λ e. apart_ (sym owns.mine ∙ e))
      (gathers.2 k x a)) mine in
      let b_knows : Knows (after_take_back o.number id p) s.homes id b.role =
      subst (Knows (after_take_back o.number id p) s.homes id) (sym b_role) (
        gathers.0,
        gathers.1,
        all_mine,
      ) in
      let b_sound : IsSound terms.allowance b.role = subst (IsSound terms.allowance) (sym b_role)
      (sound_longer kept o given (subst (IsSound terms.allowance) is (r.each_sound id v at))
      (subst (IsSound terms.allowance) is' (r.each_sound other w there)) foreign) in (
        after_take_back o.number id p,
        record {
          words = r.words;
          served = r.served;
          right = r.right;
          begun = r.begun;
          stored = r.stored;
          few = r.few;
          unmade = r.unmade;
          bound = omega arith;
          ample = r.ample;
          home = home_stays s.homes vs (length p.log) p.value other w nobody at' (λ o' t x e.
              let f = e ∙ is' in cc)
              (home_stays s.homes s.views (length p.log) p.value id v b at (λ o' t x e. let f = e
              ∙ is in cc) r.home);
          each_opened = views_stay (λ _ d. IsOpened terms.opened d) vs other nobody (inl refl)
              (λ j d _ a. views_stay (λ _ x. IsOpened terms.opened x) s.views id b
              (r.each_opened id v at) (λ i x _ a'. r.each_opened i x a') j d a);
          each_knows = views_stay (λ j d. Knows (after_take_back o.number id p) s.homes j d.role) vs
              other nobody tt
              (λ j d not_other a. views_stay (λ j d. j ≢ other
              → Knows (after_take_back o.number id p) s.homes j d.role) s.views id b
              (λ _. b_knows)
              (λ j d not_id a' not_other. knows_reowned p s.homes j p.given owner'
              (λ e. not_id (e ∙ sym gathers.1))
              (λ x. owns_beside p o.number id j x (λ e. not_other (sym e ∙ owns.mine))) d.role
              (r.each_knows j d a')) j d a not_other);
          each_sound = views_stay (λ _ d. IsSound terms.allowance d.role) vs other nobody (
            (λ k x a. absurd (some-ne-none x (sym a))),
            λ i k x y a.
                absurd (some-ne-none x (sym a)),
          )
              (λ j d _ a. views_stay (λ _ x. IsSound terms.allowance x.role) s.views id b b_sound
              (λ i x _ a'. r.each_sound i x a') j d a);
          each_ticket = λ t low high.
              found_after (λ role. ticket_of role ≡ Some t) vs other w nobody (p.holder t) at'
              (λ h. let f : None ≡ Some t = sym (ap ticket_of is') ∙ h in cc)
              (found_after (λ role. ticket_of role ≡ Some t) s.views id v b (p.holder t) at
              (λ h. let f : None ≡ Some t = sym (ap ticket_of is) ∙ h in
              cc) (r.each_ticket t low high));
          each_number = λ n h. dite (ℕ_discrete n o.number)
              (λ e. (
                b,
                subst (λ (i : ℕ). get_elem? (set vs other nobody) i ≡ some b)
                    (sym (ap owner' e ∙ put_here p.owner o.number id))
                    (set_else vs other id nobody (λ same. apart_ (sym same))
                    ∙ set_there s.views id v b at),
                subst (λ (x : Role Value Ask Answer). IsAmong n (numbers_of x)) (sym b_role)
                    (length kept, o, at_last kept o (length kept) refl, sym e),
              ))
              (λ differ. subst (λ (i : ℕ).
              Finds (set vs other nobody) i (λ role. IsAmong n (numbers_of role)))
              (sym (put_else p.owner o.number id n differ))
              (found_after (λ role. IsAmong n (numbers_of role)) vs other w nobody (p.owner n) at'
              (λ a. absurd (differ (sym (among_one n o (subst (IsAmong n) (ap numbers_of is') a)))))
              (found_after (λ role. IsAmong n (numbers_of role)) s.views id v b (p.owner n) at
              (λ a. let old : IsAmong n kept = subst (IsAmong n) (ap numbers_of is) a in
              subst (λ (x : Role Value Ask Answer). IsAmong n (numbers_of x)) (sym b_role) (
                old.0,
                old.1,
                at_longer kept (o ∷ []) old.0 old.1 old.2,
                old.3,
              )) (r.each_number n h))));
        },
      )
