-- Drawing a ticket keeps the rule of the table.
use Rattle.std.proofs.Common.{◌≡◌, ℕ, ◌+◌, ◌-◌, ◌*◌, ◌%◌, ◌^◌, ◌<◌, ◌≤◌, List, [], ◌∷◌, length, set, get_or, sym, refl, ap, ◌∙◌, subst, arith, Some, None}
use Rattle.std.proofs.Math.Nat.{mod-eq_of_lt}
use mathlib.Core.Logic.{dite}
use mathlib.Core.Option.{some, none}
use native.Mathlib.Decide.{ℕ_discrete}
use lib.ListN.{get_elem?}
use Rattle.atomic_table.specs.Table.{step, keeps, Allows}
use Rattle.axp_ticket.specs.declared.board.Own.{Own}
use Rattle.axp_ticket.specs.declared.board.Role.{Role}
use Rattle.axp_ticket.specs.declared.board.Role.TheVariants.{Nobody, Idle, Waits, Turns, Gathers}
use Rattle.axp_ticket.specs.declared.board.View.{View}
use Rattle.axp_ticket.specs.History.{IsAmong}
use Rattle.axp_ticket.specs.Moves.{Held, own_of, posed, drawn}
use Rattle.axp_ticket.specs.Queue.{rights, ticket_of, numbers_of, IsOpened, IsSound, Owns, Holds, Progress, Knows, Stands, Queued, Terms, Homes, TableState, rights_in}
use Rattle.axp_ticket.proofs.FunctionChanges.{put, put_here, put_else}
use Rattle.axp_ticket.proofs.ViewChanges.{views_stay, set_there, found_after, home_stays, total_moved, sound_one}
use Rattle.axp_ticket.proofs.RuleKnowledge.{known_as, few_tickets}

module _ {Value Ask Answer : Type 0} where
  -- view id has drawn the next ticket
  abbrev after_draw : ℕ → Progress Value Ask Answer → Progress Value Ask Answer
  after_draw id p = record {
    log = p.log;
    value = p.value;
    next = p.next + 1;
    given = p.given;
    gatherer = p.gatherer;
    owner = p.owner;
    holder = put p.holder p.next id;
  }

  holds_later : (p : Progress Value Ask Answer) (id j t : ℕ)
      → Holds (length p.log) p.next p.holder j t
      → Holds (length p.log) (p.next + 1) (put p.holder p.next id) j t
  holds_later p id j t h = let before = h.below in record {
    from = h.from;
    below = omega arith;
    mine = put_else p.holder p.next id t (λ e. omega arith) ∙ h.mine;
  }

  -- a view knows as much where a ticket more was drawn
  knows_later : (p : Progress Value Ask Answer) (homes : Homes Value) (id j : ℕ)
      (role : Role Value Ask Answer)
      → Knows p homes j role → Knows (after_draw id p) homes j role
  knows_later p homes id j Nobody k = tt
  knows_later p homes id j (Idle o) k = k
  knows_later p homes id j (Waits o t) k = (k.0, holds_later p id j t k.1)
  knows_later p homes id j (Turns o t v) k = (k.0, holds_later p id j t k.1, k.2, k.3, k.4)
  knows_later p homes id j (Gathers given kept) k = k

module _ {Value Start Ask Answer : Type 0} (terms : Terms Value Start Ask Answer) where
  -- the table stands where view id has the next ticket
  drawn_stands : (s : TableState Value Ask Answer) (p : Progress Value Ask Answer)
      → Stands terms s p
      → (id : ℕ) (v : View Value Ask Answer) (o : Own Ask Answer) (ticket word : ℕ)
      → get_elem? s.views id ≡ some v → v.role ≡ Idle o → length o.calls < terms.allowance
      → ticket ≡ p.next → word ≡ p.next + 1
      → Stands terms
      record {
        words = set s.words 0 word;
        homes = s.homes;
        views =
            set s.views id (posed v (Waits o ticket));
      } (after_draw id p)
  drawn_stands s p r id v o ticket word at is few ticket_is word_is =
      let w : View Value Ask Answer = posed v (Waits o ticket) in
      let owns : Owns p.log p.given p.owner id o = known_as s p r id v (Idle o) at is in
      let sums : rights_in terms (set s.views id w) +
      (terms.allowance - length o.calls) ≡ rights_in terms s.views +
      (terms.allowance - (length o.calls + 1)) =
      total_moved (rights terms.seats terms.allowance) s.views id v w (Idle o)
      (Waits o ticket) at is refl in
      let all : ℕ = terms.seats * terms.allowance in
      let bound : p.next + rights_in terms s.views ≤ all = r.bound in
      let served = r.served in
      let mine : put p.holder p.next id ticket ≡ id = ap (put p.holder p.next id) ticket_is
      ∙ put_here p.holder p.next id in
      record {
        words = ap (λ (ws : List ℕ). set ws 0 word) r.words
            ∙ ap (λ (k : ℕ). k ∷ length p.log ∷ []) word_is;
        served = omega arith;
        right = r.right;
        begun = r.begun;
        stored = r.stored;
        few = r.few;
        unmade = r.unmade;
        bound = omega arith;
        ample = r.ample;
        home = home_stays s.homes s.views (length p.log) p.value id v w at (λ o' t x e. let f = e
            ∙ is in cc) r.home;
        each_opened = views_stay (λ _ d. IsOpened terms.opened d) s.views id w
            (r.each_opened id v at) (λ j d _ there. r.each_opened j d there);
        each_knows = views_stay (λ j d. Knows (after_draw id p) s.homes j d.role) s.views id w
            (owns, record { from = omega arith; below = omega arith; mine = mine })
            (λ j d _ there. knows_later p s.homes id j d.role (r.each_knows j d there));
        each_sound = views_stay (λ _ d. IsSound terms.allowance d.role) s.views id w
            (sound_one terms.allowance o 1 (omega arith)) (λ j d _ there. r.each_sound j d there);
        each_ticket = λ t low high. dite (ℕ_discrete t p.next)
            (λ e. (
              w,
              subst (λ (i : ℕ). get_elem? (set s.views id w) i ≡ some w)
                  (sym (ap (put p.holder p.next id) e ∙ put_here p.holder p.next id))
                  (set_there s.views id v w at),
              ap Some (ticket_is ∙ sym e),
            ))
            (λ other. subst (λ (i : ℕ). (d : View Value Ask Answer)
            × (get_elem? (set s.views id w) i ≡ some d) × (ticket_of d.role ≡ Some t))
            (sym (put_else p.holder p.next id t other))
            (found_after (λ role. ticket_of role ≡ Some t) s.views id v w (p.holder t) at
            (λ h. let f : None ≡ Some t = sym (ap ticket_of is) ∙ h in
            cc) (r.each_ticket t low (omega arith))));
        each_number = λ n h. found_after (λ role. IsAmong n (numbers_of role)) s.views id v w
            (p.owner n) at
            (λ there. subst (IsAmong n) (ap numbers_of is) there) (r.each_number n h);
      }

  pub draws : (slots id : ℕ) (m : Held Value Ask Answer) → m.0.role ≡ Idle (own_of m.0.role)
      → length (own_of m.0.role).calls < terms.allowance → terms.seats * terms.allowance < 2 ^ 32
      → Allows (Queued terms) slots id m 0 (λ n. (n + 1) % 2 ^ 64) (drawn (step slots 0 1 0 none) m)
  draws slots id m is few small s (p, r) deep at fits =
      let n : ℕ = get_or s.words 0 0 in
      let n_is : n ≡ p.next = ap (λ (ws : List ℕ). get_or ws 0 0) r.words in
      let low : p.next < 2 ^ 32 = few_tickets s p r small in
      let fits' : n + 1 < 2 ^ 64 = omega arith in
      let next : (n + 1) % 2 ^ 64 ≡ p.next + 1 =
      mod-eq_of_lt fits' ∙ ap (λ (k : ℕ). k + 1) n_is in (
        posed m.0 (Waits (own_of m.0.role) n),
        keeps,
        tt,
        (
          after_draw id p,
          drawn_stands s p r id m.0 (own_of m.0.role) n
              ((n + 1) % 2 ^ 64) at is few n_is next,
        ),
        (refl, omega arith),
      )
