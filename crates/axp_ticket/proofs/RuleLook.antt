-- Looking whether a ticket is served, and taking the turn where it is, keeps the rule of the table.
use Rattle.std.proofs.Common.{◌≡◌, ⊎_elim, inr, ℕ, ◌+◌, ◌-◌, ◌*◌, ◌^◌, ◌<◌, ◌≤◌, List, [], ◌∷◌, length, set, get_or, sym, refl, ap, ◌∙◌, subst, arith, Some}
use mathlib.Core.Logic.{dite}
use mathlib.Core.Option.{some, none}
use native.Mathlib.Decide.{ℕ_discrete}
use lib.ListN.{get_elem?}
use lib.Seq.{set-get_or}
use Rattle.atomic_table.specs.Table.{step, keeps, takes, Allows}
use Rattle.atomic_table.proofs.Lists.{set_again}
use Rattle.axp_ticket.specs.declared.board.Own.{Own}
use Rattle.axp_ticket.specs.declared.board.Role.TheVariants.{Waits, Turns}
use Rattle.axp_ticket.specs.declared.board.View.{View}
use Rattle.axp_ticket.specs.History.{IsAmong, calls_of}
use Rattle.axp_ticket.specs.Moves.{Held, own_of, posed, looked, IsTaken}
use Rattle.axp_ticket.specs.Queue.{rights, ticket_of, numbers_of, IsOpened, IsSound, Holds, Progress, Knows, IsAway, IsHome, HasTurn, Stands, Queued, Terms, Homes, TableState, rights_in}
use Rattle.axp_ticket.proofs.ViewChanges.{views_stay, set_there, found_after, total_moved, apart}
use Rattle.axp_ticket.proofs.RuleKnowledge.{known_as, knows_away, opened_is, few_tickets}

module _ {Value Start Ask Answer : Type 0} (terms : Terms Value Start Ask Answer) where
  -- while a view waits with the ticket that is served, the value is in its slot
  at_home : (s : TableState Value Ask Answer) (p : Progress Value Ask Answer) → Stands terms s p
      → (id : ℕ) (v : View Value Ask Answer) (o : Own Ask Answer) (ticket : ℕ)
      → get_elem? s.views id ≡ some v → v.role ≡ Waits o ticket → ticket ≡ length p.log
      → IsHome s.homes p.value
  at_home s p r id v o ticket at is now = ⊎_elim (λ l. l)
      (λ (x : IsAway s.homes × (j : ℕ) × HasTurn s.views (length p.log) p.value j).
      let (d, o', there, turns) = x.2 in
      let theirs : Holds (length p.log) p.next p.holder x.1 (length p.log) =
      (known_as s p r x.1 d (Turns o' (length p.log) p.value) there turns).1 in
      let mine : Holds (length p.log) p.next p.holder id ticket =
      (known_as s p r id v (Waits o ticket) at is).1 in
      absurd (apart s.views x.1 id d v there at
      (λ e. let f : Turns o' (length p.log) p.value ≡ Waits o ticket = sym turns ∙ (e ∙ is) in
      cc)
      (sym theirs.mine ∙ (ap p.holder (sym now) ∙ mine.mine)))) r.home

  -- the table stands where view id has taken the turn
  taken_stands : (s : TableState Value Ask Answer) (p : Progress Value Ask Answer)
      → Stands terms s p
      → (id : ℕ) (v : View Value Ask Answer) (o : Own Ask Answer) (ticket word : ℕ)
      (homes' : Homes Value)
      → get_elem? s.views id ≡ some v → v.role ≡ Waits o ticket → ticket ≡ length p.log
      → word ≡ length p.log → IsAway homes'
      → Stands terms
      record {
        words = set s.words 1 word;
        homes = homes';
        views =
            set s.views id (posed v (Turns o ticket p.value));
      } p
  taken_stands s p r id v o ticket word homes' at is now word_is away =
      let w : View Value Ask Answer = posed v (Turns o ticket p.value) in
      let waits : Knows p s.homes id (Waits o ticket) =
      known_as s p r id v (Waits o ticket) at is in
      let sums : rights_in terms (set s.views id w) + (terms.allowance - (length o.calls + 1))
      ≡ rights_in terms s.views + (terms.allowance - (length o.calls + 1)) =
      total_moved (rights terms.seats terms.allowance) s.views id v w (Waits o ticket)
      (Turns o ticket p.value) at is refl in
      let bound = r.bound in
      record {
        words = ap (λ (ws : List ℕ). set ws 1 word) r.words
            ∙ ap (λ (k : ℕ). p.next ∷ k ∷ []) word_is;
        served = r.served;
        right = r.right;
        begun = r.begun;
        stored = r.stored;
        few = r.few;
        unmade = r.unmade;
        bound = omega arith;
        ample = r.ample;
        home = inr (
          away,
          id,
          (
            w,
            o,
            set_there s.views id v w at,
            ap (λ (k : ℕ). Turns o k p.value) now,
          ),
        );
        each_opened = views_stay (λ _ d. IsOpened terms.opened d) s.views id w
            (r.each_opened id v at) (λ j d _ there. r.each_opened j d there);
        each_knows = views_stay (λ j d. Knows p homes' j d.role) s.views id w
            (waits.0, waits.1, now, refl, away) (λ j d _ there.
            knows_away p s.homes j homes' away d.role (r.each_knows j d there));
        each_sound = views_stay (λ _ d. IsSound terms.allowance d.role) s.views id w
            (subst (IsSound terms.allowance) is (r.each_sound id v at)) (λ j d _ there.
            r.each_sound j d there);
        each_ticket = λ t low high. found_after (λ role. ticket_of role ≡ Some t) s.views id v w
            (p.holder t) at (λ h. sym (ap ticket_of is) ∙ h) (r.each_ticket t low high);
        each_number = λ n h. found_after (λ role. IsAmong n (numbers_of role)) s.views id v w
            (p.owner n) at (λ there. subst (IsAmong n) (ap numbers_of is) there)
            (r.each_number n h);
      }

  -- what the seat knows of the value that it took
  value_taken : (s : TableState Value Ask Answer) (p : Progress Value Ask Answer) → Stands terms s p
      → (id : ℕ) (v : View Value Ask Answer) (o : Own Ask Answer) (ticket : ℕ)
      → get_elem? s.views id ≡ some v → v.role ≡ Waits o ticket → ticket ≡ length p.log
      → IsTaken terms.start terms.room terms.calls v ticket p.value
  value_taken s p r id v o ticket at is now =
      let waits : Knows p s.homes id (Waits o ticket) =
      known_as s p r id v (Waits o ticket) at is in
      let all : ℕ = terms.seats * terms.allowance in
      let ample : all ≤ terms.room terms.opened = r.ample in
      let bound : p.next + rights_in terms s.views ≤ all = r.bound in
      let same = r.begun.1 in
      let below = waits.1.below in
      let owns : own_of v.role ≡ o = ap own_of is in
      record {
        begun = λ x e. r.begun.0
            ∙ ap terms.start (opened_is terms.opened v x (r.each_opened id v at) e);
        many = ap length r.stored ∙ sym now;
        roomy = omega arith;
        mine = ap (calls_of (own_of v.role).number) r.stored
            ∙ subst (λ (x : Own Ask Answer). calls_of x.number p.log ≡ x.calls) (sym owns)
            (sym waits.0.calls);
      }

  pub looks : (slots id : ℕ) (m : Held Value Ask Answer) (ticket : ℕ)
      → m.0.role ≡ Waits (own_of m.0.role) ticket → m.1 ≡ []
      → terms.seats * terms.allowance < 2 ^ 32
      → Allows (Queued terms) slots id m 1 (λ n. n) (looked terms.start terms.room terms.calls
      (step slots 1 0 0 none) m)
  looks slots id m ticket is bare few s (p, r) deep at fits =
      let o : Own Ask Answer = own_of m.0.role in
      let n : ℕ = get_or s.words 1 0 in
      let n_is : n ≡ length p.log = ap (λ (ws : List ℕ). get_or ws 1 0) r.words in
      let tickets : p.next < 2 ^ 32 = few_tickets s p r few in
      let served = r.served in
      let small : n < 2 ^ 32 = omega arith in
      let its : (t : ℕ) → m.0.role ≡ Waits o t → t ≡ ticket = λ t is'. let e = sym is' ∙ is in cc in
      dite (ℕ_discrete n ticket)
      (λ now.
      let now' : ticket ≡ length p.log = sym now ∙ n_is in
      let home : IsHome s.homes p.value = at_home s p r id m.0 o ticket at is now' in
      let away : IsAway (set s.homes 0 none) = ap (λ (h : Homes Value). set h 0 none) home in (
        posed m.0 (Turns o ticket p.value),
        takes 0 (Some p.value),
        ap (λ (h : Homes Value). get_elem? h 0) home,
        (p, taken_stands s p r id m.0 o ticket n (set s.homes 0 none) at is now' n_is away),
        (
          small,
          λ t is'. let same = its t is' in (
            (λ late. absurd (late (now ∙ sym same))),
            λ _. (
              p.value,
              (λ i. (posed m.0 (Turns o (sym same i) p.value), (0, Some p.value) ∷ bare i)),
              value_taken s p r id m.0 o t at is' (same ∙ now'),
            ),
          ),
        ),
      ))
      (λ late. (
        m.0,
        keeps,
        tt,
        subst (λ (x : List ℕ × List (View Value Ask Answer)).
            Queued terms record { words = x.0; homes = s.homes; views = x.1 })
            (λ i. (sym (set-get_or s.words 1 0) i, sym (set_again s.views id m.0 at) i)) (p, r),
        (small, λ t is'. let same = its t is' in ((λ _. refl), λ e. absurd (late (e ∙ same)))),
      ))
