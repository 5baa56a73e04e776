-- Passing the turn on, with the value back in its slot and one call longer, keeps the rule of the
-- table.
use Rattle.std.proofs.Common.{◌≡◌, ◌≢◌, inl, ℕ, ◌+◌, ◌-◌, ◌*◌, ◌%◌, ◌^◌, ◌<◌, List, [], ◌∷◌, ◌++◌, length, set, get_or, sym, refl, ap, ◌∙◌, subst, arith, Option, Some, length-append, zero-add, unwrap_or}
use Rattle.std.proofs.Math.Nat.{mod-eq_of_lt}
use mathlib.Core.Option.{some, none}
use lib.ListN.{get_elem?}
use Rattle.atomic_table.specs.Table.{step, gives, stepped, rest, Allows}
use Rattle.axp_call.specs.declared.calls.Call.{Call}
use Rattle.axp_call.specs.Calls.{caller}
use Rattle.axp_call.proofs.Rightness.{right_after_append}
use Rattle.axp_ticket.specs.declared.board.Placed.{Placed}
use Rattle.axp_ticket.specs.declared.board.Own.{Own}
use Rattle.axp_ticket.specs.declared.board.Role.{Role}
use Rattle.axp_ticket.specs.declared.board.Role.TheVariants.{Nobody, Idle, Waits, Turns, Gathers}
use Rattle.axp_ticket.specs.declared.board.View.{View}
use Rattle.axp_ticket.specs.History.{placed, with_call, IsAmong, AllBefore}
use Rattle.axp_ticket.specs.Moves.{Held, own_of, posed, passed}
use Rattle.axp_ticket.specs.Queue.{rights, ticket_of, numbers_of, IsOpened, IsSound, Owns, Holds, Progress, Knows, IsHome, Stands, Queued, Terms, Homes, TableState, rights_in}
use Rattle.axp_ticket.proofs.ListPlaces.{last_same}
use Rattle.axp_ticket.proofs.NumberCalls.{calls_from-mine, calls_from-other, calls_of-before}
use Rattle.axp_ticket.proofs.ViewChanges.{views_stay, found_after, total_moved, one_among, among_one, sound_one}
use Rattle.axp_ticket.proofs.RuleKnowledge.{known_as, few_tickets}

abbrev carried_or : {Value : Type 0} → Value → List (ℕ × Option Value) → Value
carried_or other [] = other
carried_or other (x ∷ xs) = unwrap_or x.1 other

module _ {Value Ask Answer : Type 0} where
  abbrev turn_value : Value → Role Value Ask Answer → Value
  turn_value other (Turns o t value) = value
  turn_value other _ = other

  abbrev turn_ticket : Role Value Ask Answer → ℕ
  turn_ticket (Turns o t value) = t
  turn_ticket _ = 0

  -- one call more was made, and this value stores it
  abbrev after_call : Call Ask Answer → Value → Progress Value Ask Answer
      → Progress Value Ask Answer
  after_call c back p = record {
    log = p.log ++ c ∷ [];
    value = back;
    next = p.next;
    given = p.given;
    gatherer = p.gatherer;
    owner = p.owner;
    holder = p.holder;
  }

  module _ (p : Progress Value Ask Answer) (c : Call Ask Answer) (back : Value) (id j : ℕ) where
    -- the calls of a number stay where a call of another comes
    owns_still : (o : Own Ask Answer) → p.owner (caller c) ≡ id → j ≢ id
        → Owns p.log p.given p.owner j o
        → Owns (p.log ++ c ∷ []) p.given p.owner j o
    owns_still o mine other k = record {
      below = k.below;
      mine = k.mine;
      calls = k.calls
          ∙ sym (calls_from-other o.number 0 p.log c
          (λ e. other (sym k.mine ∙ (ap p.owner (sym e) ∙ mine))));
    }

    holds_still : (t : ℕ) → p.holder (length p.log) ≡ id → j ≢ id
        → Holds (length p.log) p.next p.holder j t
        → Holds (length (p.log ++ c ∷ [])) p.next p.holder j t
    holds_still t first other k =
        let behind : t ≢ length p.log = λ e. other (sym k.mine ∙ (ap p.holder e ∙ first)) in
        let from = k.from in let long = length-append p.log (c ∷ []) in
        record { from = omega arith; below = k.below; mine = k.mine }

    -- a view knows as much where another's call was made
    knows_still : (homes homes' : Homes Value) (role : Role Value Ask Answer)
        → p.owner (caller c) ≡ id → p.holder (length p.log) ≡ id → j ≢ id
        → Knows p homes j role → Knows (after_call c back p) homes' j role
    knows_still homes homes' Nobody mine first other k = tt
    knows_still homes homes' (Idle o) mine first other k = owns_still o mine other k
    knows_still homes homes' (Waits o t) mine first other k =
        (owns_still o mine other k.0, holds_still t first other k.1)
    knows_still homes homes' (Turns o t v) mine first other k =
        absurd (other (sym k.1.mine ∙ (ap p.holder k.2 ∙ first)))
    knows_still homes homes' (Gathers given kept) mine first other k =
        (k.0, k.1, λ i o at. owns_still o mine other (k.2 i o at))

module _ {Value Start Ask Answer : Type 0} (terms : Terms Value Start Ask Answer) where
  -- the calls of the number, with the one that was made
  calls_after : (p : Progress Value Ask Answer) (o : Own Ask Answer) (j position : ℕ)
      (c : Call Ask Answer) → Owns p.log p.given p.owner j o
      → caller c ≡ o.number → position ≡ length p.log
      → Owns (p.log ++ c ∷ []) p.given p.owner j (with_call position c o)
  calls_after p o j position c owns whose is = record {
    below = owns.below;
    mine = owns.mine;
    calls = ap (λ (x : List (Placed Ask Answer) × ℕ). x.0 ++ placed x.1 c ∷ [])
        (λ i. (owns.calls i, (is ∙ sym (zero-add (length p.log))) i))
        ∙ sym (calls_from-mine o.number 0 p.log c whose);
  }

  -- the table stands where the call of view id was made
  passed_stands : (s : TableState Value Ask Answer) (p : Progress Value Ask Answer)
      → Stands terms s p
      → (id : ℕ) (v : View Value Ask Answer) (o : Own Ask Answer) (ticket position word : ℕ)
      (value back : Value) (c : Call Ask Answer) (homes' : Homes Value)
      → get_elem? s.views id ≡ some v → v.role ≡ Turns o ticket value → caller c ≡ o.number
      → terms.calls back ≡ terms.calls value ++ c ∷ []
      → (terms.start back ≡ terms.start value) × (terms.room back ≡ terms.room value)
      → terms.Right (terms.start value) (terms.calls value) (caller c) c.ask c.answer
      → position ≡ length p.log → word ≡ length p.log + 1 → IsHome homes' back
      → Stands terms
      record {
        words = set s.words 1 word;
        homes = homes';
        views =
            set s.views id (posed v (Idle (with_call position c o)));
      } (after_call c back p)
  passed_stands s p r id v o ticket position word value back c homes' at is whose longer same right
      position_is word_is home =
      let turns : Knows p s.homes id (Turns o ticket value) =
      known_as s p r id v (Turns o ticket value) at is in
      let o' : Own Ask Answer = with_call position c o in
      let w : View Value Ask Answer = posed v (Idle o') in
      let log' : List (Call Ask Answer) = p.log ++ c ∷ [] in
      let long : length log' ≡ length p.log + 1 = length-append p.log (c ∷ []) in
      let long' : length o'.calls ≡ length o.calls + 1 =
      length-append o.calls (placed position c ∷ []) in
      let sums : rights_in terms (set s.views id w) + (terms.allowance - (length o.calls + 1))
      ≡ rights_in terms s.views + (terms.allowance - length o'.calls) =
      total_moved (rights terms.seats terms.allowance) s.views id v w (Turns o ticket value)
      (Idle o') at is refl in
      let bound = r.bound in
      let below = turns.1.below in let now = turns.2 in
      let value_is : value ≡ p.value = turns.3 in
      let stored : terms.calls value ≡ p.log = ap terms.calls value_is ∙ r.stored in
      let begun : terms.start back ≡ terms.start terms.opened = same.0
      ∙ (ap terms.start value_is ∙ r.begun.0) in
      let mine : p.owner (caller c) ≡ id = ap p.owner whose ∙ turns.0.mine in
      let first : p.holder (length p.log) ≡ id = ap p.holder (sym now) ∙ turns.1.mine in
      record {
        words = ap (λ (ws : List ℕ). set ws 1 word) r.words ∙ ap (λ (k : ℕ). p.next ∷ k ∷ [])
            (word_is ∙ sym long);
        served = omega arith;
        right = right_after_append terms.Right (terms.start terms.opened) [] p.log c r.right
            (subst (λ (x : Start × List (Call Ask Answer)).
            terms.Right x.0 x.1 (caller c) c.ask c.answer)
            (λ i. ((ap terms.start value_is ∙ r.begun.0) i, stored i)) right);
        begun = (begun, same.1 ∙ (ap terms.room value_is ∙ r.begun.1));
        stored = longer ∙ ap (λ (l : List (Call Ask Answer)). l ++ c ∷ []) stored;
        few = r.few;
        unmade = λ n h. calls_from-other n 0 p.log c (λ e. let b = turns.0.below in omega arith)
            ∙ r.unmade n h;
        bound = omega arith;
        ample = r.ample;
        home = inl home;
        each_opened = views_stay (λ _ d. IsOpened terms.opened d) s.views id w
            (r.each_opened id v at) (λ j d _ there. r.each_opened j d there);
        each_knows = views_stay (λ j d. Knows (after_call c back p) homes' j d.role) s.views id w
            (calls_after p o id position c turns.0 whose position_is)
            (λ j d other there. knows_still p c back id j s.homes homes' d.role mine first other
            (r.each_knows j d there));
        each_sound = views_stay (λ _ d. IsSound terms.allowance d.role) s.views id w
            (sound_one terms.allowance o' 0 (let h =
            (subst (IsSound terms.allowance) is (r.each_sound id v at)).0 0 o refl in
            omega arith)) (λ j d _ there. r.each_sound j d there);
        each_ticket = λ t low high. found_after (λ role. ticket_of role ≡ Some t) s.views id v w
            (p.holder t) at
            (λ h. let f : Some ticket ≡ Some t = sym (ap ticket_of is) ∙ h in
            let same_ticket : ticket ≡ t = cc in
            absurd (omega arith)) (r.each_ticket t (omega arith) high);
        each_number = λ n h. found_after (λ role. IsAmong n (numbers_of role)) s.views id v w
            (p.owner n) at
            (λ there. one_among n o' (among_one n o (subst (IsAmong n) (ap numbers_of is) there)))
            (r.each_number n h);
      }

  -- what the step tells: the seat is as it says of any call that the value has more, since there is
  -- one such call
  passed_tells : (slots : ℕ) (m : Held Value Ask Answer) (n ticket : ℕ) (value back : Value)
      (c : Call Ask Answer)
      → m.0.role ≡ Turns (own_of m.0.role) ticket value → m.1 ≡ (0, Some back) ∷ []
      → terms.calls back ≡ terms.calls value ++ c ∷ [] → n ≡ ticket
      → AllBefore (own_of m.0.role).calls n
      → passed terms.calls (step slots 1 1 0 none) m n
      (posed m.0 (Idle (with_call n c (own_of m.0.role))), rest m.1)
  passed_tells slots m n ticket value back c is carried longer now later =
      λ t₂ v₂ b₂ c₂ is₂ carried₂ longer₂.
      let o : Own Ask Answer = own_of m.0.role in
      let a : value ≡ v₂ = ap (turn_value value) (sym is ∙ is₂) in
      let b : back ≡ b₂ = ap (carried_or back) (sym carried ∙ carried₂) in
      let e : c ≡ c₂ = last_same (terms.calls value) c c₂ (sym longer
      ∙ (ap terms.calls b ∙ (longer₂ ∙ ap (λ (x : Value). terms.calls x ++ c₂ ∷ []) (sym a))))
      in (
        (λ i. (posed m.0 (Idle (with_call n (e i) o)), ap rest carried i)),
        now ∙ ap turn_ticket (sym is ∙ is₂),
        later,
      )

  pub passes : (slots id : ℕ) (m : Held Value Ask Answer) (ticket : ℕ) (value back : Value)
      (c : Call Ask Answer) → m.0.role ≡ Turns (own_of m.0.role) ticket value
      → m.1 ≡ (0, Some back) ∷ []
      → caller c ≡ (own_of m.0.role).number → terms.calls back ≡ terms.calls value ++ c ∷ []
      → (terms.start back ≡ terms.start value) × (terms.room back ≡ terms.room value)
      → terms.Right (terms.start value) (terms.calls value) (caller c) c.ask c.answer
      → terms.seats * terms.allowance < 2 ^ 32
      → Allows (Queued terms) slots id m 1 (λ n. (n + 1) % 2 ^ 64)
      (passed terms.calls (step slots 1 1 0 none) m)
  passes slots id m ticket value back c is carried whose longer same right few s
      (p, r) deep at fits =
      let o : Own Ask Answer = own_of m.0.role in
      let n : ℕ = get_or s.words 1 0 in
      let n_is : n ≡ length p.log = ap (λ (ws : List ℕ). get_or ws 1 0) r.words in
      let turns : Knows p s.homes id (Turns o ticket value) =
      known_as s p r id m.0 (Turns o ticket value) at is in
      let w : View Value Ask Answer = posed m.0 (Idle (with_call n c o)) in
      let tickets : p.next < 2 ^ 32 = few_tickets s p r few in
      let served = r.served in
      let fits' : n + 1 < 2 ^ 64 = omega arith in
      let next : (n + 1) % 2 ^ 64 ≡ length p.log + 1 = mod-eq_of_lt fits'
      ∙ ap (λ (k : ℕ). k + 1) n_is in
      let home : IsHome (set s.homes 0 (some (Some back))) back =
      ap (λ (h : Homes Value). set h 0 (some (Some back))) turns.4 in
      let later : AllBefore o.calls n = λ k x a.
      let h = calls_of-before o.number p.log k x
      (ap (λ (l : List (Placed Ask Answer)). get_elem? l k) (sym turns.0.calls) ∙ a) in
      omega arith in (
        w,
        gives,
        tt,
        subst (λ (cs : List (ℕ × Option Value)).
            Queued terms (stepped s 1 ((n + 1) % 2 ^ 64) id cs w gives)) (sym carried) (
              after_call c back p,
              passed_stands s p r id m.0 o ticket n
                  ((n + 1) % 2 ^ 64) value back c
                  (set s.homes 0 (some (Some back))) at is whose longer same right n_is next home,
            ),
        passed_tells slots m n ticket value back c is carried longer (n_is ∙ sym turns.2) later,
      )
