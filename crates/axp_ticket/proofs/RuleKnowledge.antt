-- What views know, and what they still know when a step was made.
use Rattle.std.proofs.Common.{◌≡◌, ◌≢◌, ⊎_elim, ℕ, zero, suc, ◌+◌, ◌*◌, ◌^◌, ◌<◌, ◌≤◌, [], ◌∷◌, length, sym, ◌∙◌, subst, arith, Some, None}
use mathlib.Core.Option.{some, some-injective, some-ne-none}
use lib.ListN.{get_elem?}
use Rattle.axp_ticket.specs.declared.board.Own.{Own}
use Rattle.axp_ticket.specs.declared.board.Role.{Role}
use Rattle.axp_ticket.specs.declared.board.Role.TheVariants.{Nobody, Idle, Waits, Turns, Gathers}
use Rattle.axp_ticket.specs.declared.board.View.{View}
use Rattle.axp_ticket.specs.Queue.{ticket_of, numbers_of, IsOpened, Owns, Holds, Progress, Knows, IsAway, Stands, Terms, Homes, TableState, rights_in}

module _ {Value Ask Answer : Type 0} where
  -- the same steps, but for how many numbers were handed out and where they stand
  abbrev pub reowned : ℕ → (ℕ → ℕ) → Progress Value Ask Answer → Progress Value Ask Answer
  reowned given' owner' p = record {
    log = p.log;
    value = p.value;
    next = p.next;
    given = given';
    gatherer = p.gatherer;
    owner = owner';
    holder = p.holder;
  }

  -- the view knows the value that the lock was opened with
  pub opened_is : (opened : Value) (v : View Value Ask Answer) (x : Value) → IsOpened opened v
      → v.opened ≡ Some x → opened ≡ x
  opened_is opened v x h e = ⊎_elim
      (λ (l : v.opened ≡ None). let f : None ≡ Some x = sym l ∙ e in cc)
      (λ (l : v.opened ≡ Some opened). let f : Some opened ≡ Some x = sym l ∙ e in cc) h

  module _ (p : Progress Value Ask Answer) (homes : Homes Value) (j : ℕ) where
    -- a ticket that the role has is held
    pub ticket_known : (role : Role Value Ask Answer) (t : ℕ) → Knows p homes j role
        → ticket_of role ≡ Some t
        → Holds (length p.log) p.next p.holder j t
    ticket_known Nobody t k e = let f : None ≡ Some t = e in absurd (cc)
    ticket_known (Idle o) t k e = let f : None ≡ Some t = e in absurd (cc)
    ticket_known (Waits o u) t k e = let f : Some u ≡ Some t = e in let same : u ≡ t = cc in
        subst (Holds (length p.log) p.next p.holder j) same k.1
    ticket_known (Turns o u v) t k e = let f : Some u ≡ Some t = e in let same : u ≡ t = cc in
        subst (Holds (length p.log) p.next p.holder j) same k.1
    ticket_known (Gathers given kept) t k e = let f : None ≡ Some t = e in absurd (cc)

    the_one : (o o' : Own Ask Answer) (k : ℕ) → get_elem? (o ∷ []) k ≡ some o'
        → Owns p.log p.given p.owner j o → Owns p.log p.given p.owner j o'
    the_one o o' zero e h = subst (Owns p.log p.given p.owner j) (some-injective o o' e) h
    the_one o o' (suc k) e h = absurd (some-ne-none o' (sym e))

    -- a number that stands in the role is owned
    pub number_known : (role : Role Value Ask Answer) (k : ℕ) (o : Own Ask Answer)
        → Knows p homes j role
        → get_elem? (numbers_of role) k ≡ some o → Owns p.log p.given p.owner j o
    number_known Nobody k o h e = absurd (some-ne-none o (sym e))
    number_known (Idle own) k o h e = the_one own o k e h
    number_known (Waits own t) k o h e = the_one own o k e h.0
    number_known (Turns own t v) k o h e = the_one own o k e h.0
    number_known (Gathers given kept) k o h e = h.2 k o e

    -- where the value is does not matter, unless the seat has the turn
    pub knows_away : (homes' : Homes Value) → IsAway homes'
        → (role : Role Value Ask Answer) → Knows p homes j role → Knows p homes' j role
    knows_away homes' away Nobody k = tt
    knows_away homes' away (Idle o) k = k
    knows_away homes' away (Waits o t) k = k
    knows_away homes' away (Turns o t v) k = (k.0, k.1, k.2, k.3, away)
    knows_away homes' away (Gathers given kept) k = k

    -- so do the numbers of other views, unless the seat gathers
    pub knows_reowned : (given' : ℕ) (owner' : ℕ → ℕ) → j ≢ p.gatherer
        → ((o : Own Ask Answer) → Owns p.log p.given p.owner j o → Owns p.log given' owner' j o)
        → (role : Role Value Ask Answer) → Knows p homes j role
        → Knows (reowned given' owner' p) homes j role
    knows_reowned given' owner' other still Nobody k = tt
    knows_reowned given' owner' other still (Idle o) k = still o k
    knows_reowned given' owner' other still (Waits o t) k = (still o k.0, k.1)
    knows_reowned given' owner' other still (Turns o t v) k = (still o k.0, k.1, k.2, k.3, k.4)
    knows_reowned given' owner' other still (Gathers given kept) k = absurd (other k.1)

module _ {Value Start Ask Answer : Type 0} {terms : Terms Value Start Ask Answer} where
  -- what a view in this role knows
  pub known_as : (s : TableState Value Ask Answer) (p : Progress Value Ask Answer)
      (r : Stands terms s p)
      (id : ℕ) (v : View Value Ask Answer) (role : Role Value Ask Answer)
      → get_elem? s.views id ≡ some v → v.role ≡ role → Knows p s.homes id role
  known_as s p r id v role at is = subst (Knows p s.homes id) is (r.each_knows id v at)

  -- no ticket reaches the end of its word
  pub few_tickets : (s : TableState Value Ask Answer) (p : Progress Value Ask Answer)
      → Stands terms s p
      → terms.seats * terms.allowance < 2 ^ 32 → p.next < 2 ^ 32
  few_tickets s p r few =
      let all : ℕ = terms.seats * terms.allowance in
      let few' : all < 2 ^ 32 = few in
      let bound : p.next + rights_in terms s.views ≤ all = r.bound in
      omega arith
