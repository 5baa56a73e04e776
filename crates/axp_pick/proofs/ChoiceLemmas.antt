-- What a word chooses is offered, and where every word chooses an act.
use Rattle.std.proofs.Common.{◌≡◌, ℕ, zero, suc, ◌%◌, ◌<◌, ◌≤◌, Bool, true, false, ◌&&◌, ◌||◌, cond, eqb, ltb, leb, List, [], ◌∷◌, length, Option, Some, None, is_some, refl, sym, ◌∙◌, arith, ◌↔◌}
use Rattle.std.specs.Prelude.{find, slice_get}
use Rattle.std.specs.List.{list_any}
use Rattle.std.proofs.lemmas.Bool.{lt-ltb, lt-leb, lt-leb, ne_eqb, and_parts}
use Rattle.axp_access.specs.Offers.{is_copy, is_offered}
use Rattle.axp_access.specs.declared.Act.{Act}
use Rattle.axp_access.specs.declared.Act.TheVariants as act
use Rattle.axp_access.specs.declared.offers.Offer.{Offer}
use Rattle.axp_base.specs.Lines.{line_number, same_bank}
use Rattle.axp_base.specs.declared.lines.Bank.{Bank}
use Rattle.axp_base.specs.declared.lines.Bank.TheVariants.{Even, Odd, Code}
use Rattle.axp_base.specs.declared.lines.Line.{Line}
use Rattle.axp_pick.specs.Choices.{TICKS, choice, drain_of, drop_at, drop_of, first_in_bank, index_field, is_able, kind_field, named, or_else, progress, rarity_field, room_made, where_legal}

-- ---- what is chosen is offered

-- the act that there may be is offered
abbrev pub Offers : Offer → Option Act → Type 0
Offers o None = Unit {0}
Offers o (Some a) = is_offered o a ≡ true

offers_if : (o : Offer) (b : Bool) (p q : Option Act) → Offers o p → Offers o q → Offers o (cond b p q)
offers_if o true p q left right = left
offers_if o false p q left right = right

offers_legal : (o : Offer) (b : Bool) (a : Act) → (b ≡ true → is_offered o a ≡ true) → Offers o (where_legal b a)
offers_legal o true a legal = legal refl
offers_legal o false a legal = tt

offers_either : (o : Offer) (p q : Option Act) → Offers o p → Offers o q → Offers o (or_else p q)
offers_either o None q left right = right
offers_either o (Some a) q left right = left

offers_drain : (o : Offer) (index n : ℕ) → n ≡ o.drains → Offers o (drain_of index n)
offers_drain o index zero all = tt
offers_drain o index (suc n) all = lt-ltb (index % suc n) o.drains (omega (arith, all))

same_itself : (bank : Bank) → same_bank bank bank ≡ true
same_itself Even = refl
same_itself Odd = refl
same_itself Code = refl

number_itself : (n : ℕ) → eqb n n ≡ true
number_itself n = grind arith

copy_itself : (c : Bank × Line) → is_copy c.0 c.1 c ≡ true
copy_itself c = rw (same_itself c.0) (number_itself (line_number c.1))

or_true : (b c : Bool) → c ≡ true → (b || c) ≡ true
or_true true c h = refl
or_true false c h = h

at_front : {X : Type 0} (q : X → Bool) (x y : X) (ys : List X) → y ≡ x → q x ≡ true → list_any q (y ∷ ys) ≡ true
at_front q x y ys same holds = rw same (rw holds refl)

found_is_there : {X : Type 0} (p q : X → Bool) (xs : List X) (x : X) → find p xs ≡ Some x → q x ≡ true → list_any q xs ≡ true
found_is_there p q [] x found holds = absurd cc
found_is_there p q (y ∷ ys) x found holds = by (p y) (λ there. found_is_there p q ys x there holds) found where
  by : (b : Bool) → (find p ys ≡ Some x → list_any q ys ≡ true) → cond b (Some y) (find p ys) ≡ Some x → list_any q (y ∷ ys) ≡ true
  by true behind here = let same : y ≡ x = cc in at_front q x y ys same holds
  by false behind there = or_true (q y) (list_any q ys) (behind there)

got_is_there : {X : Type 0} (q : X → Bool) (xs : List X) (k : ℕ) (x : X) → slice_get xs k ≡ Some x → q x ≡ true → list_any q xs ≡ true
got_is_there q [] k x got holds = absurd cc
got_is_there q (y ∷ ys) zero x got holds = let same : y ≡ x = cc in at_front q x y ys same holds
got_is_there q (y ∷ ys) (suc k) x got holds = or_true (q y) (list_any q ys) (got_is_there q ys k x got holds)

offers_drop : (o : Offer) (p : Option (Bank × Line)) → ((c : Bank × Line) → p ≡ Some c → list_any (is_copy c.0 c.1) o.drops.items ≡ true) → Offers o (drop_of p)
offers_drop o None there = tt
offers_drop o (Some c) there = there c refl

offers_room : (o : Offer) (needs : Option Bank) → Offers o (room_made needs o.drops.items)
offers_room o None = tt
offers_room o (Some bank) = offers_drop o (first_in_bank bank o.drops.items)
    (λ c found. found_is_there (λ (copy : Bank × Line). same_bank bank copy.0) (is_copy c.0 c.1) o.drops.items c found (copy_itself c))

offers_drop_at : (o : Offer) (index : ℕ) (drops : List (Bank × Line)) → drops ≡ o.drops.items → Offers o (drop_at index drops)
offers_drop_at o index [] all = tt
offers_drop_at o index (d ∷ ds) all = offers_drop o (slice_get (d ∷ ds) (index % length (d ∷ ds)))
    (λ c got. rw (sym all) (got_is_there (is_copy c.0 c.1) (d ∷ ds) (index % length (d ∷ ds)) c got (copy_itself c)))

offers_progress : (o : Offer) → Offers o (progress o)
unfolding progress
offers_progress o =
    offers_either o _ _ (offers_legal o o.step act.Step (λ h. h))
    (offers_either o _ _ (offers_legal o o.fill act.Fill (λ h. h))
    (offers_either o _ _ (offers_legal o (ltb 0 o.drains) (act.Drain 0) (λ h. h)) (offers_room o o.needs)))

offers_named : (kind rarity index : ℕ) (o : Offer) → Offers o (named kind rarity index o)
unfolding named
offers_named kind rarity index o =
    offers_if o (leb 8 kind && leb kind 10) _ _ (offers_drain o index o.drains refl)
    (offers_if o (eqb kind 11) _ _ (offers_legal o o.late.0 (act.Take Even) (λ h. h))
    (offers_if o (eqb kind 12) _ _ (offers_legal o o.late.1 (act.Take Odd) (λ h. h))
    (offers_if o (eqb kind 13) _ _ (offers_drop_at o index o.drops.items refl)
    (offers_if o (eqb kind 14) _ _ (offers_legal o o.poll act.Poll (λ h. h))
    (offers_if o (eqb kind 15) _ _ (offers_legal o (o.tick && ltb rarity TICKS) act.Tick (λ h. (and_parts o.tick (ltb rarity TICKS) h).0)) tt)))))

offers_choice : (o : Offer) (word : ℕ) → Offers o (choice o word)
unfolding choice
offers_choice o word = offers_if o o.spent _ _ (offers_drain o (index_field word) o.drains refl)
    (offers_either o _ _ (offers_named (kind_field word) (rarity_field word) (index_field word) o) (offers_progress o))

-- the act that a word chooses is offered
pub chosen_is_offered : (o : Offer) (word : ℕ) (a : Act) → choice o word ≡ Some a → is_offered o a ≡ true
chosen_is_offered o word a chosen = by (choice o word) chosen (offers_choice o word) where
  by : (p : Option Act) → p ≡ Some a → Offers o p → is_offered o a ≡ true
  by None is offered = absurd cc
  by (Some b) is offered = let same : b ≡ a = cc in rw (sym same) offered

-- ---- which words choose an act

is_some-drain_of : (index n : ℕ) → is_some (drain_of index n) ≡ ltb 0 n
is_some-drain_of index zero = refl
is_some-drain_of index (suc n) = sym (lt-ltb 0 (suc n) (omega arith))

either_of_last : (p q : Option Act) → is_some q ≡ true → is_some (or_else p q) ≡ true
either_of_last None q last = last
either_of_last (Some a) q last = refl

-- where a processor is able, each word chooses an act
pub able_chooses : (o : Offer) → is_able o ≡ true → (word : ℕ) → is_some (choice o word) ≡ true
unfolding is_able choice
able_chooses o able word = by o.spent able where
  by : (spent : Bool) → cond spent (ltb 0 o.drains) (is_some (progress o)) ≡ true
      → is_some (cond spent (drain_of (index_field word) o.drains) (or_else (named (kind_field word) (rarity_field word) (index_field word) o) (progress o))) ≡ true
  by true h = is_some-drain_of (index_field word) o.drains ∙ h
  by false h = either_of_last (named (kind_field word) (rarity_field word) (index_field word) o) (progress o) h

none_named : (kind rarity index : ℕ) (o : Offer) → kind < 8 → named kind rarity index o ≡ None
unfolding named
none_named kind rarity index o low = rw (lt-leb 8 kind low, differs 11 (omega arith), differs 12 (omega arith), differs 13 (omega arith), differs 14 (omega arith), differs 15 (omega arith)) refl where
  differs : (n : ℕ) → 8 ≤ n → eqb kind n ≡ false
  differs n high = ne_eqb kind n (λ same. omega (arith, same))

-- a word that names no act chooses one exactly where every word does
pub idle_chooses : (o : Offer) (word : ℕ) → kind_field word < 8 → is_some (choice o word) ≡ is_able o
unfolding is_able choice
idle_chooses o word low = rw (none_named (kind_field word) (rarity_field word) (index_field word) o low) (by o.spent) where
  by : (spent : Bool) → is_some (cond spent (drain_of (index_field word) o.drains) (progress o)) ≡ cond spent (ltb 0 o.drains) (is_some (progress o))
  by true = is_some-drain_of (index_field word) o.drains
  by false = refl

pub able_where_all_choose : (o : Offer) → (is_able o ≡ true) ↔ ((word : ℕ) → is_some (choice o word) ≡ true)
able_where_all_choose o = (able_chooses o, λ all. sym (idle_chooses o 0 (omega arith)) ∙ all 0)

drain_is : (index n : ℕ) (a : Act) → drain_of index n ≡ Some a → a ≡ act.Drain (index % n)
drain_is index zero a h = absurd cc
drain_is index (suc n) a h = cc

-- a finished processor is given drains alone
pub finished_drains : (o : Offer) (word : ℕ) (a : Act) → o.spent ≡ true → choice o word ≡ Some a → a ≡ act.Drain (index_field word % o.drains)
unfolding choice
finished_drains o word a spent chosen = drain_is (index_field word) o.drains a (sym (rw spent refl) ∙ chosen)
