-- Memory after one more turn: a store-conditional or an entry that is drained stands over what memory had.
use Rattle.std.proofs.Common.{true, false, ℕ, ◌+◌, ◌<◌, ◌≤◌, ◌≡◌, inr, ⊎_elim, eqb, cond, Bool, not, ◌&&◌, List, ◌∷◌, Option, Some, None, refl, sym, ap, ◌∙◌, arith}
use Rattle.std.specs.List.{AllByRecursion}
use Rattle.std.specs.Option.{option_or}
use Rattle.std.proofs.lemmas.Bool.{cases_Bool, and_parts, lt-ltb, le-leb, leb-true, eqb-true, eq-eqb, false≢true}
use Rattle.axp_base.specs.Cpus.{cpu_number}
use Rattle.axp_base.specs.declared.lines.Line.{Line}
use Rattle.axp_access.specs.declared.Access.{Access}
use Rattle.axp_access.specs.declared.Event.{Event}
use Rattle.axp_access.specs.declared.Outcome.TheVariants as outcome
use Rattle.axp_access.specs.declared.Place.{Place}
use Rattle.axp_access.specs.declared.Place.TheVariants.{At, Entry, Absent}
use Rattle.axp_access.specs.declared.Record.{Record}
use Rattle.axp_access.specs.Kinds.{has_byte, is_memory_write, is_write}
use Rattle.axp_base.specs.Lines.{line_of}
use Rattle.axp_model.specs.Turns.{turns, drained}
use Rattle.axp_model.specs.Accesses.{accesses, times}
use Rattle.axp_access.specs.Numbering.{NumberedAccess, next_access}
use Rattle.axp_access.specs.Order.{Times, Spot, spot, key, key_before, before}
use Rattle.axp_model.specs.Sources.{latest}
use Rattle.axp_model.specs.Memory.{is_placed_by, has_reached, memory_source}
use Rattle.axp_laws.proofs.RunFacts.{Fitting, KnownItem, RunFacts, PairOk}
use Rattle.axp_laws.proofs.OrderKeys.{at_key}
use Rattle.axp_laws.proofs.OrderCases.{mark}
use Rattle.axp_laws.proofs.OrderDrains.{Naming, named_or, IsNamed, IsOther, both_named}
use Rattle.axp_laws.proofs.RunSteps.{each_map, pairs_map, turn_same, naming_of, kept}
use Rattle.axp_laws.proofs.SourceStays.{latest_now}
use Rattle.axp_laws.proofs.SourceForwarded.{Below, newer_left, latest_below, first_is}
use Rattle.axp_laws.proofs.LateOthers.{each_both}
use Rattle.axp_laws.proofs.OrderPlaces.{stands_by}
use Rattle.axp_laws.proofs.SourceClosedForm.{and_same, latest_same, find_none, find_some}
use Rattle.axp_world.proofs.Agreement.{is_entry, went_into, newest_in}

-- where an access of a history stands
abbrev stand : List Record → NumberedAccess → Spot
stand h u = spot (times h) u.access.cpu.number u.access.place

-- a write that reached memory did so by the last turn
by_count : (h : List Record) (u : NumberedAccess) → KnownItem h u → (stand h u).placed ≡ true → (stand h u).last ≡ false → (stand h u).place ≤ turns h
by_count h u known = stands_by u.access.kind u.access.cpu.number (line_of u.access.address) u.parts u.access.place h known.known

is_by_more : (m n : ℕ) (s : Spot) → m ≤ n → (s.placed ≡ true → s.last ≡ false → s.place ≤ m) → is_placed_by n s ≡ is_placed_by m s
is_by_more m n s less bound = by_parts s.placed s.last refl refl where
  by_parts : (placed last : Bool) → s.placed ≡ placed → s.last ≡ last → is_placed_by n s ≡ is_placed_by m s
  by_parts false last is_placed is_last = rw is_placed refl
  by_parts true true is_placed is_last = rw (is_placed, is_last) refl
  by_parts true false is_placed is_last = rw (is_placed, is_last) (rw (le-leb s.place n (omega (arith, bound is_placed is_last)), le-leb s.place m (bound is_placed is_last)) refl)

reached_more : (h : List Record) (n at : ℕ) (u : NumberedAccess) → turns h ≤ n → KnownItem h u → has_reached (times h) n at u ≡ has_reached (times h) (turns h) at u
reached_more h n at u less known = ap (λ b. is_memory_write u.access && (has_byte at u.access && b)) (is_by_more (turns h) n (stand h u) less (by_count h u known))

-- memory is the same after any number of turns that is not below the count
pub memory_above : (h : List Record) (n at : ℕ) → RunFacts h → turns h ≤ n → memory_source (times h) n at (accesses h) ≡ memory_source (times h) (turns h) at (accesses h)
memory_above h n at k less =
    latest_same (times h) (has_reached (times h) (turns h) at) (has_reached (times h) n at) (accesses h)
    (each_map (KnownItem h) (λ u. has_reached (times h) n at u ≡ has_reached (times h) (turns h) at u) (accesses h) (λ u known. reached_more h n at u less known) k.items)

-- a record that is no drain leaves all places
times_same : (r : Record) (h : List Record) → ((q m : ℕ) → drained (r ∷ h) q m ≡ drained h q m) → times (r ∷ h) ≡ times h
times_same r h same = λ i. record { drained = λ q m. same q m i }

-- what reached memory by a turn is before what stands later
number_before : (s : Spot) (t c d n m : ℕ) (o q : Bool) → s.placed ≡ true → s.last ≡ false → s.place < t → key_before (record { spot = s; other = o; cpu = c; number = n }) (at_key t q d m) ≡ true
unfolding key_before
number_before s t c d n m o q placed last less = rw (placed, last, lt-ltb s.place t less) refl

by_parts : (n : ℕ) (s : Spot) → is_placed_by n s ≡ true → (s.placed ≡ true) × (s.last ≡ false) × (s.place ≤ n)
by_parts n s e = split s.placed s.last refl refl where
  split : (placed last : Bool) → s.placed ≡ placed → s.last ≡ last → (s.placed ≡ true) × (s.last ≡ false) × (s.place ≤ n)
  split false last is_placed is_last = let never : false ≡ true = rw is_placed at e in cc
  split true true is_placed is_last = let never : false ≡ true = rw (is_placed, is_last) at e in cc
  split true false is_placed is_last = (is_placed, is_last, leb-true s.place n (rw (is_placed, is_last) at e))

reached_parts : (t : Times) (n at : ℕ) (u : NumberedAccess) → has_reached t n at u ≡ true → (is_memory_write u.access ≡ true) × (has_byte at u.access ≡ true) × (is_placed_by n (spot t u.access.cpu.number u.access.place) ≡ true)
reached_parts t n at u e =
    let w = and_parts (is_memory_write u.access) (has_byte at u.access && is_placed_by n (spot t u.access.cpu.number u.access.place)) e in
    let b = and_parts (has_byte at u.access) (is_placed_by n (spot t u.access.cpu.number u.access.place)) w.1 in
    (w.0, b.0, b.1)

reached_from : (t : Times) (n at : ℕ) (u : NumberedAccess) → is_memory_write u.access ≡ true → has_byte at u.access ≡ true → is_placed_by n (spot t u.access.cpu.number u.access.place) ≡ true → has_reached t n at u ≡ true
reached_from t n at u w b e = rw (w, b) e

-- an access that does not write memory leaves it
pub memory_left : (e : Event) (a : Access) (h : List Record) (n at : ℕ) → RunFacts h → is_memory_write a ≡ false → turns h ≤ n
    → memory_source (times (record { event = e; outcome = outcome.Access a } ∷ h)) n at (accesses (record { event = e; outcome = outcome.Access a } ∷ h)) ≡ memory_source (times h) (turns h) at (accesses h)
memory_left e a h n at k none less =
    let r : Record = record { event = e; outcome = outcome.Access a } in
    ap (λ t. memory_source t n at (next_access (accesses h) a ∷ accesses h)) (times_same r h (turn_same r h (λ m. refl)))
    ∙ rw none (memory_above h n at k less)

-- a write that is the next turn stands over all
stored_over : (h : List Record) (at : ℕ) (u : NumberedAccess) → RunFacts h → is_memory_write u.access ≡ true → u.access.place ≡ At (turns h + 1)
    → latest (times h) (has_reached (times h) (turns h + 1) at) (u ∷ accesses h) ≡ cond (has_byte at u.access) (Some u) (memory_source (times h) (turns h) at (accesses h))
stored_over h at u k w place =
    ⊎_elim
    (λ (b : has_byte at u.access ≡ true).
    let here : is_placed_by (turns h + 1) (stand h u) ≡ true = rw place (le-leb (turns h + 1) (turns h + 1) (omega arith)) in
    rw (reached_from (times h) (turns h + 1) at u w b here)
    (rw b (newer_left (times h) u (latest (times h) (has_reached (times h) (turns h + 1) at) (accesses h)) (λ y is. inr (latest_below (times h) (has_reached (times h) (turns h + 1) at) u (accesses h) each y is)))))
    (λ (b : has_byte at u.access ≡ false). rw w (rw b (memory_above h (turns h + 1) at k (omega arith))))
    (cases_Bool (has_byte at u.access)) where
      below : (x : NumberedAccess) → KnownItem h x → Below (times h) (has_reached (times h) (turns h + 1) at) u x
      below x known e =
          let parts = by_parts (turns h + 1) (stand h x) (reached_parts (times h) (turns h + 1) at x e).2 in
          ap (λ p. key_before (key (times h) x) (record { spot = spot (times h) u.access.cpu.number p; other = not (is_write u.access); cpu = u.access.cpu.number; number = u.number })) place
          ∙ number_before (stand h x) (turns h + 1) x.access.cpu.number u.access.cpu.number x.number u.number (not (is_write x.access)) (not (is_write u.access)) parts.0 parts.1 (omega (arith, by_count h x known parts.0 parts.1))

      each : AllByRecursion (Below (times h) (has_reached (times h) (turns h + 1) at) u) (accesses h)
      each = each_map (KnownItem h) (Below (times h) (has_reached (times h) (turns h + 1) at) u) (accesses h) below k.items

pub memory_stored : (e : Event) (a : Access) (h : List Record) (at : ℕ) → RunFacts h → is_memory_write a ≡ true → a.place ≡ At (turns h + 1)
    → memory_source (times (record { event = e; outcome = outcome.Access a } ∷ h)) (turns h + 1) at (accesses (record { event = e; outcome = outcome.Access a } ∷ h))
    ≡ cond (has_byte at a) (Some (next_access (accesses h) a)) (memory_source (times h) (turns h) at (accesses h))
memory_stored e a h at k w place =
    let r : Record = record { event = e; outcome = outcome.Access a } in
    ap (λ t. memory_source t (turns h + 1) at (next_access (accesses h) a ∷ accesses h)) (times_same r h (turn_same r h (λ m. refl)))
    ∙ stored_over h at (next_access (accesses h) a) k w place

-- a drain: a write of the entry that it names
pub went_parts : (p n at : ℕ) (u : NumberedAccess) → went_into p n at u ≡ true → IsNamed p n u × (is_memory_write u.access ≡ true) × (has_byte at u.access ≡ true)
went_parts p n at u e =
    let c = and_parts (eqb u.access.cpu.number p) (is_memory_write u.access && (has_byte at u.access && is_entry n u.access.place)) e in
    let w = and_parts (is_memory_write u.access) (has_byte at u.access && is_entry n u.access.place) c.1 in
    let b = and_parts (has_byte at u.access) (is_entry n u.access.place) w.1 in
    ((eqb-true u.access.cpu.number p c.0, place u.access.place b.1), w.0, b.0) where
      place : (s : Place) → is_entry n s ≡ true → s ≡ Entry n
      place (At t) is = cc
      place Absent is = cc
      place (Entry m) is = ap (λ x. Entry x) (eqb-true m n is)

went_from : (p n at : ℕ) (u : NumberedAccess) → IsNamed p n u → is_memory_write u.access ≡ true → has_byte at u.access ≡ true → went_into p n at u ≡ true
went_from p n at u named w b = rw (w, b, named.0, named.1) (rw (eq-eqb p p refl, eq-eqb n n refl) refl)

-- a named write had not reached memory, and now has
was_waiting : (h : List Record) (now : Times) (p n at m : ℕ) (u : NumberedAccess) → Naming (times h) now p n (turns h + 1) → IsNamed p n u → has_reached (times h) m at u ≡ true → ⊥
was_waiting h now p n at m u naming named e =
    let never : is_placed_by m (stand h u) ≡ false = rw (named.0, named.1) (rw naming.was refl) in
    false≢true (sym never ∙ (reached_parts (times h) m at u e).2)

now_there : (h : List Record) (now : Times) (p n : ℕ) (u : NumberedAccess) → Naming (times h) now p n (turns h + 1) → IsNamed p n u → is_placed_by (turns h + 1) (spot now u.access.cpu.number u.access.place) ≡ true
now_there h now p n u naming named = rw (named.0, named.1) (rw naming.is (le-leb (turns h + 1) (turns h + 1) (omega arith)))

-- any other stands as before
other_reached : (h : List Record) (now : Times) (p n at : ℕ) (u : NumberedAccess) → IsOther (times h) now p n u → KnownItem h u → has_reached now (turns h + 1) at u ≡ has_reached (times h) (turns h) at u
other_reached h now p n at u other known =
    ap (λ s. is_memory_write u.access && (has_byte at u.access && is_placed_by (turns h + 1) s)) other.1 ∙ reached_more h (turns h + 1) at u (omega arith) known

-- where no write of the entry has the byte
none_reached : (h : List Record) (now : Times) (p n at : ℕ) (u : NumberedAccess) → Naming (times h) now p n (turns h + 1) → KnownItem h u → went_into p n at u ≡ false → has_reached now (turns h + 1) at u ≡ has_reached (times h) (turns h) at u
none_reached h now p n at u naming known none =
    and_same (is_memory_write u.access) (has_byte at u.access) (is_placed_by (turns h + 1) (spot now u.access.cpu.number u.access.place)) (is_placed_by (turns h) (stand h u))
    (λ w b. ⊎_elim
    (λ (named : IsNamed p n u). absurd (false≢true (sym none ∙ went_from p n at u named w b)))
    (λ (other : IsOther (times h) now p n u). ap (is_placed_by (turns h + 1)) other.1 ∙ is_by_more (turns h) (turns h + 1) (stand h u) (omega arith) (by_count h u known))
    (named_or (times h) now p n (turns h + 1) u.access.cpu.number u.access.place naming))

none_order : (h : List Record) (now : Times) (p n at : ℕ) (y x : NumberedAccess) → Naming (times h) now p n (turns h + 1) → has_reached (times h) (turns h) at y ≡ true → has_reached (times h) (turns h) at x ≡ true → before now y x ≡ before (times h) y x
none_order h now p n at y x naming ry rx =
    ⊎_elim
    (λ (named : IsNamed p n y). absurd (was_waiting h now p n at (turns h) y naming named ry))
    (λ (yo : IsOther (times h) now p n y).
    ⊎_elim
    (λ (named : IsNamed p n x). absurd (was_waiting h now p n at (turns h) x naming named rx))
    (λ (xo : IsOther (times h) now p n x). rw (yo.1, xo.1) refl)
    (named_or (times h) now p n (turns h + 1) x.access.cpu.number x.access.place naming))
    (named_or (times h) now p n (turns h + 1) y.access.cpu.number y.access.place naming)

-- what reached memory, and is not named, is before a named write
other_below : (h : List Record) (now : Times) (p n at : ℕ) (u x : NumberedAccess) → Naming (times h) now p n (turns h + 1) → IsNamed p n u → IsOther (times h) now p n x → KnownItem h x → has_reached now (turns h + 1) at x ≡ true → before now x u ≡ true
other_below h now p n at u x naming named other known e =
    let was : has_reached (times h) (turns h) at x ≡ true = sym (other_reached h now p n at x other known) ∙ e in
    let parts = by_parts (turns h) (stand h x) (reached_parts (times h) (turns h) at x was).2 in
    rw (other.1, named.0, named.1, naming.is) (number_before (stand h x) (turns h + 1) x.access.cpu.number p x.number u.number (mark x.access) (mark u.access) parts.0 parts.1 (omega (arith, parts.2)))

drained_source : (h : List Record) (now : Times) (p n at : ℕ) → Naming (times h) now p n (turns h + 1) → RunFacts h → (o : Option NumberedAccess) → newest_in p n at h ≡ o
    → memory_source now (turns h + 1) at (accesses h) ≡ option_or o (memory_source (times h) (turns h) at (accesses h))
drained_source h now p n at naming k None found =
    latest_now (times h) now (has_reached (times h) (turns h) at) (has_reached now (turns h + 1) at) (accesses h)
    (each_both (KnownItem h) (λ u. went_into p n at u ≡ false) (λ u. has_reached now (turns h + 1) at u ≡ has_reached (times h) (turns h) at u) (accesses h)
    (λ u known none. none_reached h now p n at u naming known none) k.items (find_none (went_into p n at) (accesses h) found))
    (pairs_map (KnownItem h) (PairOk (times h)) (λ y x. has_reached (times h) (turns h) at y ≡ true → has_reached (times h) (turns h) at x ≡ true → before now y x ≡ before (times h) y x) (accesses h)
    (λ y x ky kx ok ry rx. none_order h now p n at y x naming ry rx) k.items k.pairs)
drained_source h now p n at naming k (Some u) found =
    let there = find_some (went_into p n at) (KnownItem h) (accesses h) u found k.items in
    let named : IsNamed p n u = (went_parts p n at u there.1).0 in
    first_is now (has_reached now (turns h + 1) at) (went_into p n at) u (accesses h)
    (each_map (KnownItem h) (λ x. went_into p n at x ≡ true → has_reached now (turns h + 1) at x ≡ true) (accesses h)
    (λ x known went. let parts = went_parts p n at x went in reached_from now (turns h + 1) at x parts.1 parts.2 (now_there h now p n x naming parts.0)) k.items)
    (each_map (KnownItem h) (λ x. went_into p n at x ≡ false → Below now (has_reached now (turns h + 1) at) u x) (accesses h)
    (λ x known not_in e. ⊎_elim
    (λ (its : IsNamed p n x). let parts = reached_parts now (turns h + 1) at x e in absurd (false≢true (sym not_in ∙ went_from p n at x its parts.0 parts.1)))
    (λ (other : IsOther (times h) now p n x). other_below h now p n at u x naming named other known e)
    (named_or (times h) now p n (turns h + 1) x.access.cpu.number x.access.place naming)) k.items)
    (pairs_map (KnownItem h) (PairOk (times h)) (λ y x. went_into p n at x ≡ true → Below now (has_reached now (turns h + 1) at) x y) (accesses h)
    (λ y x ky kx ok went e. let its : IsNamed p n x = (went_parts p n at x went).0 in ⊎_elim
    (λ (yn : IsNamed p n y). both_named h p n now y x naming ky kx ok.first yn its)
    (λ (yo : IsOther (times h) now p n y). other_below h now p n at x y naming its yo ky e)
    (named_or (times h) now p n (turns h + 1) y.access.cpu.number y.access.place naming)) k.items k.pairs)
    found

pub memory_drained : (e : Event) (n t : ℕ) (l : Line) (h : List Record) (at : ℕ) → Fitting (record { event = e; outcome = outcome.Drained n l t } ∷ h)
    → memory_source (times (record { event = e; outcome = outcome.Drained n l t } ∷ h)) (turns h + 1) at (accesses h) ≡ option_or (newest_in (cpu_number e.cpu) n at h) (memory_source (times h) (turns h) at (accesses h))
memory_drained e n t l h at fit =
    let k = kept h fit.1 in
    drained_source h (times (record { event = e; outcome = outcome.Drained n l t } ∷ h)) (cpu_number e.cpu) n at (naming_of e n t l h fit.0.1 k) k (newest_in (cpu_number e.cpu) n at h) refl
