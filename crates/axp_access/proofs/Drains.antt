-- One drain more: look-ups, and room for it.
use Rattle.std.proofs.Common.{◌≡◌, ℕ, ◌+◌, ◌≤◌, Bool, true, false, ◌&&◌, eqb, List, [], ◌∷◌, ◌++◌, length, map, Some, None, refl, sym, ap, ◌∙◌, arith, ⊎_elim, cond}
use Rattle.std.specs.Option.{is_some}
use Rattle.std.specs.Prelude.{Result, Ok, Err, IfOk}
use Rattle.std.specs.Result.{is_ok}
use Rattle.std.specs.List.{list_any, IsDistinct}
use Rattle.std.specs.Set.{is_member}
use Rattle.std.specs.Cmp.{IsEquivalence}
use Rattle.std.proofs.lemmas.Bool.{cases_Bool, and_parts, and_from, or_cases, or_left, or_right, eqb-true, eq-eqb, false≢true}
use Rattle.std.proofs.lemmas.List.{map_push, length_push, length-map}
use Rattle.std.proofs.lemmas.Map.Keys.{IsDistinct-push}
use Rattle.std.proofs.lemmas.Map.Made.{length-le_from_is_member}
use Rattle.axp_base.specs.Cpus.{cpu_number}
use Rattle.axp_access.specs.declared.Access.{Access}
use Rattle.axp_access.specs.declared.Place.{Place}
use Rattle.axp_access.specs.declared.Place.TheVariants.{At, Entry, Absent}
use Rattle.axp_access.specs.Kinds.{is_plain_write}
use Rattle.axp_access.specs.declared.access_lists.Drain.{Drain}
use Rattle.axp_access.specs.Lists.{turn_in}
use Rattle.axp_access.specs.Lists.{is_write_in, is_at_entry}
use Rattle.std.specs.Vec.{vec_capacity}
use Rattle.std.specs.HashMap.{get, spare}
use Rattle.axp_access.specs.declared.access_lists.AccessList.TheInside.{Inside}
use Rattle.axp_access.specs.ListParts.{entry_key, same_entry, HasParts}

pub entries_equiv : IsEquivalence same_entry
entries_equiv = record { refl = self; symm = turn; congr = same } where
  self : (x : ℕ × ℕ) → same_entry x x ≡ true
  self x = and_from (eqb x.0 x.0) (eqb x.1 x.1) (eq-eqb x.0 x.0 refl) (eq-eqb x.1 x.1 refl)

  turn : (x y : ℕ × ℕ) → same_entry x y ≡ same_entry y x
  turn x y = rw (flip x.0 y.0, flip x.1 y.1) refl where
    flip : (a b : ℕ) → eqb a b ≡ eqb b a
    flip a b = grind arith

  same : (x y z : ℕ × ℕ) → same_entry x y ≡ true → same_entry x z ≡ same_entry y z
  same x y z e = let both = and_parts (eqb x.0 y.0) (eqb x.1 y.1) e in rw (eqb-true x.0 y.0 both.0, eqb-true x.1 y.1 both.1) refl

-- the look-up after a drain was told that was not told before
pub turn_pushed : (ds : List Drain) (d : Drain) (p n : ℕ) → turn_in ds (cpu_number d.cpu) d.entry ≡ None → turn_in (ds ++ d ∷ []) p n ≡ cond (same_entry (entry_key d) (p, n)) (Some d.turn) (turn_in ds p n)
turn_pushed [] d p n none = refl
turn_pushed (e ∷ es) d p n none =
    ⊎_elim
    (λ (mine : same_entry (entry_key e) (p, n) ≡ true). ⊎_elim
    (λ (also : same_entry (entry_key d) (p, n) ≡ true).
    let a = and_parts (eqb (cpu_number e.cpu) p) (eqb e.entry n) mine in
    let b = and_parts (eqb (cpu_number d.cpu) p) (eqb d.entry n) also in
    let one : same_entry (entry_key e) (entry_key d) ≡ true = and_from (eqb (cpu_number e.cpu) (cpu_number d.cpu)) (eqb e.entry d.entry) (eq-eqb _ _ (eqb-true _ _ a.0 ∙ sym (eqb-true _ _ b.0))) (eq-eqb _ _ (eqb-true _ _ a.1 ∙ sym (eqb-true _ _ b.1))) in
    let bad : Some e.turn ≡ None = rw one at none in cc)
    (λ (other : same_entry (entry_key d) (p, n) ≡ false). rw (mine, other) refl)
    (cases_Bool (same_entry (entry_key d) (p, n))))
    (λ (not_ : same_entry (entry_key e) (p, n) ≡ false). rw not_ (turn_pushed es d p n (rest (same_entry (entry_key e) (entry_key d)) none)))
    (cases_Bool (same_entry (entry_key e) (p, n))) where
      rest : (b : Bool) → cond b (Some e.turn) (turn_in es (cpu_number d.cpu) d.entry) ≡ None → turn_in es (cpu_number d.cpu) d.entry ≡ None
      rest true e = cc
      rest false e = e

-- a key is told exactly where there is a turn
pub told_key : (ds : List Drain) (q : ℕ × ℕ) → is_member same_entry (map entry_key ds) q ≡ is_some (turn_in ds q.0 q.1)
told_key [] q = refl
told_key (d ∷ ds) q =
    ⊎_elim
    (λ (mine : same_entry (entry_key d) q ≡ true). rw (entries_equiv.symm q (entry_key d), mine) refl)
    (λ (other : same_entry (entry_key d) q ≡ false). rw (entries_equiv.symm q (entry_key d), other) (told_key ds q))
    (cases_Bool (same_entry (entry_key d) q))

-- the entry that an access stands in
abbrev pub entry_in : Place → ℕ
entry_in (Entry n) = n
entry_in at = 0

abbrev pub access_key : Access → ℕ × ℕ
access_key a = (cpu_number a.cpu, entry_in a.place)

named_key : (xs : List Access) (q : ℕ × ℕ) → list_any (is_write_in q.0 q.1) xs ≡ true → is_member same_entry (map access_key xs) q ≡ true
named_key [] q e = e
named_key (a ∷ rest) q e =
    ⊎_elim
    (λ (here : is_write_in q.0 q.1 a ≡ true).
    let parts = and_parts (is_plain_write a.kind) (eqb (cpu_number a.cpu) q.0 && is_at_entry q.1 a.place) here in
    let both = and_parts (eqb (cpu_number a.cpu) q.0) (is_at_entry q.1 a.place) parts.1 in
    or_left (same_entry q (access_key a)) (list_any (same_entry q) (map access_key rest)) (entries_equiv.symm q (access_key a) ∙ and_from (eqb (cpu_number a.cpu) q.0) (eqb (entry_in a.place) q.1) both.0 (stands q.1 a.place both.1)))
    (λ back. or_right (same_entry q (access_key a)) (list_any (same_entry q) (map access_key rest)) (named_key rest q back))
    (or_cases (is_write_in q.0 q.1 a) (list_any (is_write_in q.0 q.1) rest) e) where
      stands : (n : ℕ) (at : Place) → is_at_entry n at ≡ true → eqb (entry_in at) n ≡ true
      stands n (Entry m) e = e
      stands n (At t) e = absurd (false≢true e)
      stands n Absent e = absurd (false≢true e)

-- the keys with one drain more are distinct
pub once_more : (ds : List Drain) (d : Drain) → IsDistinct same_entry (map entry_key ds) → turn_in ds (cpu_number d.cpu) d.entry ≡ None → IsDistinct same_entry (map entry_key (ds ++ d ∷ []))
once_more ds d once none = rw (map_push entry_key ds d) (IsDistinct-push entries_equiv (map entry_key ds) (entry_key d) once (told_key ds (entry_key d) ∙ ap is_some none))

-- and each is named
pub written_more : (xs : List Access) (ds : List Drain) (d : Drain) → ((p n : ℕ) → is_some (turn_in ds p n) ≡ true → list_any (is_write_in p n) xs ≡ true) → list_any (is_write_in (cpu_number d.cpu) d.entry) xs ≡ true → turn_in ds (cpu_number d.cpu) d.entry ≡ None → (p n : ℕ) → is_some (turn_in (ds ++ d ∷ []) p n) ≡ true → list_any (is_write_in p n) xs ≡ true
written_more xs ds d named new none p n some = ⊎_elim
    (λ (mine : same_entry (entry_key d) (p, n) ≡ true). let both = and_parts (eqb (cpu_number d.cpu) p) (eqb d.entry n) mine in rw (sym (eqb-true (cpu_number d.cpu) p both.0), sym (eqb-true d.entry n both.1)) new)
    (λ (other : same_entry (entry_key d) (p, n) ≡ false). named p n (rw (turn_pushed ds d p n none, other) at some))
    (cases_Bool (same_entry (entry_key d) (p, n)))

-- no more drains than accesses
pub drains_fit : (xs : List Access) (ds : List Drain) → IsDistinct same_entry (map entry_key ds) → ((p n : ℕ) → is_some (turn_in ds p n) ≡ true → list_any (is_write_in p n) xs ≡ true) → length ds ≤ length xs
drains_fit xs ds once named =
    let few = length-le_from_is_member entries_equiv (map entry_key ds) (map access_key xs) once (λ q told. named_key xs q (named q.0 q.1 (sym (told_key ds q) ∙ told))) in
    rw (length-map ds entry_key, length-map xs access_key) at few

-- the parts of a list that hold, with one drain more
pub holds_more : (a : Inside) (d : Drain) → HasParts a → list_any (is_write_in (cpu_number d.cpu) d.entry) a.items.items ≡ true → turn_in a.drains.items (cpu_number d.cpu) d.entry ≡ None
    → (b : Inside) → b.items ≡ a.items → b.drains.items ≡ a.drains.items ++ d ∷ [] → vec_capacity b.drains ≡ vec_capacity a.drains
    → ((q : ℕ × ℕ) → get same_entry b.turns q ≡ cond (same_entry (entry_key d) q) (Some d.turn) (get same_entry a.turns q)) → spare a.turns ≤ spare b.turns + 1
    → HasParts b
holds_more a d holds named none b items drains capacity told room = record {
  within = rw items holds.within;
  small = rw items holds.small;
  room = rw (items, capacity) holds.room;
  sound = rw items holds.sound;
  written = rw (items, drains) (written_more a.items.items a.drains.items d holds.written named none);
  once = rw drains (once_more a.drains.items d holds.once none);
  told = λ p n. told (p, n) ∙ ap (λ o. cond (same_entry (entry_key d) (p, n)) (Some d.turn) o) (holds.told p n) ∙ sym (turn_pushed a.drains.items d p n none) ∙ ap (λ ds. turn_in ds p n) (sym drains);
  spare = let before = holds.spare in rw (items, drains, length_push a.drains.items d) (omega (arith, before, room));
}

-- what holds where a result is an Ok, of one that is
pub from_ok : {T E P : Type 0} (r : Result T E) → is_ok r ≡ true → IfOk r (λ _. P) → P
from_ok (Ok x) ok p = p
from_ok (Err e) ok p = absurd (false≢true ok)
