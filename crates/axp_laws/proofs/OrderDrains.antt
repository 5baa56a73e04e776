-- A drain leaves each pair in order.
use Rattle.std.proofs.Common.{true, false, zero, suc, ℕ, ◌+◌, ◌<◌, ◌≤◌, ◌≡◌, ◌⊎◌, inl, inr, ⊎_elim, eqb, Bool, ◌&&◌, List, [], ◌∷◌, slice_get, Option, Some, None, refl, ap, ◌∙◌, subst, arith}
use Rattle.std.proofs.lemmas.Bool.{cases_Bool, cases_eq, and_parts, or_cases, or_right, eqb-true, eq-eqb, false≢true}
use Rattle.std.specs.declared.cmp.Ordering.{Ordering}
use Rattle.std.specs.Ordering.{ordering_then, nat_cmp, bool_cmp, is_lt}
use Rattle.axp_regs.specs.declared.asks.Kind.{Kind}
use Rattle.axp_regs.specs.declared.asks.Kind.TheVariants as kind
use Rattle.axp_access.specs.declared.Place.{Place}
use Rattle.axp_access.specs.declared.Place.TheVariants.{At, Entry, Absent}
use Rattle.axp_access.specs.declared.Record.{Record}
use Rattle.axp_base.specs.Lines.{line_of}
use Rattle.axp_model.specs.Turns.{turns, drained}
use Rattle.axp_model.specs.Entries.{Waiting, least_age, of_age}
use Rattle.axp_model.specs.Accesses.{times}
use Rattle.axp_access.specs.Numbering.{NumberedAccess}
use Rattle.axp_access.specs.Order.{Times, spot, spot_at, Key, key, key_cmp, key_before, before}
use Rattle.axp_laws.proofs.RunFacts.{waits, Known, KnownItem}
use Rattle.axp_laws.proofs.OrderCounts.{AtMostO, drained_most}
use Rattle.axp_laws.proofs.OrderKeys.{at_key, last_key, at_less, at_same}
use Rattle.axp_laws.proofs.OrderCases.{key_at, mark, most_of}

-- an access that stands at an entry is a plain write
pub entry_write : (k : Kind) (p l g n : ℕ) (h : List Record) → Known k p l g (Entry n) h → k ≡ kind.Write
entry_write kind.Write p l g n h known = refl
entry_write kind.WriteBarrier p l g n h known = cc
entry_write kind.CodeBarrier p l g n h known = absurd known.0
entry_write _ p l g n h known = absurd known

pub least_most : (n l g : ℕ) (es : List Waiting) → waits n l g es ≡ true → least_age es ≤ g
least_most n l g [] e = absurd (false≢true e)
least_most n l g (x ∷ []) e = ⊎_elim (λ here. let age : x.age ≡ g = eqb-true x.age g (and_parts (eqb x.line.number l) (eqb x.age g) (and_parts (eqb x.number n) (eqb x.line.number l && eqb x.age g) here).1).1 in omega arith) (λ there. absurd (false≢true there)) (or_cases (eqb x.number n && (eqb x.line.number l && eqb x.age g)) false e)
least_most n l g (x ∷ y ∷ es) e =
    ⊎_elim
    (λ here. let age : x.age ≡ g = eqb-true x.age g (and_parts (eqb x.line.number l) (eqb x.age g) (and_parts (eqb x.number n) (eqb x.line.number l && eqb x.age g) here).1).1 in omega arith)
    (λ there. omega (arith, least_most n l g (y ∷ es) there))
    (or_cases (eqb x.number n && (eqb x.line.number l && eqb x.age g)) (waits n l g (y ∷ es)) e)

of_age_here : (g k : ℕ) (e x : Waiting) (es : List Waiting) → eqb x.age g ≡ true → ((j : ℕ) → slice_get (of_age g es) j ≡ Some e → waits e.number e.line.number g es ≡ true) → slice_get (x ∷ of_age g es) k ≡ Some e → waits e.number e.line.number g (x ∷ es) ≡ true
of_age_here g zero e x es taken rest s =
    let same : x ≡ e = cc in
    let itself : waits x.number x.line.number g (x ∷ es) ≡ true = rw (eq-eqb x.number x.number refl, eq-eqb x.line.number x.line.number refl, taken) refl in
    subst (λ (z : Waiting). waits z.number z.line.number g (x ∷ es) ≡ true) same itself
of_age_here g (suc k) e x es taken rest s = or_right (eqb x.number e.number && (eqb x.line.number e.line.number && eqb x.age g)) (waits e.number e.line.number g es) (rest k s)

-- the k-th of the entries of an age waits with that age
pub of_age_waits : (g k : ℕ) (e : Waiting) (es : List Waiting) → slice_get (of_age g es) k ≡ Some e → waits e.number e.line.number g es ≡ true
of_age_waits g k e [] s = cc
of_age_waits g k e (x ∷ es) s =
    ⊎_elim
    (λ taken. of_age_here g k e x es taken (λ j. of_age_waits g j e es) (rw taken at s))
    (λ left. or_right (eqb x.number e.number && (eqb x.line.number e.line.number && eqb x.age g)) (waits e.number e.line.number g es) (of_age_waits g k e es (rw left at s)))
    (cases_Bool (eqb x.age g))

-- what a drain names: turn is before it, now after it
pub record Naming (turn now : Times) (p n T : ℕ) : Type 0 where
  pub was : turn.drained p n ≡ None
  pub is : now.drained p n ≡ Some T
  pub other : (q m : ℕ) → ((q ≡ p) × (m ≡ n) → ⊥) → now.drained q m ≡ turn.drained q m

entry_of : (m n : ℕ) → Entry m ≡ Entry n → m ≡ n
entry_of m n e = cc

-- an access is named, or stands as before
pub named_or : (turn now : Times) (p n T q : ℕ) (at : Place) → Naming turn now p n T → ((q ≡ p) × (at ≡ Entry n)) ⊎ (((q ≡ p) × (at ≡ Entry n) → ⊥) × (spot now q at ≡ spot turn q at))
named_or turn now p n T q (At t) naming = inr (λ e. let x : At t ≡ Entry n = e.1 in cc, refl)
named_or turn now p n T q Absent naming = inr (λ e. let x : Absent ≡ Entry n = e.1 in cc, refl)
named_or turn now p n T q (Entry m) naming =
    ⊎_elim
    (λ same. ⊎_elim
    (λ also. inl (also, ap (λ x. Entry x) same))
    (λ differs. inr (λ e. differs e.0, rw (naming.other q m (λ e. differs e.0)) refl))
    (cases_eq q p))
    (λ differs. inr (λ e. differs (entry_of m n e.1), rw (naming.other q m (λ e. differs e.1)) refl))
    (cases_eq m n)

pub last_is : (b : Bool) (o : Ordering) → is_lt (ordering_then (bool_cmp true b) o) ≡ true → b ≡ true
last_is true o e = refl
last_is false o e = e

-- what follows one that is last is last
pub after_last : (o : Bool) (c n : ℕ) (b : Key) → key_before (last_key o c n) b ≡ true → (b.spot.placed ≡ true) × (b.spot.last ≡ true)
unfolding key_before
after_last o c n b e =
    let parts = and_parts (true && b.spot.placed) (is_lt (key_cmp (last_key o c n) b)) e in
    (parts.0, last_is b.spot.last (ordering_then (nat_cmp 0 b.spot.place) (ordering_then (bool_cmp o b.other) (ordering_then (nat_cmp c b.cpu) (nat_cmp n b.number)))) parts.1)

pub at_before_last : (t c n : ℕ) (o : Bool) (b : Key) → b.spot.placed ≡ true → b.spot.last ≡ true → key_before (at_key t o c n) b ≡ true
unfolding key_before
at_before_last t c n o b placed last = rw (placed, last) refl

at_bound : (k : Kind) (q l g t : ℕ) (h : List Record) → Known k q l g (At t) h → t ≤ turns h
at_bound kind.Write q l g t h known = absurd known
at_bound kind.WriteBarrier q l g t h known = cc
at_bound k q l g t h known = most_of k q l g (At t) h refl known

entry_less : (q d T : ℕ) (o : Option ℕ) (s nu nv : ℕ) (x w : Bool) → AtMostO T o → (o ≡ None → ⊥) → T < s → key_before (record { spot = spot_at o; other = x; cpu = q; number = nu }) (at_key s w d nv) ≡ true
entry_less q d T None s nu nv x w most some less = absurd (some refl)
entry_less q d T (Some t) s nu nv x w most some less = at_less t s q d nu nv x w (omega arith)

-- what does not wait is before the next turn
pub u_before : (k : Kind) (q l g : ℕ) (at : Place) (h : List Record) (x w : Bool) (nu d nv : ℕ) → Known k q l g at h → (spot (times h) q at).placed ≡ true → ((m : ℕ) → at ≡ Entry m → drained h q m ≡ None → ⊥) → key_before (key_at (times h) q at x nu) (at_key (turns h + 1) w d nv) ≡ true
u_before k q l g (At t) h x w nu d nv known placed gone = at_less t (turns h + 1) q d nu nv x w (omega (arith, at_bound k q l g t h known))
u_before k q l g (Entry m) h x w nu d nv known placed gone = entry_less q d (turns h) (drained h q m) (turns h + 1) nu nv x w (drained_most q m h) (gone m refl) (omega arith)
u_before k q l g Absent h x w nu d nv known placed gone = absurd (false≢true placed)

pub first_placed : (a b : Key) → key_before a b ≡ true → a.spot.placed ≡ true
unfolding key_before
first_placed a b e = (and_parts a.spot.placed b.spot.placed (and_parts (a.spot.placed && b.spot.placed) (is_lt (key_cmp a b)) e).0).0

abbrev pub IsNamed : ℕ → ℕ → NumberedAccess → Type 0
IsNamed p n u = (u.access.cpu.number ≡ p) × (u.access.place ≡ Entry n)

abbrev pub IsOther : Times → Times → ℕ → ℕ → NumberedAccess → Type 0
IsOther turn now p n u = (IsNamed p n u → ⊥) × (spot now u.access.cpu.number u.access.place ≡ spot turn u.access.cpu.number u.access.place)

kind_named : (h : List Record) (p n : ℕ) (u : NumberedAccess) → KnownItem h u → IsNamed p n u → u.access.kind ≡ kind.Write
kind_named h p n u ku un = entry_write u.access.kind u.access.cpu.number (line_of u.access.address) u.parts n h (rw un.1 at ku.known)

pub both_named : (h : List Record) (p n : ℕ) (now : Times) (u v : NumberedAccess) → Naming (times h) now p n (turns h + 1) → KnownItem h u → KnownItem h v → u.number < v.number → IsNamed p n u → IsNamed p n v → before now u v ≡ true
both_named h p n now u v naming ku kv later un vn =
    let x = kind_named h p n u ku un in
    let y = kind_named h p n v kv vn in
    rw (un.1, un.0, vn.1, vn.0, naming.is, x, y) (at_same (turns h + 1) p u.number v.number false later)

late_named : (h : List Record) (p n : ℕ) (now : Times) (u v : NumberedAccess) → Naming (times h) now p n (turns h + 1) → KnownItem h u → ((m : ℕ) → u.access.place ≡ Entry m → v.access.place ≡ Entry n → v.access.cpu.number ≡ p → drained h u.access.cpu.number m ≡ None → (m ≡ n → ⊥) → ⊥) → before (times h) u v ≡ true → u.access.cpu.number ≡ v.access.cpu.number → IsOther (times h) now p n u → IsNamed p n v → before now u v ≡ true
late_named h p n now u v naming ku apart old same uo vn =
    rw (vn.1, vn.0, naming.is, uo.1)
    (u_before u.access.kind u.access.cpu.number (line_of u.access.address) u.parts u.access.place h (mark u.access) (mark v.access) u.number p v.number ku.known (first_placed (key (times h) u) (key (times h) v) old)
    (λ m is none. apart m is vn.1 vn.0 none (λ e. uo.0 (same ∙ vn.0, is ∙ ap (λ x. Entry x) e))))

early_named : (h : List Record) (p n : ℕ) (now : Times) (u v : NumberedAccess) → Naming (times h) now p n (turns h + 1) → before (times h) u v ≡ true → IsNamed p n u → IsOther (times h) now p n v → before now u v ≡ true
early_named h p n now u v naming old un vo =
    let was : key_before (last_key (mark u.access) p u.number) (key (times h) v) ≡ true = rw (un.1, un.0, naming.was) at old in
    let both = after_last (mark u.access) p u.number (key (times h) v) was in
    rw (un.1, un.0, naming.is, vo.1) (at_before_last (turns h + 1) p u.number (mark u.access) (key (times h) v) both.0 both.1)

pub drain_pair : (h : List Record) (p n : ℕ) (now : Times) (u v : NumberedAccess) → Naming (times h) now p n (turns h + 1) → KnownItem h u → KnownItem h v → u.access.cpu.number ≡ v.access.cpu.number → u.number < v.number → ((m : ℕ) → u.access.place ≡ Entry m → v.access.place ≡ Entry n → v.access.cpu.number ≡ p → drained h u.access.cpu.number m ≡ None → (m ≡ n → ⊥) → ⊥) → before (times h) u v ≡ true → before now u v ≡ true
drain_pair h p n now u v naming ku kv same later apart old =
    ⊎_elim
    (λ vn. ⊎_elim (λ un. both_named h p n now u v naming ku kv later un vn) (λ uo. late_named h p n now u v naming ku apart old same uo vn) (named_or (times h) now p n (turns h + 1) u.access.cpu.number u.access.place naming))
    (λ vo. ⊎_elim (λ un. early_named h p n now u v naming old un vo) (λ uo. rw (uo.1, vo.1) old) (named_or (times h) now p n (turns h + 1) u.access.cpu.number u.access.place naming))
    (named_or (times h) now p n (turns h + 1) v.access.cpu.number v.access.place naming)
