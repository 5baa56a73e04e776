-- A new access keeps the issue constraint with each earlier one.
use Rattle.std.proofs.Common.{true, false, ℕ, ◌+◌, ◌<◌, ◌≤◌, ◌≡◌, ⊎_elim, eqb, ltb, Bool, not, ◌&&◌, ◌||◌, List, [], ◌∷◌, Option, Some, None, refl, sym, ◌∙◌, subst, arith}
use Rattle.std.proofs.lemmas.Bool.{cond_both, cases_Bool, and_parts, or_parts, or_cases, or_right, not-true, ltb-true, false≢true}
use Rattle.axp_base.specs.declared.processors.Cpu.{Cpu}
use Rattle.axp_regs.specs.declared.asks.Kind.{Kind}
use Rattle.axp_regs.specs.declared.asks.Kind.TheVariants as kind
use Rattle.axp_access.specs.declared.Place.{Place}
use Rattle.axp_access.specs.declared.Place.TheVariants.{At, Entry, Absent}
use Rattle.axp_access.specs.declared.Access.{Access}
use Rattle.axp_access.specs.declared.Record.{Record}
use Rattle.axp_model.specs.Records.{is_of, fills_code, code_fences, drops_code}
use Rattle.axp_access.specs.Kinds.{is_write}
use Rattle.axp_base.specs.Lines.{line_of}
use Rattle.axp_model.specs.Turns.{turns, stamp, barrier, code_barrier, code_stamp, read_place, drained}
use Rattle.axp_model.specs.Entries.{Waiting, buffer, has_line, entry_for}
use Rattle.axp_model.specs.Accesses.{times}
use Rattle.axp_access.specs.Order.{Times, spot, spot_at, Key, key_before, before}
use Rattle.axp_model.specs.Late.{code_held}
use Rattle.axp_model.specs.Issue.{share_a_byte, is_demanded}
use Rattle.axp_laws.proofs.RunFacts.{Fits, AtMost, waits, Goes, Known}
use Rattle.axp_model.specs.Processors.{IsInLine}
use Rattle.axp_laws.proofs.OrderCounts.{stamp_most, barrier_most, code_barrier_most, code_stamp_most, read_place_most, drained_most, AtMostO}
use Rattle.axp_laws.proofs.OrderKeys.{at_key, last_key, at_less, at_last, at_upto, last_last}

code_kept : (p l : ℕ) (r : Record) (h : List Record) → is_of p r ≡ true → fills_code l r.outcome ≡ false → (code_held p l h ≡ true → code_barrier p h ≤ code_stamp p l h) → code_held p l (r ∷ h) ≡ true → code_barrier p (r ∷ h) ≤ code_stamp p l (r ∷ h)
code_kept p l r h own other before e =
    let kept : (code_held p l h && not (drops_code l r.event.act || code_fences r.outcome)) ≡ true = rw (own, other) at e in
    let parts = and_parts (code_held p l h) (not (drops_code l r.event.act || code_fences r.outcome)) kept in
    let none : code_fences r.outcome ≡ false = (or_parts (drops_code l r.event.act) (code_fences r.outcome) (not-true (drops_code l r.event.act || code_fences r.outcome) parts.1)).1 in
    rw (own, other, none) (before parts.0)

code_new : (p l : ℕ) (r : Record) (h : List Record) → is_of p r ≡ true → fills_code l r.outcome ≡ true → code_barrier p (r ∷ h) ≤ code_stamp p l (r ∷ h)
code_new p l r h own filled =
    let top : code_barrier p (r ∷ h) ≤ turns h = cond_both (is_of p r && code_fences r.outcome) (turns h) (code_barrier p h) (λ x. x ≤ turns h) (λ _. omega arith) (λ _. code_barrier_most p h) in
    let here : code_stamp p l (r ∷ h) ≡ turns h = rw (own, filled) refl in
    omega (arith, top, here)

-- a code copy is younger than the last IMB
pub code_held_after : (p l : ℕ) (h : List Record) → code_held p l h ≡ true → code_barrier p h ≤ code_stamp p l h
code_held_after p l [] e = cc
code_held_after p l (r ∷ h) e =
    ⊎_elim
    (λ own. ⊎_elim (λ filled. code_new p l r h own filled) (λ other. code_kept p l r h own other (code_held_after p l h) e) (cases_Bool (fills_code l r.outcome)))
    (λ foreign. rw foreign (code_held_after p l h (rw foreign at e))) (cases_Bool (is_of p r))

-- overlapping accesses are of one line
pub overlap_line : (a s b t : ℕ) → IsInLine a s → IsInLine b t → (ltb a (b + t) && ltb b (a + s)) ≡ true → line_of a ≡ line_of b
overlap_line a s b t i j e =
    let parts = and_parts (ltb a (b + t)) (ltb b (a + s)) e in
    let x : a < b + t = ltb-true a (b + t) parts.0 in
    let y : b < a + s = ltb-true b (a + s) parts.1 in
    omega arith

abbrev pub key_at : Times → ℕ → Place → Bool → ℕ → Key
key_at turn p at o n = record { spot = spot turn p at; other = o; cpu = p; number = n }

pub upto_v : (turn : Times) (p q : ℕ) (at : Place) (n s nu nv : ℕ) (o : Bool) → p ≡ q → AtMost n at → n ≤ s → nu < nv → key_before (key_at turn p at o nu) (at_key s true q nv) ≡ true
upto_v turn p q (At t) n s nu nv o same most less later = rw (sym same) (at_upto t s p nu nv o (omega arith) later)
upto_v turn p q (Entry m) n s nu nv o same most less later = absurd most
upto_v turn p q Absent n s nu nv o same most less later = absurd most

pub less_v : (turn : Times) (p q : ℕ) (at : Place) (n s nu nv : ℕ) (o w : Bool) → AtMost n at → n < s → key_before (key_at turn p at o nu) (at_key s w q nv) ≡ true
less_v turn p q (At t) n s nu nv o w most less = at_less t s p q nu nv o w (omega arith)
less_v turn p q (Entry m) n s nu nv o w most less = absurd most
less_v turn p q Absent n s nu nv o w most less = absurd most

pub last_v : (turn : Times) (p q : ℕ) (at : Place) (n nu nv : ℕ) (o w : Bool) → AtMost n at → key_before (key_at turn p at o nu) (last_key w q nv) ≡ true
last_v turn p q (At t) n nu nv o w most = at_last t p q nu nv o w
last_v turn p q (Entry m) n nu nv o w most = absurd most
last_v turn p q Absent n nu nv o w most = absurd most

-- a pending write and one that comes now
pub wait_v : (p q : ℕ) (o : Option ℕ) (nu nv : ℕ) → p ≡ q → nu < nv → key_before (record { spot = spot_at o; other = false; cpu = p; number = nu }) (last_key false q nv) ≡ true
wait_v p q None nu nv same later = rw (sym same) (last_last p nu nv false later)
wait_v p q (Some t) nu nv same later = at_last t p q nu nv false false

-- a drained write and what stands at a place of now
pub done_upto : (p q T : ℕ) (o : Option ℕ) (s nu nv : ℕ) → p ≡ q → AtMostO T o → (o ≡ None → ⊥) → T ≤ s → nu < nv → key_before (record { spot = spot_at o; other = false; cpu = p; number = nu }) (at_key s true q nv) ≡ true
done_upto p q T None s nu nv same most some less later = absurd (some refl)
done_upto p q T (Some t) s nu nv same most some less later = rw (sym same) (at_upto t s p nu nv false (omega arith) later)

pub done_less : (p q T : ℕ) (o : Option ℕ) (s nu nv : ℕ) (w : Bool) → AtMostO T o → (o ≡ None → ⊥) → T < s → key_before (record { spot = spot_at o; other = false; cpu = p; number = nu }) (at_key s w q nv) ≡ true
done_less p q T None s nu nv w most some less = absurd (some refl)
done_less p q T (Some t) s nu nv w most some less = at_less t s p q nu nv false w (omega arith)

pub waits_line : (n l g : ℕ) (es : List Waiting) → waits n l g es ≡ true → has_line l es ≡ true
waits_line n l g [] e = e
waits_line n l g (x ∷ es) e =
    ⊎_elim
    (λ here. rw (and_parts (eqb x.line.number l) (eqb x.age g) (and_parts (eqb x.number n) (eqb x.line.number l && eqb x.age g) here).1).0 refl)
    (λ there. or_right (eqb x.line.number l) (has_line l es) (waits_line n l g es there))
    (or_cases (eqb x.number n && (eqb x.line.number l && eqb x.age g)) (waits n l g es) e)

-- what is known of an access, but for a plain write and a WMB
abbrev pub is_loose : Kind → Bool
is_loose kind.Write = true
is_loose kind.WriteBarrier = true
is_loose _ = false

pub at_most_up : (m n : ℕ) (at : Place) → m ≤ n → AtMost m at → AtMost n at
at_most_up m n (At t) less most = omega arith
at_most_up m n (Entry e) less most = most
at_most_up m n Absent less most = most

pub most_of : (k : Kind) (p l g : ℕ) (at : Place) (h : List Record) → is_loose k ≡ false → Known k p l g at h → AtMost (turns h) at
most_of kind.Fetch p l g at h e known = at_most_up (code_stamp p l h) (turns h) at (code_stamp_most p l h) known
most_of kind.Read p l g at h e known = at_most_up (read_place p l h) (turns h) at (read_place_most p l h) known
most_of kind.Locked p l g at h e known = at_most_up (stamp p l h) (turns h) at (stamp_most p l h) known
most_of kind.Write p l g at h e known = cc
most_of kind.Conditional p l g at h e known = known
most_of kind.Barrier p l g at h e known = at_most_up (barrier p h) (turns h) at (barrier_most p h) known
most_of kind.CodeBarrier p l g at h e known = at_most_up (barrier p h) (turns h) at (barrier_most p h) known.0
most_of kind.WriteBarrier p l g at h e known = cc
most_of kind.Signal p l g at h e known = known
most_of kind.Console p l g at h e known = known
most_of kind.Poll p l g at h e known = known

abbrev pub acc : Cpu → Kind → ℕ → ℕ → ℕ → Bool → Place → Access
acc c k a s x y at = record { cpu = c; kind = k; address = a; size = s; value = x; yes = y; place = at }

-- the other mark of u, whatever it is
abbrev pub mark : Access → Bool
mark u = not (is_write u)

-- the overlap, of what it computes to
pub true_or_false : (b : Bool) → (b || false) ≡ true → b ≡ true
true_or_false true e = refl
true_or_false false e = e

-- a fetch
new_fetch : (k : Kind) (turn : Times) (h : List Record) (g : ℕ) (c d : Cpu) (a s x b t z nu nv : ℕ) (y w : Bool) (at : Place) → c.number ≡ d.number → nu < nv → IsInLine a s → IsInLine b t → Known k c.number (line_of a) g at h → code_held d.number (line_of b) h ≡ true → is_demanded (acc c k a s x y at) (acc d kind.Fetch b t z w (At (code_stamp d.number (line_of b) h))) ≡ true → key_before (key_at turn c.number at (mark (acc c k a s x y at)) nu) (at_key (code_stamp d.number (line_of b) h) true d.number nv) ≡ true
new_fetch kind.Fetch turn h g c d a s x b t z nu nv y w at same later i j known has dem =
    let line : line_of a ≡ line_of b = overlap_line a s b t i j (true_or_false (share_a_byte a s b t) dem) in
    upto_v turn c.number d.number at (code_stamp c.number (line_of a) h) (code_stamp d.number (line_of b) h) nu nv true same known (rw (same, line) (omega arith)) later
new_fetch kind.CodeBarrier turn h g c d a s x b t z nu nv y w at same later i j known has dem =
    upto_v turn c.number d.number at (code_barrier c.number h) (code_stamp d.number (line_of b) h) nu nv true same known.1 (rw same (code_held_after d.number (line_of b) h has)) later
new_fetch _ turn h g c d a s x b t z nu nv y w at same later i j known has dem = cc

-- a plain read
new_read : (k : Kind) (turn : Times) (h : List Record) (g : ℕ) (c d : Cpu) (a s x b t z nu nv : ℕ) (y w : Bool) (at : Place) → c.number ≡ d.number → nu < nv → IsInLine a s → IsInLine b t → Known k c.number (line_of a) g at h → is_demanded (acc c k a s x y at) (acc d kind.Read b t z w (At (read_place d.number (line_of b) h))) ≡ true → key_before (key_at turn c.number at (mark (acc c k a s x y at)) nu) (at_key (read_place d.number (line_of b) h) true d.number nv) ≡ true
new_read kind.Read turn h g c d a s x b t z nu nv y w at same later i j known dem =
    let line : line_of a ≡ line_of b = overlap_line a s b t i j (true_or_false (share_a_byte a s b t) dem) in
    upto_v turn c.number d.number at (read_place c.number (line_of a) h) (read_place d.number (line_of b) h) nu nv true same known (rw (same, line) (omega arith)) later
new_read kind.Locked turn h g c d a s x b t z nu nv y w at same later i j known dem =
    let line : line_of a ≡ line_of b = overlap_line a s b t i j (true_or_false (share_a_byte a s b t) dem) in
    upto_v turn c.number d.number at (stamp c.number (line_of a) h) (read_place d.number (line_of b) h) nu nv true same known (rw (same, line) (omega arith)) later
new_read kind.Barrier turn h g c d a s x b t z nu nv y w at same later i j known dem =
    upto_v turn c.number d.number at (barrier c.number h) (read_place d.number (line_of b) h) nu nv true same known (rw same (omega arith)) later
new_read kind.CodeBarrier turn h g c d a s x b t z nu nv y w at same later i j known dem =
    upto_v turn c.number d.number at (barrier c.number h) (read_place d.number (line_of b) h) nu nv true same known.0 (rw same (omega arith)) later
new_read _ turn h g c d a s x b t z nu nv y w at same later i j known dem = cc

new_less : (k : Kind) (turn : Times) (h : List Record) (g : ℕ) (c d : Cpu) (a s x nu nv : ℕ) (y w : Bool) (at : Place) → Known k c.number (line_of a) g at h → is_loose k ≡ false → key_before (key_at turn c.number at (mark (acc c k a s x y at)) nu) (at_key (turns h + 1) w d.number nv) ≡ true
new_less k turn h g c d a s x nu nv y w at known tight =
    less_v turn c.number d.number at (turns h) (turns h + 1) nu nv (mark (acc c k a s x y at)) w (most_of k c.number (line_of a) g at h tight known) (omega arith)

new_last : (k : Kind) (turn : Times) (h : List Record) (g : ℕ) (c d : Cpu) (a s x nu nv : ℕ) (y w : Bool) (at : Place) → Known k c.number (line_of a) g at h → is_loose k ≡ false → key_before (key_at turn c.number at (mark (acc c k a s x y at)) nu) (last_key w d.number nv) ≡ true
new_last k turn h g c d a s x nu nv y w at known tight =
    last_v turn c.number d.number at (turns h) nu nv (mark (acc c k a s x y at)) w (most_of k c.number (line_of a) g at h tight known)

-- a plain write that is made now
new_write : (k : Kind) (turn : Times) (h : List Record) (g : ℕ) (c d : Cpu) (a s x b t z nu nv : ℕ) (y w : Bool) (at vat : Place) → c.number ≡ d.number → nu < nv → Known k c.number (line_of a) g at h → is_demanded (acc c k a s x y at) (acc d kind.Write b t z w vat) ≡ true → key_before (key_at turn c.number at (mark (acc c k a s x y at)) nu) (last_key false d.number nv) ≡ true
new_write kind.Write turn h g c d a s x b t z nu nv y w (Entry n) vat same later known dem = wait_v c.number d.number (turn.drained c.number n) nu nv same later
new_write kind.Write turn h g c d a s x b t z nu nv y w (At n) vat same later known dem = absurd known
new_write kind.Write turn h g c d a s x b t z nu nv y w Absent vat same later known dem = absurd known
new_write kind.WriteBarrier turn h g c d a s x b t z nu nv y w at vat same later known dem = cc
new_write k turn h g c d a s x b t z nu nv y w at vat same later known dem = new_last k turn h g c d a s x nu nv y false at known refl

-- an own write that waits is of another line, where none of this line waits
drained_line : (p l g : ℕ) (n : ℕ) (h : List Record) → Goes p l g (Entry n) h → has_line l (buffer p h).waiting ≡ false → drained h p n ≡ None → ⊥
drained_line p l g n h goes none e = false≢true (sym none ∙ waits_line n l g (buffer p h).waiting (goes e))

-- an STx_C that succeeds
new_swap : (k : Kind) (h : List Record) (g : ℕ) (c d : Cpu) (a s x b t z nu nv : ℕ) (y : Bool) (at vat : Place) → c.number ≡ d.number → nu < nv → IsInLine a s → IsInLine b t → Known k c.number (line_of a) g at h → has_line (line_of b) (buffer d.number h).waiting ≡ false → is_demanded (acc c k a s x y at) (acc d kind.Conditional b t z true vat) ≡ true → key_before (key_at (times h) c.number at (mark (acc c k a s x y at)) nu) (at_key (turns h + 1) false d.number nv) ≡ true
new_swap kind.Write h g c d a s x b t z nu nv y (Entry n) vat same later i j known none dem =
    let line : line_of a ≡ line_of b = overlap_line a s b t i j (true_or_false (share_a_byte a s b t) dem) in
    done_less c.number d.number (turns h) (drained h c.number n) (turns h + 1) nu nv false (drained_most c.number n h) (drained_line c.number (line_of a) g n h known (rw (line, same) none)) (omega arith)
new_swap kind.Write h g c d a s x b t z nu nv y (At n) vat same later i j known none dem = absurd known
new_swap kind.Write h g c d a s x b t z nu nv y Absent vat same later i j known none dem = absurd known
new_swap kind.WriteBarrier h g c d a s x b t z nu nv y at vat same later i j known none dem = cc
new_swap k h g c d a s x b t z nu nv y at vat same later i j known none dem = new_less k (times h) h g c d a s x nu nv y false at known refl

-- an MB or an IMB
new_fence : (k : Kind) (h : List Record) (g : ℕ) (c d : Cpu) (a s x nu nv : ℕ) (y : Bool) (at : Place) → c.number ≡ d.number → nu < nv → Known k c.number (line_of a) g at h → (buffer d.number h).waiting ≡ [] → (k ≡ kind.WriteBarrier → ⊥) → key_before (key_at (times h) c.number at (mark (acc c k a s x y at)) nu) (at_key (turns h) true d.number nv) ≡ true
new_fence kind.Write h g c d a s x nu nv y (Entry n) same later known none apart =
    done_upto c.number d.number (turns h) (drained h c.number n) (turns h) nu nv same (drained_most c.number n h) (drained_line c.number (line_of a) g n h known (rw (same, none) refl)) (omega arith) later
new_fence kind.Write h g c d a s x nu nv y (At n) same later known none apart = absurd known
new_fence kind.Write h g c d a s x nu nv y Absent same later known none apart = absurd known
new_fence kind.WriteBarrier h g c d a s x nu nv y at same later known none apart = absurd (apart refl)
new_fence k h g c d a s x nu nv y at same later known none apart = upto_v (times h) c.number d.number at (turns h) (turns h) nu nv (mark (acc c k a s x y at)) same (most_of k c.number (line_of a) g at h refl known) (omega arith) later

new_locked : (k : Kind) (turn : Times) (h : List Record) (g : ℕ) (c d : Cpu) (a s x b t z nu nv : ℕ) (y : Bool) (at : Place) → c.number ≡ d.number → nu < nv → Known k c.number (line_of a) g at h → is_demanded (acc c k a s x y at) (acc d kind.Locked b t z false (At (turns h))) ≡ true → key_before (key_at turn c.number at (mark (acc c k a s x y at)) nu) (at_key (turns h) true d.number nv) ≡ true
new_locked kind.Write turn h g c d a s x b t z nu nv y at same later known dem = cc
new_locked kind.WriteBarrier turn h g c d a s x b t z nu nv y at same later known dem = cc
new_locked k turn h g c d a s x b t z nu nv y at same later known dem = upto_v turn c.number d.number at (turns h) (turns h) nu nv (mark (acc c k a s x y at)) same (most_of k c.number (line_of a) g at h refl known) (omega arith) later

new_failed : (k : Kind) (turn : Times) (h : List Record) (g : ℕ) (c d : Cpu) (a s x b t z nu nv : ℕ) (y : Bool) (at : Place) → c.number ≡ d.number → nu < nv → Known k c.number (line_of a) g at h → is_demanded (acc c k a s x y at) (acc d kind.Conditional b t z false (At (turns h))) ≡ true → key_before (key_at turn c.number at (mark (acc c k a s x y at)) nu) (at_key (turns h) true d.number nv) ≡ true
new_failed kind.Write turn h g c d a s x b t z nu nv y at same later known dem = cc
new_failed kind.WriteBarrier turn h g c d a s x b t z nu nv y at same later known dem = cc
new_failed k turn h g c d a s x b t z nu nv y at same later known dem = upto_v turn c.number d.number at (turns h) (turns h) nu nv (mark (acc c k a s x y at)) same (most_of k c.number (line_of a) g at h refl known) (omega arith) later

new_console : (k : Kind) (turn : Times) (h : List Record) (g : ℕ) (c d : Cpu) (a s x b t z nu nv : ℕ) (y w : Bool) (at : Place) → c.number ≡ d.number → nu < nv → Known k c.number (line_of a) g at h → is_demanded (acc c k a s x y at) (acc d kind.Console b t z w (At (turns h))) ≡ true → key_before (key_at turn c.number at (mark (acc c k a s x y at)) nu) (at_key (turns h) true d.number nv) ≡ true
new_console kind.Write turn h g c d a s x b t z nu nv y w at same later known dem = cc
new_console kind.WriteBarrier turn h g c d a s x b t z nu nv y w at same later known dem = cc
new_console k turn h g c d a s x b t z nu nv y w at same later known dem = upto_v turn c.number d.number at (turns h) (turns h) nu nv (mark (acc c k a s x y at)) same (most_of k c.number (line_of a) g at h refl known) (omega arith) later

new_poll : (k : Kind) (turn : Times) (h : List Record) (g : ℕ) (c d : Cpu) (a s x b t z nu nv : ℕ) (y w : Bool) (at : Place) → c.number ≡ d.number → nu < nv → Known k c.number (line_of a) g at h → is_demanded (acc c k a s x y at) (acc d kind.Poll b t z w (At (turns h))) ≡ true → key_before (key_at turn c.number at (mark (acc c k a s x y at)) nu) (at_key (turns h) true d.number nv) ≡ true
new_poll kind.Write turn h g c d a s x b t z nu nv y w at same later known dem = cc
new_poll kind.WriteBarrier turn h g c d a s x b t z nu nv y w at same later known dem = cc
new_poll k turn h g c d a s x b t z nu nv y w at same later known dem = upto_v turn c.number d.number at (turns h) (turns h) nu nv (mark (acc c k a s x y at)) same (most_of k c.number (line_of a) g at h refl known) (omega arith) later

new_signal : (k : Kind) (turn : Times) (h : List Record) (g : ℕ) (c d : Cpu) (a s x b t z nu nv : ℕ) (y w : Bool) (at : Place) → Known k c.number (line_of a) g at h → is_demanded (acc c k a s x y at) (acc d kind.Signal b t z w (At (turns h + 1))) ≡ true → key_before (key_at turn c.number at (mark (acc c k a s x y at)) nu) (at_key (turns h + 1) false d.number nv) ≡ true
new_signal kind.Write turn h g c d a s x b t z nu nv y w at known dem = cc
new_signal kind.WriteBarrier turn h g c d a s x b t z nu nv y w at known dem = cc
new_signal k turn h g c d a s x b t z nu nv y w at known dem = new_less k turn h g c d a s x nu nv y false at known refl

no_wmb_code : (c d : Cpu) (k : Kind) (a s x b t z : ℕ) (y w : Bool) (at vat : Place) (p l g : ℕ) (h : List Record) → Known k p l g at h → is_demanded (acc c k a s x y at) (acc d kind.CodeBarrier b t z w vat) ≡ true → k ≡ kind.WriteBarrier → ⊥
no_wmb_code c d kind.WriteBarrier a s x b t z y w at vat p l g h known dem e = let never : is_demanded (acc c kind.WriteBarrier a s x y Absent) (acc d kind.CodeBarrier b t z w vat) ≡ true = rw known at dem in cc
no_wmb_code c d k a s x b t z y w at vat p l g h known dem e = cc

no_wmb : (c d : Cpu) (k : Kind) (a s x b t z : ℕ) (y w : Bool) (at vat : Place) → is_demanded (acc c k a s x y at) (acc d kind.Barrier b t z w vat) ≡ true → k ≡ kind.WriteBarrier → ⊥
no_wmb c d k a s x b t z y w at vat dem e = let never : is_demanded (acc c kind.WriteBarrier a s x y at) (acc d kind.Barrier b t z w vat) ≡ true = subst (λ j. is_demanded (acc c j a s x y at) (acc d kind.Barrier b t z w vat) ≡ true) e dem in cc

wmb_never : (k : Kind) (c d : Cpu) (a s x b t z : ℕ) (y w : Bool) (at : Place) → is_demanded (acc c k a s x y at) (acc d kind.WriteBarrier b t z w Absent) ≡ true → ⊥
wmb_never kind.Fetch c d a s x b t z y w at dem = cc
wmb_never _ c d a s x b t z y w at dem = cc

-- each kind of a new access
pub keeps : (v : Kind) (k : Kind) (h : List Record) (g : ℕ) (c d : Cpu) (a s x b t z nu nv : ℕ) (y w : Bool) (at vat : Place) → c.number ≡ d.number → nu < nv → IsInLine a s → IsInLine b t → Known k c.number (line_of a) g at h → Fits v d.number (line_of b) w vat h → (v ≡ kind.Write → (n : ℕ) → vat ≡ Entry n → drained h d.number n ≡ None) → is_demanded (acc c k a s x y at) (acc d v b t z w vat) ≡ true → key_before (key_at (times h) c.number at (mark (acc c k a s x y at)) nu) (key_at (times h) d.number vat (mark (acc d v b t z w vat)) nv) ≡ true
keeps kind.Fetch k h g c d a s x b t z nu nv y w at vat same later i j known fit fresh dem = rw fit.0 (new_fetch k (times h) h g c d a s x b t z nu nv y w at same later i j known fit.1 (rw fit.0 at dem))
keeps kind.Read k h g c d a s x b t z nu nv y w at vat same later i j known fit fresh dem = rw fit.0 (new_read k (times h) h g c d a s x b t z nu nv y w at same later i j known (rw fit.0 at dem))
keeps kind.Locked k h g c d a s x b t z nu nv y w at vat same later i j known fit fresh dem = rw fit.0 (new_locked k (times h) h g c d a s x b t z nu nv y at same later known (rw fit.0 at dem))
keeps kind.Write k h g c d a s x b t z nu nv y w at vat same later i j known fit fresh dem =
    let none : drained h d.number (entry_for (line_of b) (buffer d.number h)) ≡ None = fresh refl (entry_for (line_of b) (buffer d.number h)) fit in
    rw (fit, none) (new_write k (times h) h g c d a s x b t z nu nv y w at vat same later known dem)
keeps kind.Conditional k h g c d a s x b t z nu nv y true at vat same later i j known fit fresh dem = rw fit.0 (new_swap k h g c d a s x b t z nu nv y at vat same later i j known fit.1 dem)
keeps kind.Conditional k h g c d a s x b t z nu nv y false at vat same later i j known fit fresh dem = rw fit.0 (new_failed k (times h) h g c d a s x b t z nu nv y at same later known (rw fit.0 at dem))
keeps kind.Barrier k h g c d a s x b t z nu nv y w at vat same later i j known fit fresh dem = rw fit.0 (new_fence k h g c d a s x nu nv y at same later known fit.1 (no_wmb c d k a s x b t z y w at vat dem))
keeps kind.CodeBarrier k h g c d a s x b t z nu nv y w at vat same later i j known fit fresh dem = rw fit.0 (new_fence k h g c d a s x nu nv y at same later known fit.1 (no_wmb_code c d k a s x b t z y w at vat c.number (line_of a) g h known dem))
keeps kind.WriteBarrier k h g c d a s x b t z nu nv y w at vat same later i j known fit fresh dem = absurd (wmb_never k c d a s x b t z y w at (rw fit at dem))
keeps kind.Signal k h g c d a s x b t z nu nv y w at vat same later i j known fit fresh dem = rw fit.0 (new_signal k (times h) h g c d a s x b t z nu nv y w at known (rw fit.0 at dem))
keeps kind.Console k h g c d a s x b t z nu nv y w at vat same later i j known fit fresh dem = rw fit (new_console k (times h) h g c d a s x b t z nu nv y w at same later known (rw fit at dem))
keeps kind.Poll k h g c d a s x b t z nu nv y w at vat same later i j known fit fresh dem = rw fit (new_poll k (times h) h g c d a s x b t z nu nv y w at same later known (rw fit at dem))
