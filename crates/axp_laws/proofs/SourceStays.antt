-- The source of a byte stays the same under later records.
use Rattle.std.proofs.Common.{true, false, ℕ, ◌+◌, ◌<◌, ◌≤◌, ◌≡◌, ◌⊎◌, inl, inr, ⊎_elim, eqb, ltb, leb, Bool, not, ◌&&◌, ◌||◌, List, [], ◌∷◌, Option, Some, None, refl, sym, ap, ◌∙◌, subst, arith}
use Rattle.std.proofs.lemmas.Bool.{cases_Bool, cases_eq, and_parts, and_from, or_cases, or_left, or_right, ltb-true, lt-ltb, leb-true, eqb-true, eq-eqb, false≢true}
use Rattle.axp_access.specs.declared.Place.{Place}
use Rattle.axp_access.specs.declared.Place.TheVariants.{At, Entry, Absent}
use Rattle.axp_access.specs.declared.Access.{Access}
use Rattle.axp_access.specs.declared.Record.{Record}
use Rattle.axp_access.specs.Kinds.{is_memory_write, has_byte, is_fetch, is_read}
use Rattle.axp_base.specs.Lines.{line_of}
use Rattle.axp_model.specs.Turns.{turns, drained}
use Rattle.axp_model.specs.Accesses.{times}
use Rattle.axp_access.specs.Numbering.{NumberedAccess}
use Rattle.axp_access.specs.Order.{Times, spot, spot_at, key, key_before, before, precedes}
use Rattle.axp_model.specs.Sources.{is_visible, later_of, latest, can_give, source}
use Rattle.axp_model.specs.Issue.{share_a_byte, in_memory, overlap, is_demanded, issue_demands, AllPairs}
use Rattle.axp_laws.proofs.RunFacts.{KnownItem, PairOk}
use Rattle.std.specs.List.{AllByRecursion}
use Rattle.axp_laws.proofs.OrderKeys.{at_key, last_key, at_last, at_less, before_asymmetric}
use Rattle.axp_laws.proofs.OrderCases.{mark}
use Rattle.axp_laws.proofs.OrderDrains.{Naming, named_or, u_before, first_placed, IsNamed, IsOther}

pub newer_cases : (turn : Times) (x y : NumberedAccess) (o : Option NumberedAccess) → later_of turn x o ≡ Some y → (x ≡ y) ⊎ (o ≡ Some y)
newer_cases turn x y None e = inl (cc)
newer_cases turn x y (Some z) e = ⊎_elim (λ (t : before turn z x ≡ true). let s : Some x ≡ Some y = rw t at e in inl (cc)) (λ (f : before turn z x ≡ false). inr (rw f at e)) (cases_Bool (before turn z x))

-- the latest passes, and is of the list
each_latest : (turn : Times) (t : NumberedAccess → Bool) (Q : NumberedAccess → Type 0) (us : List NumberedAccess) → AllByRecursion Q us → (y : NumberedAccess) → latest turn t us ≡ Some y → Q y × (t y ≡ true)
each_latest turn t Q [] each y e = cc
each_latest turn t Q (x ∷ xs) each y e =
    ⊎_elim
    (λ (passed : t x ≡ true).
    ⊎_elim
    (λ same. (subst Q same each.0, subst (λ z. t z ≡ true) same passed))
    (λ rest. each_latest turn t Q xs each.1 y rest)
    (newer_cases turn x y (latest turn t xs) (rw passed at e)))
    (λ (failed : t x ≡ false). each_latest turn t Q xs each.1 y (rw failed at e))
    (cases_Bool (t x))

newer_same : (turn now : Times) (x : NumberedAccess) (o : Option NumberedAccess) → ((y : NumberedAccess) → o ≡ Some y → before now y x ≡ before turn y x) → later_of now x o ≡ later_of turn x o
newer_same turn now x None same = refl
newer_same turn now x (Some y) same = rw (same y refl) refl

-- where the test and the order of those that pass agree, the latest is the same
pub latest_now : (turn now : Times) (t s : NumberedAccess → Bool) (us : List NumberedAccess) → AllByRecursion (λ u. s u ≡ t u) us → AllPairs (λ y x. t y ≡ true → t x ≡ true → before now y x ≡ before turn y x) us → latest now s us ≡ latest turn t us
latest_now turn now t s [] tests pairs = refl
latest_now turn now t s (x ∷ xs) tests pairs =
    let rest : latest now s xs ≡ latest turn t xs = latest_now turn now t s xs tests.1 pairs.1 in
    ⊎_elim
    (λ (passed : t x ≡ true).
    rw tests.0 (rw passed (rw rest (newer_same turn now x (latest turn t xs) (λ y e. let both = each_latest turn t (λ z. t z ≡ true → t x ≡ true → before now z x ≡ before turn z x) xs pairs.0 y e in both.0 both.1 passed))))
    )
    (λ (failed : t x ≡ false). rw tests.0 (rw failed rest))
    (cases_Bool (t x))

or_right_true : (a : Bool) → (a || true) ≡ true
or_right_true true = refl
or_right_true false = refl

writes_are_ordered : (u v : Access) → is_memory_write u ≡ true → is_memory_write v ≡ true → overlap u v ≡ true → is_demanded u v ≡ true
writes_are_ordered u v wu wv share_a_byte =
    or_right ((is_fetch u.kind && is_fetch v.kind) && overlap u v) _ (or_right ((is_read u.kind && (is_read v.kind || is_memory_write v)) && overlap u v) _ (or_left ((is_memory_write v && is_memory_write u) && overlap u v) _ (and_from (is_memory_write v && is_memory_write u) (overlap u v) (and_from (is_memory_write v) (is_memory_write u) wv wu) share_a_byte)))

in_memory_of : (a : Access) → is_memory_write a ≡ true → in_memory a ≡ true
in_memory_of a w = or_right (is_read a.kind) (is_memory_write a || is_fetch a.kind) (or_left (is_memory_write a) (is_fetch a.kind) w)

-- own writes of one byte are in issue order
same_byte : (b : ℕ) (y x : NumberedAccess) → y.access.cpu.number ≡ x.access.cpu.number → y.number < x.number → is_memory_write y.access ≡ true → is_memory_write x.access ≡ true → has_byte b y.access ≡ true → has_byte b x.access ≡ true → issue_demands y x ≡ true
same_byte b y x same first wy wx by_ bx =
    let py = and_parts (leb y.access.address b) (ltb b (y.access.address + y.access.size)) by_ in
    let px = and_parts (leb x.access.address b) (ltb b (x.access.address + x.access.size)) bx in
    let y1 : y.access.address ≤ b = leb-true y.access.address b py.0 in
    let y2 : b < y.access.address + y.access.size = ltb-true b (y.access.address + y.access.size) py.1 in
    let x1 : x.access.address ≤ b = leb-true x.access.address b px.0 in
    let x2 : b < x.access.address + x.access.size = ltb-true b (x.access.address + x.access.size) px.1 in
    let share_a_byte : overlap y.access x.access ≡ true = and_from (in_memory y.access && in_memory x.access) (ltb y.access.address (x.access.address + x.access.size) && ltb x.access.address (y.access.address + y.access.size)) (and_from (in_memory y.access) (in_memory x.access) (in_memory_of y.access wy) (in_memory_of x.access wx)) (and_from (ltb y.access.address (x.access.address + x.access.size)) (ltb x.access.address (y.access.address + y.access.size)) (lt-ltb y.access.address (x.access.address + x.access.size) (omega arith)) (lt-ltb x.access.address (y.access.address + y.access.size) (omega arith))) in
    and_from (precedes y x) (is_demanded y.access x.access) (and_from (eqb y.access.cpu.number x.access.cpu.number) (ltb y.number x.number) (eq-eqb y.access.cpu.number x.access.cpu.number same) (lt-ltb y.number x.number first)) (writes_are_ordered y.access x.access wy wx share_a_byte)

last_not_before : (o w : Bool) (c n s d m : ℕ) → key_before (last_key o c n) (at_key s w d m) ≡ false
unfolding key_before
last_not_before o w c n s d m = refl

-- a write that waits is not before an access that has a place as a number
pub hidden : (h : List Record) (u v : NumberedAccess) (m s : ℕ) → u.access.place ≡ Entry m → drained h u.access.cpu.number m ≡ None → v.access.place ≡ At s → before (times h) u v ≡ false
hidden h u v m s at none vat = rw (at, none, vat) (last_not_before (mark u.access) (mark v.access) u.access.cpu.number u.number s v.access.cpu.number v.number)

entry_before_last : (q d : ℕ) (o : Option ℕ) (nu nv : ℕ) (x w : Bool) → (o ≡ None → ⊥) → key_before (record { spot = spot_at o; other = x; cpu = q; number = nu }) (last_key w d nv) ≡ true
entry_before_last q d None nu nv x w some = absurd (some refl)
entry_before_last q d (Some t) nu nv x w some = at_last t q d nu nv x w

pub u_before_last : (q : ℕ) (at : Place) (h : List Record) (x w : Bool) (nu d nv : ℕ) → (spot (times h) q at).placed ≡ true → ((m : ℕ) → at ≡ Entry m → drained h q m ≡ None → ⊥) → key_before (record { spot = spot (times h) q at; other = x; cpu = q; number = nu }) (last_key w d nv) ≡ true
u_before_last q (At t) h x w nu d nv placed gone = at_last t q d nu nv x w
u_before_last q (Entry m) h x w nu d nv placed gone = entry_before_last q d (drained h q m) nu nv x w (gone m refl)
u_before_last q Absent h x w nu d nv placed gone = absurd (false≢true placed)

-- what is before v is before a write that is drained now, and was
around : (h : List Record) (p n s : ℕ) (now : Times) (w z v : NumberedAccess) → Naming (times h) now p n (turns h + 1) → KnownItem h w → v.access.place ≡ At s → before (times h) w v ≡ true → IsNamed p n z → IsOther (times h) now p n w → (before now w z ≡ true) × (before (times h) w z ≡ true)
around h p n s now w z v naming kw vat seen zn wo =
    let placed : (spot (times h) w.access.cpu.number w.access.place).placed ≡ true = first_placed (key (times h) w) (key (times h) v) seen in
    let gone : (m : ℕ) → w.access.place ≡ Entry m → drained h w.access.cpu.number m ≡ None → ⊥ = λ m at none. false≢true (sym (hidden h w v m s at none vat) ∙ seen) in (
      rw (zn.1, zn.0, naming.is, wo.1) (u_before w.access.kind w.access.cpu.number (line_of w.access.address) w.parts w.access.place h (mark w.access) (mark z.access) w.number p z.number kw.known placed gone),
      rw (zn.1, zn.0, naming.was) (u_before_last w.access.cpu.number w.access.place h (mark w.access) (mark z.access) w.number p z.number placed gone),
    )

-- of a visible write of another processor than a visible one that waits: it is before v
seen_before : (h : List Record) (p n s : ℕ) (w z v : NumberedAccess) → drained h p n ≡ None → v.access.place ≡ At s → (w.access.cpu.number ≡ z.access.cpu.number → ⊥) → IsNamed p n z → is_visible (times h) w v ≡ true → is_visible (times h) z v ≡ true → before (times h) w v ≡ true
seen_before h p n s w z v none vat apart zn sw sz =
    ⊎_elim
    (λ b. b)
    (λ i. absurd (⊎_elim
    (λ b. false≢true (sym (hidden h z v n s zn.1 (rw zn.0 none) vat) ∙ b))
    (λ j.
    let a = and_parts (eqb w.access.cpu.number v.access.cpu.number) (ltb w.number v.number) (and_parts (not (is_fetch v.access.kind)) (precedes w v) i).1 in
    let c = and_parts (eqb z.access.cpu.number v.access.cpu.number) (ltb z.number v.number) (and_parts (not (is_fetch v.access.kind)) (precedes z v) j).1 in
    apart (eqb-true w.access.cpu.number v.access.cpu.number a.0 ∙ sym (eqb-true z.access.cpu.number v.access.cpu.number c.0)))
    (or_cases (before (times h) z v) (not (is_fetch v.access.kind) && precedes z v) sz)))
    (or_cases (before (times h) w v) (not (is_fetch v.access.kind) && precedes w v) sw)

-- two sources that may be keep their order under a drain
pub same_order : (h : List Record) (p n s b : ℕ) (now : Times) (y x v : NumberedAccess) → Naming (times h) now p n (turns h + 1) → KnownItem h y → KnownItem h x → PairOk (times h) y x → PairOk now y x → v.access.place ≡ At s → can_give (times h) b v y ≡ true → can_give (times h) b v x ≡ true → before now y x ≡ before (times h) y x
same_order h p n s b now y x v naming ky kx ok okn vat gy gx =
    let py = and_parts (is_memory_write y.access) (has_byte b y.access && is_visible (times h) y v) gy in
    let px = and_parts (is_memory_write x.access) (has_byte b x.access && is_visible (times h) x v) gx in
    let qy = and_parts (has_byte b y.access) (is_visible (times h) y v) py.1 in
    let qx = and_parts (has_byte b x.access) (is_visible (times h) x v) px.1 in
    ⊎_elim
    (λ (same : y.access.cpu.number ≡ x.access.cpu.number).
    let d : issue_demands y x ≡ true = same_byte b y x same ok.first py.0 px.0 qy.0 qx.0 in
    okn.issue d ∙ sym (ok.issue d))
    (λ (apart : y.access.cpu.number ≡ x.access.cpu.number → ⊥).
    ⊎_elim
    (λ (xn : IsNamed p n x).
    ⊎_elim
    (λ (yn : IsNamed p n y). absurd (apart (yn.0 ∙ sym xn.0)))
    (λ (yo : IsOther (times h) now p n y).
    let both = around h p n s now y x v naming ky vat (seen_before h p n s y x v naming.was vat apart xn qy.1 qx.1) xn yo in
    both.0 ∙ sym both.1)
    (named_or (times h) now p n (turns h + 1) y.access.cpu.number y.access.place naming))
    (λ (xo : IsOther (times h) now p n x).
    ⊎_elim
    (λ (yn : IsNamed p n y).
    let both = around h p n s now x y v naming kx vat (seen_before h p n s x y v naming.was vat (λ e. apart (sym e)) yn qx.1 qy.1) yn xo in
    before_asymmetric (key now x) (key now y) both.0 ∙ sym (before_asymmetric (key (times h) x) (key (times h) y) both.1))
    (λ (yo : IsOther (times h) now p n y). rw (yo.1, xo.1) refl)
    (named_or (times h) now p n (turns h + 1) y.access.cpu.number y.access.place naming))
    (named_or (times h) now p n (turns h + 1) x.access.cpu.number x.access.place naming))
    (cases_eq y.access.cpu.number x.access.cpu.number)

-- what is before a read does not change under a drain
same_before : (h : List Record) (p n s : ℕ) (now : Times) (u v : NumberedAccess) → Naming (times h) now p n (turns h + 1) → v.access.place ≡ At s → s ≤ turns h → before now u v ≡ before (times h) u v
same_before h p n s now u v naming vat less =
    ⊎_elim
    (λ (un : IsNamed p n u).
    let was : before (times h) u v ≡ false = hidden h u v n s un.1 (rw un.0 naming.was) vat in
    let after : before now v u ≡ true = rw (vat, un.1, un.0, naming.is) (at_less s (turns h + 1) v.access.cpu.number p v.number u.number (mark v.access) (mark u.access) (omega arith)) in
    before_asymmetric (key now v) (key now u) after ∙ sym was)
    (λ (uo : IsOther (times h) now p n u). rw (uo.1, vat) refl)
    (named_or (times h) now p n (turns h + 1) u.access.cpu.number u.access.place naming)

pub same_gives : (h : List Record) (p n s b : ℕ) (now : Times) (u v : NumberedAccess) → Naming (times h) now p n (turns h + 1) → v.access.place ≡ At s → s ≤ turns h → can_give now b v u ≡ can_give (times h) b v u
same_gives h p n s b now u v naming vat less = ap (λ z. is_memory_write u.access && (has_byte b u.access && (z || (not (is_fetch v.access.kind) && precedes u v)))) (same_before h p n s now u v naming vat less)

pub each_all : (Q : NumberedAccess → Type 0) (us : List NumberedAccess) → ((u : NumberedAccess) → Q u) → AllByRecursion Q us
each_all Q [] f = tt
each_all Q (u ∷ us) f = (f u, each_all Q us f)

both_each : (h : List Record) (p n s b : ℕ) (now : Times) (v x : NumberedAccess) → Naming (times h) now p n (turns h + 1) → v.access.place ≡ At s → KnownItem h x → (us : List NumberedAccess) → AllByRecursion (KnownItem h) us → AllByRecursion (λ y. PairOk (times h) y x) us → AllByRecursion (λ y. PairOk now y x) us → AllByRecursion (λ y. can_give (times h) b v y ≡ true → can_give (times h) b v x ≡ true → before now y x ≡ before (times h) y x) us
both_each h p n s b now v x naming vat kx [] items pairs later = tt
both_each h p n s b now v x naming vat kx (y ∷ us) items pairs later = (λ gy gx. same_order h p n s b now y x v naming items.0 kx pairs.0 later.0 vat gy gx, both_each h p n s b now v x naming vat kx us items.1 pairs.1 later.1)

both_pairs : (h : List Record) (p n s b : ℕ) (now : Times) (v : NumberedAccess) → Naming (times h) now p n (turns h + 1) → v.access.place ≡ At s → (us : List NumberedAccess) → AllByRecursion (KnownItem h) us → AllPairs (PairOk (times h)) us → AllPairs (PairOk now) us → AllPairs (λ y x. can_give (times h) b v y ≡ true → can_give (times h) b v x ≡ true → before now y x ≡ before (times h) y x) us
both_pairs h p n s b now v naming vat [] items pairs later = tt
both_pairs h p n s b now v naming vat (x ∷ us) items pairs later = (both_each h p n s b now v x naming vat items.0 us items.1 pairs.0 later.0, both_pairs h p n s b now v naming vat us items.1 pairs.1 later.1)

-- a drain leaves the source of each byte of each read and fetch
pub source_drain : (h : List Record) (p n s b : ℕ) (now : Times) (v : NumberedAccess) (us : List NumberedAccess) → Naming (times h) now p n (turns h + 1) → v.access.place ≡ At s → s ≤ turns h → AllByRecursion (KnownItem h) us → AllPairs (PairOk (times h)) us → AllPairs (PairOk now) us → source now b v us ≡ source (times h) b v us
source_drain h p n s b now v us naming vat less items pairs later =
    latest_now (times h) now (can_give (times h) b v) (can_give now b v) us
    (each_all (λ u. can_give now b v u ≡ can_give (times h) b v u) us (λ u. same_gives h p n s b now u v naming vat less))
    (both_pairs h p n s b now v naming vat us items pairs later)
