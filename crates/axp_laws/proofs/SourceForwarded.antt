-- An own write that waits is the source of a new read.
use Rattle.std.proofs.Common.{true, false, ℕ, ◌<◌, ◌≡◌, ◌⊎◌, inr, ⊎_elim, eqb, ltb, cond, Bool, not, ◌&&◌, ◌||◌, List, [], ◌∷◌, length, Option, Some, None, refl, sym, ap, ◌∙◌, subst, arith}
use Rattle.std.proofs.lemmas.Bool.{cases_Bool, and_parts, and_from, or_cases, or_right, lt-ltb, eqb-true, eq-eqb, false≢true}
use Rattle.axp_regs.specs.declared.asks.Kind.{Kind}
use Rattle.axp_regs.specs.declared.asks.Kind.TheVariants as kind
use Rattle.axp_access.specs.declared.Place.{Place}
use Rattle.axp_access.specs.declared.Place.TheVariants.{At, Entry, Absent}
use Rattle.axp_access.specs.declared.Record.{Record}
use Rattle.axp_access.specs.Kinds.{is_plain_write, is_conditional, is_memory_write, is_fetch, has_byte}
use Rattle.axp_base.specs.Lines.{line_of}
use Rattle.axp_model.specs.Turns.{drained}
use Rattle.axp_model.specs.Accesses.{times, accesses}
use Rattle.axp_access.specs.Numbering.{NumberedAccess}
use Rattle.axp_access.specs.Order.{Times, spot, spot_at, key, before, precedes}
use Rattle.axp_model.specs.Sources.{is_visible, later_of, latest, can_give, source}
use Rattle.axp_laws.proofs.RunFacts.{Known, KnownItem, PairOk, RunFacts}
use Rattle.axp_model.specs.Issue.{AllPairs}
use Rattle.std.specs.List.{AllByRecursion, find}
use Rattle.axp_model.specs.Memory.{own_waits, is_waiting}
use Rattle.axp_laws.proofs.OrderKeys.{last_key, before_asymmetric, last_last}
use Rattle.axp_laws.proofs.OrderCases.{mark}
use Rattle.axp_laws.proofs.OrderDrains.{entry_write}
use Rattle.axp_laws.proofs.RunSteps.{pairs_map}
use Rattle.axp_laws.proofs.SourceStays.{hidden, u_before_last, newer_cases}
use Rattle.axp_laws.proofs.LockGuards.{spot_placed}

pub newer_left : (turn : Times) (u : NumberedAccess) (o : Option NumberedAccess) → ((y : NumberedAccess) → o ≡ Some y → (y ≡ u) ⊎ (before turn y u ≡ true)) → later_of turn u o ≡ Some u
newer_left turn u None h = refl
newer_left turn u (Some y) h = ⊎_elim (λ same. elim (before turn y u) as (λ b. cond b (Some u) (Some y) ≡ Some u) [ true ↦ refl | false ↦ ap (λ x. Some x) same ]) (λ less. rw less refl) (h y refl)

newer_right : (turn : Times) (x u : NumberedAccess) → before turn x u ≡ true → later_of turn x (Some u) ≡ Some u
newer_right turn x u less = rw (before_asymmetric (key turn x) (key turn u) less) refl

-- each that passes is before u
abbrev pub Below : Times → (NumberedAccess → Bool) → NumberedAccess → NumberedAccess → Type 0
Below turn t u x = t x ≡ true → before turn x u ≡ true

pub latest_below : (turn : Times) (t : NumberedAccess → Bool) (u : NumberedAccess) (us : List NumberedAccess) → AllByRecursion (Below turn t u) us → (y : NumberedAccess) → latest turn t us ≡ Some y → before turn y u ≡ true
latest_below turn t u [] each y e = cc
latest_below turn t u (x ∷ xs) each y e =
    ⊎_elim
    (λ (p : t x ≡ true). ⊎_elim (λ same. subst (λ z. before turn z u ≡ true) same (each.0 p)) (λ rest. latest_below turn t u xs each.1 y rest) (newer_cases turn x y (latest turn t xs) (rw p at e)))
    (λ (f : t x ≡ false). latest_below turn t u xs each.1 y (rw f at e))
    (cases_Bool (t x))

each_at : (turn : Times) (t s : NumberedAccess → Bool) (x : NumberedAccess) (xs : List NumberedAccess) → s x ≡ true → AllByRecursion (λ y. s x ≡ true → Below turn t x y) xs → AllByRecursion (Below turn t x) xs
each_at turn t s x [] p each = tt
each_at turn t s x (y ∷ xs) p each = (each.0 p, each_at turn t s x xs p each.1)

-- where the newest that passes s is above all others that pass t, it is the latest
pub first_is : (turn : Times) (t s : NumberedAccess → Bool) (u : NumberedAccess) (us : List NumberedAccess) → AllByRecursion (λ x. s x ≡ true → t x ≡ true) us → AllByRecursion (λ x. s x ≡ false → Below turn t u x) us → AllPairs (λ y x. s x ≡ true → Below turn t x y) us → find s us ≡ Some u → latest turn t us ≡ Some u
first_is turn t s u [] sub above pairs e = cc
first_is turn t s u (x ∷ xs) sub above pairs e =
    ⊎_elim
    (λ (p : s x ≡ true).
    let found : Some x ≡ Some u = rw p at e in
    let same : x ≡ u = cc in
    rw (sub.0 p) (newer_left turn x (latest turn t xs) (λ y is. inr (latest_below turn t x xs (each_at turn t s x xs p pairs.0) y is)) ∙ found))
    (λ (f : s x ≡ false).
    let rest : latest turn t xs ≡ Some u = first_is turn t s u xs sub.1 above.1 pairs.1 (rw f at e) in
    ⊎_elim
    (λ (q : t x ≡ true). rw q (rw rest (newer_right turn x u (above.0 f q))))
    (λ (q : t x ≡ false). rw q rest)
    (cases_Bool (t x)))
    (cases_Bool (s x))

none_of : (o : Option ℕ) → (spot_at o).last ≡ true → o ≡ None
none_of None e = refl
none_of (Some t) e = absurd (false≢true e)

-- a write that waits stands at an entry
pub waiting_entry : (turn : Times) (q : ℕ) (at : Place) → (spot turn q at).last ≡ true → (m : ℕ) × (at ≡ Entry m) × (turn.drained q m ≡ None)
waiting_entry turn q (At t) e = absurd (false≢true e)
waiting_entry turn q Absent e = absurd (false≢true e)
waiting_entry turn q (Entry m) e = (m, refl, none_of (turn.drained q m) e)

-- what gives v a byte is an own write that waits, or has a place
gives_own : (h : List Record) (b s : ℕ) (v x : NumberedAccess) → v.access.place ≡ At s → can_give (times h) b v x ≡ true → own_waits (times h) b v.access.cpu.number x ≡ false → (spot (times h) x.access.cpu.number x.access.place).last ≡ true → ⊥
gives_own h b s v x vat g no_ last =
    let w = waiting_entry (times h) x.access.cpu.number x.access.place last in
    let p = and_parts (is_memory_write x.access) (has_byte b x.access && is_visible (times h) x v) g in
    let q = and_parts (has_byte b x.access) (is_visible (times h) x v) p.1 in
    ⊎_elim
    (λ seen. false≢true (sym (hidden h x v w.0 s w.1 w.2 vat) ∙ seen))
    (λ i.
    let a = and_parts (eqb x.access.cpu.number v.access.cpu.number) (ltb x.number v.number) (and_parts (not (is_fetch v.access.kind)) (precedes x v) i).1 in
    let placed : (spot (times h) x.access.cpu.number x.access.place).placed ≡ true = rw (w.1, w.2) refl in
    let waiting : is_waiting (spot (times h) x.access.cpu.number x.access.place) ≡ true = and_from (spot (times h) x.access.cpu.number x.access.place).placed (spot (times h) x.access.cpu.number x.access.place).last placed last in
    let it : own_waits (times h) b v.access.cpu.number x ≡ true =
    and_from (eqb x.access.cpu.number v.access.cpu.number) (is_memory_write x.access && (has_byte b x.access && is_waiting (spot (times h) x.access.cpu.number x.access.place))) a.0
    (and_from (is_memory_write x.access) (has_byte b x.access && is_waiting (spot (times h) x.access.cpu.number x.access.place)) p.0
    (and_from (has_byte b x.access) (is_waiting (spot (times h) x.access.cpu.number x.access.place)) q.0 waiting)) in
    false≢true (sym no_ ∙ it))
    (or_cases (before (times h) x v) (not (is_fetch v.access.kind) && precedes x v) q.1)

or_right_true : (a : Bool) → (a || true) ≡ true
or_right_true true = refl
or_right_true false = refl

pub mem_placed : (k : Kind) (p l g : ℕ) (y : Bool) (at : Place) (h : List Record) → (is_plain_write k || (is_conditional k && y)) ≡ true → Known k p l g at h → (spot (times h) p at).placed ≡ true
mem_placed kind.Write p l g y (Entry m) h e known = spot_placed (drained h p m)
mem_placed kind.Write p l g y (At t) h e known = absurd known
mem_placed kind.Write p l g y Absent h e known = absurd known
mem_placed kind.Conditional p l g y (At t) h e known = refl
mem_placed kind.Conditional p l g y (Entry m) h e known = absurd known
mem_placed kind.Conditional p l g y Absent h e known = absurd known
mem_placed _ p l g y at h e known = absurd (false≢true e)

-- the parts of an own write that waits
pub own_parts : (h : List Record) (b p : ℕ) (u : NumberedAccess) → KnownItem h u → own_waits (times h) b p u ≡ true → (u.access.cpu.number ≡ p) × (is_memory_write u.access ≡ true) × (has_byte b u.access ≡ true) × (key (times h) u ≡ last_key false p u.number)
own_parts h b p u ku e =
    let a = and_parts (eqb u.access.cpu.number p) (is_memory_write u.access && (has_byte b u.access && is_waiting (spot (times h) u.access.cpu.number u.access.place))) e in
    let m = and_parts (is_memory_write u.access) (has_byte b u.access && is_waiting (spot (times h) u.access.cpu.number u.access.place)) a.1 in
    let c = and_parts (has_byte b u.access) (is_waiting (spot (times h) u.access.cpu.number u.access.place)) m.1 in
    let w = waiting_entry (times h) u.access.cpu.number u.access.place (and_parts (spot (times h) u.access.cpu.number u.access.place).placed (spot (times h) u.access.cpu.number u.access.place).last c.1).1 in
    let k : u.access.kind ≡ kind.Write = entry_write u.access.kind u.access.cpu.number (line_of u.access.address) u.parts w.0 h (rw w.1 at ku.known) in
    let same : u.access.cpu.number ≡ p = eqb-true u.access.cpu.number p a.0 in
    (same, m.0, c.0, rw (w.1, w.2, same, k) refl)

-- what gives v a byte is before an own write that waits, unless it is one
below_own : (h : List Record) (b s : ℕ) (v x u : NumberedAccess) → v.access.place ≡ At s → KnownItem h x → KnownItem h u → own_waits (times h) b v.access.cpu.number u ≡ true → own_waits (times h) b v.access.cpu.number x ≡ false → can_give (times h) b v x ≡ true → before (times h) x u ≡ true
below_own h b s v x u vat kx ku own no_ g =
    let placed : (spot (times h) x.access.cpu.number x.access.place).placed ≡ true = mem_placed x.access.kind x.access.cpu.number (line_of x.access.address) x.parts x.access.yes x.access.place h (and_parts (is_memory_write x.access) (has_byte b x.access && is_visible (times h) x v) g).0 kx.known in
    let gone : (m : ℕ) → x.access.place ≡ Entry m → drained h x.access.cpu.number m ≡ None → ⊥ = λ m at none. gives_own h b s v x vat g no_ (rw (at, none) refl) in
    rw (own_parts h b v.access.cpu.number u ku own).3 (u_before_last x.access.cpu.number x.access.place h (mark x.access) false x.number v.access.cpu.number u.number placed gone)

below_any : (h : List Record) (b s : ℕ) (v y x : NumberedAccess) → v.access.place ≡ At s → KnownItem h y → KnownItem h x → y.number < x.number → own_waits (times h) b v.access.cpu.number x ≡ true → can_give (times h) b v y ≡ true → before (times h) y x ≡ true
below_any h b s v y x vat ky kx first own g =
    ⊎_elim
    (λ (t : own_waits (times h) b v.access.cpu.number y ≡ true). rw ((own_parts h b v.access.cpu.number y ky t).3, (own_parts h b v.access.cpu.number x kx own).3) (last_last v.access.cpu.number y.number x.number false first))
    (λ (f : own_waits (times h) b v.access.cpu.number y ≡ false). below_own h b s v y x vat ky kx own f g)
    (cases_Bool (own_waits (times h) b v.access.cpu.number y))

own_gives : (h : List Record) (b : ℕ) (v x : NumberedAccess) → is_fetch v.access.kind ≡ false → KnownItem h x → x.number < v.number → own_waits (times h) b v.access.cpu.number x ≡ true → can_give (times h) b v x ≡ true
own_gives h b v x reads kx later own =
    let p = own_parts h b v.access.cpu.number x kx own in
    let plain : not (is_fetch v.access.kind) ≡ true = rw reads refl in
    let issued : (not (is_fetch v.access.kind) && precedes x v) ≡ true = and_from (not (is_fetch v.access.kind)) (precedes x v) plain (and_from (eqb x.access.cpu.number v.access.cpu.number) (ltb x.number v.number) (eq-eqb x.access.cpu.number v.access.cpu.number p.0) (lt-ltb x.number v.number later)) in
    and_from (is_memory_write x.access) (has_byte b x.access && is_visible (times h) x v) p.1 (and_from (has_byte b x.access) (is_visible (times h) x v) p.2 (or_right (before (times h) x v) (not (is_fetch v.access.kind) && precedes x v) issued))

each_known : (h : List Record) (Q : NumberedAccess → Type 0) (us : List NumberedAccess) → ((x : NumberedAccess) → KnownItem h x → Q x) → AllByRecursion (KnownItem h) us → AllByRecursion Q us
each_known h Q [] f k = tt
each_known h Q (x ∷ us) f k = (f x k.0, each_known h Q us f k.1)

-- the newest own write of the byte that waits is the source of a new read
pub own_is_source : (h : List Record) (b s : ℕ) (v u : NumberedAccess) → RunFacts h → is_fetch v.access.kind ≡ false → v.access.place ≡ At s → length (accesses h) < v.number → KnownItem h u → own_waits (times h) b v.access.cpu.number u ≡ true → find (own_waits (times h) b v.access.cpu.number) (accesses h) ≡ Some u → source (times h) b v (accesses h) ≡ Some u
own_is_source h b s v u kept reads vat later ku own found =
    first_is (times h) (can_give (times h) b v) (own_waits (times h) b v.access.cpu.number) u (accesses h)
    (each_known h (λ x. own_waits (times h) b v.access.cpu.number x ≡ true → can_give (times h) b v x ≡ true) (accesses h) (λ x kx. own_gives h b v x reads kx (omega (arith, kx.number))) kept.items)
    (each_known h (λ x. own_waits (times h) b v.access.cpu.number x ≡ false → Below (times h) (can_give (times h) b v) u x) (accesses h) (λ x kx no_ g. below_own h b s v x u vat kx ku own no_ g) kept.items)
    (pairs_map (KnownItem h) (PairOk (times h)) (λ y x. own_waits (times h) b v.access.cpu.number x ≡ true → Below (times h) (can_give (times h) b v) x y) (accesses h) (λ y x ky kx ok o g. below_any h b s v y x vat ky kx ok.first o g) kept.items kept.pairs)
    found
