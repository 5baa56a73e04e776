-- What the buffer puts over a line is the newest own write of each byte that waits.
use Rattle.std.proofs.Common.{◌≡◌, ℕ, zero, suc, ◌+◌, ◌%◌, ◌<◌, ◌≤◌, ◌⊎◌, inl, inr, ⊎_elim, Bool, true, false, eqb, ltb, leb, ◌&&◌, List, [], ◌∷◌, length, Option, Some, None, arith, refl, ap, sym, subst, ◌∙◌}
use Rattle.std.specs.Prelude.{slice_get, slice_index, is_some}
use Rattle.std.specs.List.{AllByRecursion, find}
use Rattle.std.proofs.lemmas.Bool.{cases_Bool, cases_lt, and_parts, and_from, eqb-true, eq-eqb, leb-true, ltb-true, false≢true}
use Rattle.axp_base.specs.Masks.{has_bit}
use Rattle.axp_base.specs.declared.lines.TheConstants.{LINE_BYTES}
use Rattle.axp_access.specs.declared.Place.TheVariants.{Entry}
use Rattle.axp_access.specs.declared.Record.{Record}
use Rattle.axp_wbuf.specs.Pending as pending
use Rattle.axp_wbuf.specs.Pending.{Pending, AreInOrder, overlaid}
use Rattle.axp_wbuf.proofs.Overlays.{newest_gives, others_kept}
use Rattle.axp_wbuf.proofs.Pairs.{by_number, no_entry, precedes_at, same_entry}
use Rattle.axp_model.specs.Entries.{buffer}
use Rattle.axp_model.specs.Memory.{is_waiting, newest_waiting, own_waits}
use Rattle.axp_model.specs.Issue.{AllPairs}
use Rattle.axp_model.specs.Processors.{IsInLine}
use Rattle.axp_model.specs.Accesses.{accesses, times}
use Rattle.axp_access.specs.Numbering.{NumberedAccess, cpu_of}
use Rattle.axp_access.specs.Order.{spot}
use Rattle.axp_access.specs.Kinds.{has_byte, is_memory_write}
use Rattle.axp_base.specs.Lines.{line_of}
use Rattle.axp_model.specs.Turns.{drained}
use Rattle.axp_laws.proofs.SourceForwarded.{waiting_entry}
use Rattle.axp_laws.proofs.RunFacts.{RunFacts, KnownItem, PairOk, waits}
use Rattle.axp_laws.proofs.RunKnown.{waits_has}
use Rattle.axp_world.proofs.Agreement.{HasBytesOf, byte_or, is_entry, newest_in, went_into}
use Rattle.axp_world.proofs.BufferEntries.{KeepsWaiting, IsKeptAs, kept_same, waits_same}
use Rattle.axp_world.proofs.BufferBytes.{each_at, into_waits, place_is}

-- the last of these entries that has a byte of a line, or none has it
record IsLast (l n : ℕ) (es : List Pending) : Type 0 where
  place : ℕ
  entry : Pending
  kept : slice_get es place ≡ Some entry
  has : pending.has_byte l n entry ≡ true
  last : (j : ℕ) (f : Pending) → slice_get es j ≡ Some f → pending.has_byte l n f ≡ true → f.number ≤ entry.number

abbrev HasNone : ℕ → ℕ → List Pending → Type 0
HasNone l n es = (j : ℕ) (f : Pending) → slice_get es j ≡ Some f → pending.has_byte l n f ≡ false

last_later : (l n made newest : ℕ) (e : Pending) (es : List Pending) → AreInOrder made newest (e ∷ es) → IsLast l n es → IsLast l n (e ∷ es)
last_later l n made newest e es order is = record { place = suc is.place; entry = is.entry; kept = is.kept; has = is.has; last = most } where
  most : (j : ℕ) (f : Pending) → slice_get (e ∷ es) j ≡ Some f → pending.has_byte l n f ≡ true → f.number ≤ is.entry.number
  most zero f at has = let same : e ≡ f = same_entry e f at in omega (arith, ap (λ x. x.number) same, (precedes_at e es is.place is.entry order.1.0 is.kept).number)
  most (suc j) f at has = is.last j f at has

last_here : (l n : ℕ) (e : Pending) (es : List Pending) → pending.has_byte l n e ≡ true → HasNone l n es → IsLast l n (e ∷ es)
last_here l n e es has none = record { place = 0; entry = e; kept = refl; has = has; last = most } where
  most : (j : ℕ) (f : Pending) → slice_get (e ∷ es) j ≡ Some f → pending.has_byte l n f ≡ true → f.number ≤ e.number
  most zero f at has_f = let same : e ≡ f = same_entry e f at in omega (arith, ap (λ x. x.number) same)
  most (suc j) f at has_f = absurd (false≢true (sym (none j f at) ∙ has_f))

none_more : (l n : ℕ) (e : Pending) (es : List Pending) → pending.has_byte l n e ≡ false → HasNone l n es → HasNone l n (e ∷ es)
none_more l n e es has none zero f at = subst (λ x. pending.has_byte l n x ≡ false) (same_entry e f at) has
none_more l n e es has none (suc j) f at = none j f at

last_or_none : (l n made newest : ℕ) (es : List Pending) → AreInOrder made newest es → IsLast l n es ⊎ HasNone l n es
last_or_none l n made newest [] order = inr (λ j f at. absurd (no_entry f at))
last_or_none l n made newest (e ∷ es) order =
    ⊎_elim
    (λ (is : IsLast l n es). inl (last_later l n made newest e es order is))
    (λ (none : HasNone l n es). ⊎_elim
    (λ (has : pending.has_byte l n e ≡ true). inl (last_here l n e es has none))
    (λ (lacks : pending.has_byte l n e ≡ false). inr (none_more l n e es lacks none))
    (cases_Bool (pending.has_byte l n e)))
    (last_or_none l n made newest es order.1.1)

-- what a search finds
find_passes : (test : NumberedAccess → Bool) (us : List NumberedAccess) (v : NumberedAccess) → find test us ≡ Some v → test v ≡ true
find_passes test [] v is = cc
find_passes test (u ∷ us) v is =
    ⊎_elim
    (λ (here : test u ≡ true). let found : Some u ≡ Some v = rw here at is in let same : u ≡ v = cc in subst (λ x. test x ≡ true) same here)
    (λ (other : test u ≡ false). find_passes test us v (rw other at is))
    (cases_Bool (test u))

find_each : (P : NumberedAccess → Type 0) (test : NumberedAccess → Bool) (us : List NumberedAccess) (v : NumberedAccess) → AllByRecursion P us → find test us ≡ Some v → P v
find_each P test [] v each is = cc
find_each P test (u ∷ us) v each is =
    ⊎_elim
    (λ (here : test u ≡ true). let found : Some u ≡ Some v = rw here at is in let same : u ≡ v = cc in subst P same each.0)
    (λ (other : test u ≡ false). find_each P test us v each.1 (rw other at is))
    (cases_Bool (test u))

-- another search, of which the one found passes
find_again : (test other : NumberedAccess → Bool) (us : List NumberedAccess) (v : NumberedAccess) → find test us ≡ Some v → other v ≡ true → is_some (find other us) ≡ true
find_again test other [] v is passes = cc
find_again test other (u ∷ us) v is passes =
    ⊎_elim
    (λ (also : other u ≡ true). rw also refl)
    (λ (not_ : other u ≡ false). ⊎_elim
    (λ (here : test u ≡ true). let found : Some u ≡ Some v = rw here at is in let same : u ≡ v = cc in absurd (false≢true (sym not_ ∙ subst (λ x. other x ≡ true) (sym same) passes)))
    (λ (later : test u ≡ false). rw not_ (find_again test other us v (rw later at is) passes))
    (cases_Bool (test u)))
    (cases_Bool (other u))

-- a narrower search finds the same, or one that stands further back
find_pair : (P : NumberedAccess → NumberedAccess → Type 0) (wide narrow : NumberedAccess → Bool) (us : List NumberedAccess) (v u : NumberedAccess) → AllPairs P us → find wide us ≡ Some v → find narrow us ≡ Some u → wide u ≡ true → (u ≡ v) ⊎ P u v
find_pair P wide narrow [] v u pairs is found passes = cc
find_pair P wide narrow (x ∷ us) v u pairs is found passes =
    ⊎_elim
    (λ (here : wide x ≡ true).
    let first : Some x ≡ Some v = rw here at is in
    let same : x ≡ v = cc in
    ⊎_elim
    (λ (also : narrow x ≡ true). let second : Some x ≡ Some u = rw also at found in let one : x ≡ u = cc in inl (sym one ∙ same))
    (λ (later : narrow x ≡ false). inr (subst (λ y. P u y) same (find_each (λ y. P y x) narrow us u pairs.0 (rw later at found))))
    (cases_Bool (narrow x)))
    (λ (other : wide x ≡ false). ⊎_elim
    (λ (here : narrow x ≡ true). let second : Some x ≡ Some u = rw here at found in let one : x ≡ u = cc in absurd (false≢true (sym other ∙ subst (λ y. wide y ≡ true) (sym one) passes)))
    (λ (later : narrow x ≡ false). find_pair P wide narrow us v u pairs.1 (rw other at is) (rw later at found) passes)
    (cases_Bool (narrow x)))
    (cases_Bool (wide x))

-- where the one found passes a narrower search, that finds it too
find_narrow : (wide narrow : NumberedAccess → Bool) (us : List NumberedAccess) (v : NumberedAccess) → ((x : NumberedAccess) → narrow x ≡ true → wide x ≡ true) → find wide us ≡ Some v → narrow v ≡ true → find narrow us ≡ Some v
find_narrow wide narrow [] v within is passes = cc
find_narrow wide narrow (x ∷ us) v within is passes =
    ⊎_elim
    (λ (here : wide x ≡ true).
    let found : Some x ≡ Some v = rw here at is in
    let same : x ≡ v = cc in
    rw (subst (λ y. narrow y ≡ true) (sym same) passes) found)
    (λ (other : wide x ≡ false). ⊎_elim
    (λ (never : narrow x ≡ true). absurd (false≢true (sym other ∙ within x never)))
    (λ (later : narrow x ≡ false). rw later (find_narrow wide narrow us v within (rw other at is) passes))
    (cases_Bool (narrow x)))
    (cases_Bool (wide x))

-- the newest write of a byte that waits, with its entry
record IsFound (p at : ℕ) (h : List Record) (b : pending.Buffer) (rank : ℕ → ℕ) (v : NumberedAccess) : Type 0 where
  number : ℕ
  place : v.access.place ≡ Entry number
  went : went_into p number at v ≡ true
  kept : IsKeptAs rank b.kept number (line_of at) v.parts

in_line : (a s at : ℕ) → IsInLine a s → (leb a at && ltb at (a + s)) ≡ true → line_of a ≡ line_of at
in_line a s at inside has =
    let parts = and_parts (leb a at) (ltb at (a + s)) has in
    omega (arith, leb-true a at parts.0, ltb-true at (a + s) parts.1, inside.within)

found_by : (p at : ℕ) (h : List Record) (b : pending.Buffer) (v : NumberedAccess) (a : KeepsWaiting b (buffer p h)) → KnownItem h v → own_waits (times h) at p v ≡ true → IsFound p at h b a.rank v
found_by p at h b v a known own =
    let cpu = and_parts (eqb (cpu_of v) p) (is_memory_write v.access && (has_byte at v.access && is_waiting (spot (times h) (cpu_of v) v.access.place))) own in
    let write = and_parts (is_memory_write v.access) (has_byte at v.access && is_waiting (spot (times h) (cpu_of v) v.access.place)) cpu.1 in
    let both = and_parts (has_byte at v.access) (is_waiting (spot (times h) (cpu_of v) v.access.place)) write.1 in
    let last = (and_parts (spot (times h) (cpu_of v) v.access.place).placed (spot (times h) (cpu_of v) v.access.place).last both.1).1 in
    let entry = waiting_entry (times h) (cpu_of v) v.access.place last in
    let same : cpu_of v ≡ p = eqb-true (cpu_of v) p cpu.0 in
    let here : is_entry entry.0 v.access.place ≡ true = subst (λ x. is_entry entry.0 x ≡ true) (sym entry.1) (eq-eqb entry.0 entry.0 refl) in
    let went : went_into p entry.0 at v ≡ true = and_from (eqb (cpu_of v) p) (is_memory_write v.access && (has_byte at v.access && is_entry entry.0 v.access.place)) cpu.0 (and_from (is_memory_write v.access) (has_byte at v.access && is_entry entry.0 v.access.place) write.0 (and_from (has_byte at v.access) (is_entry entry.0 v.access.place) both.0 here)) in
    let none : drained h p entry.0 ≡ None = subst (λ q. drained h q entry.0 ≡ None) same entry.2 in
    let wait = into_waits p entry.0 at h v known none went in
    let line : line_of v.access.address ≡ line_of at = in_line v.access.address v.access.size at known.inside both.0 in
    record { number = entry.0; place = entry.1; went = went; kept = kept_same a.rank entry.0 (line_of at) v.parts b.kept (buffer p h).waiting (subst (λ l. waits entry.0 l v.parts (buffer p h).waiting ≡ true) line wait) a.entries }

-- an entry of which no drain is known waits: a write into it does
own_into : (p n at : ℕ) (h : List Record) (u : NumberedAccess) → drained h p n ≡ None → went_into p n at u ≡ true → own_waits (times h) at p u ≡ true
own_into p n at h u none went =
    let cpu = and_parts (eqb (cpu_of u) p) (is_memory_write u.access && (has_byte at u.access && is_entry n u.access.place)) went in
    let write = and_parts (is_memory_write u.access) (has_byte at u.access && is_entry n u.access.place) cpu.1 in
    let both = and_parts (has_byte at u.access) (is_entry n u.access.place) write.1 in
    let is : u.access.place ≡ Entry n = place_is n u.access.place both.1 in
    let own : cpu_of u ≡ p = eqb-true (cpu_of u) p cpu.0 in
    let waiting : is_waiting (spot (times h) (cpu_of u) u.access.place) ≡ true = rw (is, own, none) refl in
    and_from (eqb (cpu_of u) p) (is_memory_write u.access && (has_byte at u.access && is_waiting (spot (times h) (cpu_of u) u.access.place))) cpu.0 (and_from (is_memory_write u.access) (has_byte at u.access && is_waiting (spot (times h) (cpu_of u) u.access.place)) write.0 (and_from (has_byte at u.access) (is_waiting (spot (times h) (cpu_of u) u.access.place)) both.0 waiting))

-- the write found has the byte of a kept entry
found_has : (p at : ℕ) (h : List Record) (b : pending.Buffer) (rank : ℕ → ℕ) (v : NumberedAccess) → AllByRecursion (HasBytesOf p h) b.kept → newest_waiting p at h ≡ Some v → (f : IsFound p at h b rank v) → pending.has_byte (line_of at) (at % LINE_BYTES) f.kept.entry ≡ true
found_has p at h b rank v bytes is f =
    let e : Pending = f.kept.entry in
    let of_e : HasBytesOf p h e = each_at (HasBytesOf p h) b.kept f.kept.place e f.kept.kept bytes in
    let found : is_some (newest_in p f.number at h) ≡ true = find_again (own_waits (times h) at p) (went_into p f.number at) (accesses h) v is f.went in
    let has : has_bit e.bits (at % LINE_BYTES) ≡ true = of_e.has at (sym f.kept.line) ∙ ap (λ n. is_some (newest_in p n at h)) f.kept.number ∙ found in
    and_from (eqb e.line (line_of at)) (has_bit e.bits (at % LINE_BYTES)) (eq-eqb e.line (line_of at) f.kept.line) has

-- where no entry has the byte, no write of it waits
none_waits : (p at : ℕ) (h : List Record) (b : pending.Buffer) (o : Option NumberedAccess) → newest_waiting p at h ≡ o → RunFacts h → KeepsWaiting b (buffer p h) → AllByRecursion (HasBytesOf p h) b.kept → HasNone (line_of at) (at % LINE_BYTES) b.kept → o ≡ None
none_waits p at h b None is k a bytes none = refl
none_waits p at h b (Some v) is k a bytes none =
    let known : KnownItem h v = find_each (KnownItem h) (own_waits (times h) at p) (accesses h) v k.items is in
    let f = found_by p at h b v a known (find_passes (own_waits (times h) at p) (accesses h) v is) in
    absurd (false≢true (sym (none f.kept.place f.kept.entry f.kept.kept) ∙ found_has p at h b a.rank v bytes is f))

-- of writes into two entries of one line the newer one is not in the older entry
not_older : (p at : ℕ) (h : List Record) (b : pending.Buffer) (j i : ℕ) (e f : Pending) (u v : NumberedAccess) → RunFacts h → (a : KeepsWaiting b (buffer p h)) → slice_get b.kept j ≡ Some e → slice_get b.kept i ≡ Some f → e.line ≡ line_of at → f.line ≡ line_of at → f.number < e.number
    → KnownItem h u → went_into p e.number at u ≡ true → u.parts ≤ v.parts → a.rank f.group ≡ v.parts → drained h p e.number ≡ None → ⊥
not_older p at h b j i e f u v k a at_e at_f line_e line_f less known went parts age none =
    let before = by_number b.made b.newest b.kept i j f e a.tidy.order at_f at_e less in
    let group : f.group < e.group = ⊎_elim (λ (lower : f.group < e.group). lower) (λ (most : e.group ≤ f.group). let same : f.group ≡ e.group = omega (arith, most, before.group) in absurd (before.apart same (line_f ∙ sym line_e))) (cases_lt f.group e.group) in
    let up = a.rises f.group e.group group in
    let wait = into_waits p e.number at h u known none went in
    let kept = waits_same a.rank j e b.kept (buffer p h).waiting at_e a.entries in
    let same : u.parts ≡ a.rank e.group = ((k.sound p).single e.number (line_of u.access.address) u.parts e.line (a.rank e.group) wait kept).1 in
    omega (arith, up, same, parts, age)

own_of : (p n at : ℕ) (u : NumberedAccess) → went_into p n at u ≡ true → cpu_of u ≡ p
own_of p n at u went = eqb-true (cpu_of u) p (and_parts (eqb (cpu_of u) p) (is_memory_write u.access && (has_byte at u.access && is_entry n u.access.place)) went).0

-- the newest write into the last entry that has the byte is the newest that waits
last_waits : (p at : ℕ) (h : List Record) (b : pending.Buffer) (o w : Option NumberedAccess) → RunFacts h → KeepsWaiting b (buffer p h) → AllByRecursion (HasBytesOf p h) b.kept → (l : IsLast (line_of at) (at % LINE_BYTES) b.kept)
    → drained h p l.entry.number ≡ None → is_some o ≡ true → newest_in p l.entry.number at h ≡ o → newest_waiting p at h ≡ w → o ≡ w
last_waits p at h b None w k a bytes l none some found is = absurd (false≢true some)
last_waits p at h b (Some u) None k a bytes l none some found is =
    let went : went_into p l.entry.number at u ≡ true = find_passes (went_into p l.entry.number at) (accesses h) u found in
    let again : is_some (newest_waiting p at h) ≡ true = find_again (went_into p l.entry.number at) (own_waits (times h) at p) (accesses h) u found (own_into p l.entry.number at h u none went) in
    absurd (false≢true (sym (ap is_some is) ∙ again))
last_waits p at h b (Some u) (Some v) k a bytes l none some found is =
    let e : Pending = l.entry in
    let went : went_into p e.number at u ≡ true = find_passes (went_into p e.number at) (accesses h) u found in
    let known_u : KnownItem h u = find_each (KnownItem h) (went_into p e.number at) (accesses h) u k.items found in
    let known_v : KnownItem h v = find_each (KnownItem h) (own_waits (times h) at p) (accesses h) v k.items is in
    let f = found_by p at h b v a known_v (find_passes (own_waits (times h) at p) (accesses h) v is) in
    let most : f.kept.entry.number ≤ e.number = l.last f.kept.place f.kept.entry f.kept.kept (found_has p at h b a.rank v bytes is f) in
    let line_e : e.line ≡ line_of at = eqb-true e.line (line_of at) (and_parts (eqb e.line (line_of at)) (has_bit e.bits (at % LINE_BYTES)) l.has).0 in
    ⊎_elim
    (λ (less : f.kept.entry.number < e.number). ⊎_elim
    (λ (same : u ≡ v). ap (λ x. Some x) same)
    (λ (ok : PairOk (times h) u v). absurd (not_older p at h b l.place f.kept.place e f.kept.entry u v k a l.kept f.kept.kept line_e f.kept.line less known_u went (ok.parts (own_of p e.number at u went ∙ sym (own_of p f.number at v f.went))) f.kept.age none))
    (find_pair (PairOk (times h)) (own_waits (times h) at p) (went_into p e.number at) (accesses h) v u k.pairs is found (own_into p e.number at h u none went)))
    (λ (more : e.number ≤ f.kept.entry.number).
    let same : f.number ≡ e.number = sym f.kept.number ∙ omega (arith, most, more) in
    sym found ∙ find_narrow (own_waits (times h) at p) (went_into p e.number at) (accesses h) v (λ x into. own_into p e.number at h x none into) is (subst (λ n. went_into p n at v ≡ true) same f.went))
    (cases_lt f.kept.entry.number e.number)

byte_some : (o : Option NumberedAccess) (at x y : ℕ) → is_some o ≡ true → byte_or o at x ≡ byte_or o at y
byte_some None at x y some = absurd (false≢true some)
byte_some (Some u) at x y some = refl

pub overlaid_waits : (p at : ℕ) (h : List Record) (b : pending.Buffer) (line : List ℕ) → RunFacts h → KeepsWaiting b (buffer p h) → AllByRecursion (HasBytesOf p h) b.kept → length line ≡ LINE_BYTES → slice_index (overlaid (line_of at) b.kept line) (at % LINE_BYTES) ≡ byte_or (newest_waiting p at h) at (slice_index line (at % LINE_BYTES))
overlaid_waits p at h b line k a bytes whole =
    ⊎_elim
    (λ (l : IsLast (line_of at) (at % LINE_BYTES) b.kept).
    let e : Pending = l.entry in
    let of_e : HasBytesOf p h e = each_at (HasBytesOf p h) b.kept l.place e l.kept bytes in
    let parts = and_parts (eqb e.line (line_of at)) (has_bit e.bits (at % LINE_BYTES)) l.has in
    let line_e : e.line ≡ line_of at = eqb-true e.line (line_of at) parts.0 in
    let some : is_some (newest_in p e.number at h) ≡ true = sym (of_e.has at (sym line_e)) ∙ parts.1 in
    let wait = waits_same a.rank l.place e b.kept (buffer p h).waiting l.kept a.entries in
    let none : drained h p e.number ≡ None = ((k.sound p).waiting e.number (waits_has e.number e.line (a.rank e.group) (buffer p h).waiting wait)).0 in
    let same : newest_in p e.number at h ≡ newest_waiting p at h = last_waits p at h b (newest_in p e.number at h) (newest_waiting p at h) k a bytes l none some refl refl in
    newest_gives b l.place (line_of at) (at % LINE_BYTES) e line a.tidy (omega (arith, whole)) (omega arith) l.kept l.has l.last
    ∙ of_e.bytes at (sym line_e) parts.1
    ∙ byte_some (newest_in p e.number at h) at 0 (slice_index line (at % LINE_BYTES)) some
    ∙ ap (λ o. byte_or o at (slice_index line (at % LINE_BYTES))) same)
    (λ (none : HasNone (line_of at) (at % LINE_BYTES) b.kept).
    others_kept b.kept (line_of at) (at % LINE_BYTES) line (omega (arith, whole)) (omega arith) none
    ∙ ap (λ o. byte_or o at (slice_index line (at % LINE_BYTES))) (sym (none_waits p at h b (newest_waiting p at h) refl k a bytes none)))
    (last_or_none (line_of at) (at % LINE_BYTES) b.made b.newest b.kept a.tidy.order)
