-- The bytes of the buffer's entries are those of the writes that went into them.
use Rattle.std.proofs.Common.{◌≡◌, ℕ, zero, suc, ◌+◌, ◌-◌, ◌%◌, ◌<◌, ◌≤◌, ◌≢◌, ⊎_elim, Bool, true, false, cond, eqb, ltb, leb, ◌&&◌, List, [], ◌∷◌, length, replicate, get_or, Option, Some, None, arith, refl, ap, sym, subst, ◌∙◌}
use Rattle.std.specs.Prelude.{slice_get, is_some, slice_index}
use Rattle.std.specs.List.{AllByRecursion, find, remove}
use Rattle.std.proofs.lemmas.Bool.{cases_Bool, cases_lt, and_parts, and_from, and_left, and_right, eqb-true, eq-eqb, lt-ltb, le-ltb, le-leb, lt-leb, leb-true, ltb-true, false≢true}
use Rattle.std.proofs.lemmas.List.{length-replicate}
use Rattle.axp_base.specs.Masks.{has_bit, span_of}
use Rattle.axp_base.specs.Parts.{byte, with_part}
use Rattle.axp_base.specs.declared.lines.TheConstants.{LINE_BYTES}
use Rattle.axp_base.specs.declared.processors.Cpu.{Cpu}
use Rattle.axp_base.proofs.PartLemmas.{get_or-with_part, length-with_part}
use Rattle.axp_base.proofs.SpanLemmas.{span_above, span_below, span_inside}
use Rattle.axp_regs.specs.declared.asks.Kind.TheVariants as kind
use Rattle.axp_access.specs.declared.Access.{Access}
use Rattle.axp_access.specs.declared.Event.{Event}
use Rattle.axp_access.specs.declared.Place.{Place}
use Rattle.axp_access.specs.declared.Place.TheVariants.{At, Entry, Absent}
use Rattle.axp_access.specs.declared.Record.{Record}
use Rattle.axp_wbuf.specs.Pending.{Pending, AreInOrder, IsMade, PrecedesAll, is_at, made_by, number_at_line, put_into, with_store}
use Rattle.axp_wbuf.proofs.Overlays.{byte_left, has_joined, has_other}
use Rattle.axp_wbuf.proofs.Pairs.{same_entry, no_entry}
use Rattle.axp_model.specs.Entries.{buffer}
use Rattle.axp_model.specs.Accesses.{accesses, with_access}
use Rattle.axp_access.specs.Numbering.{NumberedAccess, cpu_of, next_access}
use Rattle.axp_model.specs.Records.{access_in}
use Rattle.axp_access.specs.Kinds.{has_byte, is_memory_write}
use Rattle.axp_base.specs.Lines.{line_of}
use Rattle.axp_model.specs.Turns.{drained}
use Rattle.axp_laws.proofs.OrderDrains.{entry_write}
use Rattle.axp_laws.proofs.OrderCases.{acc}
use Rattle.axp_laws.proofs.RunFacts.{Goes, RunFacts, KnownItem, waits}
use Rattle.axp_laws.proofs.RunKnown as knows
use Rattle.axp_laws.proofs.RunKnown.{waits_has}
use Rattle.axp_laws.proofs.RunSteps.{each_map}
use Rattle.axp_world.proofs.Agreement.{HasBytesOf, byte_or, is_entry, newest_in, went_into}

-- the bits of a span are the bytes of its access
pub span_same : (a s at : ℕ) → a % LINE_BYTES + s ≤ LINE_BYTES → line_of at ≡ line_of a → has_bit (span_of a s) (at % LINE_BYTES) ≡ (leb a at && ltb at (a + s))
span_same a s at within line =
    ⊎_elim
    (λ (before : at < a). ap (λ b. eqb b 1) (span_below a s (at % LINE_BYTES) (omega (arith, before, line))) ∙ sym (and_left (leb a at) (ltb at (a + s)) (lt-leb a at before)))
    (λ (from : a ≤ at). ⊎_elim
    (λ (inside : at < a + s). ap (λ b. eqb b 1) (span_inside a s (at % LINE_BYTES) (omega (arith, from, line)) (omega (arith, from, inside, line, within))) ∙ sym (and_from (leb a at) (ltb at (a + s)) (le-leb a at from) (lt-ltb at (a + s) inside)))
    (λ (past : a + s ≤ at). ap (λ b. eqb b 1) (span_above a s (at % LINE_BYTES) (omega (arith, past, line, within))) ∙ sym (and_right (leb a at) (ltb at (a + s)) (le-ltb at (a + s) past)))
    (cases_lt at (a + s)))
    (cases_lt at a)

-- the newest write of a byte in an entry, where a record shows no write into it
find_with : (p n at : ℕ) (o : Option Access) (us : List NumberedAccess) → ((a : Access) → o ≡ Some a → went_into p n at (next_access us a) ≡ false) → find (went_into p n at) (with_access o us) ≡ find (went_into p n at) us
find_with p n at None us none = refl
find_with p n at (Some a) us none = rw (none a refl) refl

pub newest_same : (p n at : ℕ) (r : Record) (h : List Record) → ((a : Access) → access_in r.event.cpu r.outcome ≡ Some a → went_into p n at (next_access (accesses h) a) ≡ false) → newest_in p n at (r ∷ h) ≡ newest_in p n at h
newest_same p n at r h none = find_with p n at (access_in r.event.cpu r.outcome) (accesses h) none

-- and where it shows one
and_true : (b : Bool) → (b && true) ≡ b
and_true true = refl
and_true false = refl

pub newest_now : (p n at : ℕ) (e : Event) (c : Cpu) (a s x : ℕ) (y : Bool) (h : List Record) → c.number ≡ p
    → newest_in p n at (knows.made_by e (acc c kind.Write a s x y (Entry n)) ∷ h) ≡ cond (leb a at && ltb at (a + s)) (Some (next_access (accesses h) (acc c kind.Write a s x y (Entry n)))) (newest_in p n at h)
newest_now p n at e c a s x y h own =
    ap (λ b. cond b (Some (next_access (accesses h) (acc c kind.Write a s x y (Entry n)))) (newest_in p n at h))
    (ap (λ b. b && ((leb a at && ltb at (a + s)) && eqb n n)) (eq-eqb c.number p own) ∙ ap (λ b. (leb a at && ltb at (a + s)) && b) (eq-eqb n n refl) ∙ and_true (leb a at && ltb at (a + s)))

-- an entry has its bytes still
pub bytes_stay : (p : ℕ) (r : Record) (h : List Record) (e : Pending) → ((at : ℕ) → newest_in p e.number at (r ∷ h) ≡ newest_in p e.number at h) → HasBytesOf p h e → HasBytesOf p (r ∷ h) e
bytes_stay p r h e same was = record {
  whole = was.whole;
  has = λ at line. was.has at line ∙ ap is_some (sym (same at));
  bytes = λ at line set. was.bytes at line set ∙ ap (λ o. byte_or o at 0) (sym (same at));
}

-- a byte that a write puts
put_at : (bytes : List ℕ) (a s x at : ℕ) → a % LINE_BYTES + s ≤ LINE_BYTES → length bytes ≡ LINE_BYTES → line_of at ≡ line_of a → (leb a at && ltb at (a + s)) ≡ true → slice_index (with_part bytes (a % LINE_BYTES) s x) (at % LINE_BYTES) ≡ byte x (at - a)
put_at bytes a s x at within whole line inside =
    let parts = and_parts (leb a at) (ltb at (a + s)) inside in
    let from : a ≤ at = leb-true a at parts.0 in
    let below : at < a + s = ltb-true at (a + s) parts.1 in
    let place : at % LINE_BYTES ≡ a % LINE_BYTES + (at - a) = omega (arith, from, below, line, within) in
    ap (λ k. get_or (with_part bytes (a % LINE_BYTES) s x) k 0) place ∙ get_or-with_part bytes (a % LINE_BYTES) s x (at - a) (omega (arith, within, whole)) (omega (arith, from, below))

-- a write's bytes are put into an entry
pub bytes_merged : (p : ℕ) (e : Event) (c : Cpu) (a s x : ℕ) (y : Bool) (h : List Record) (f : Pending) → c.number ≡ p → a % LINE_BYTES + s ≤ LINE_BYTES → length f.bytes ≡ LINE_BYTES → f.line ≡ line_of a → HasBytesOf p h f
    → HasBytesOf p (knows.made_by e (acc c kind.Write a s x y (Entry f.number)) ∷ h) (with_store a s x f)
bytes_merged p e c a s x y h f own within whole of_line was =
    let new : NumberedAccess = next_access (accesses h) (acc c kind.Write a s x y (Entry f.number)) in
    record {
      whole = length-with_part f.bytes (a % LINE_BYTES) s x ∙ whole;
      has = λ at line.
          let span = span_same a s at within (line ∙ of_line) in
          let now = newest_now p f.number at e c a s x y h own in
          ⊎_elim
          (λ (inside : (leb a at && ltb at (a + s)) ≡ true). has_joined f.bits a s (at % LINE_BYTES) (span ∙ inside) ∙ sym (ap is_some (now ∙ ap (λ b. cond b (Some new) (newest_in p f.number at h)) inside)))
          (λ (outside : (leb a at && ltb at (a + s)) ≡ false). has_other f.bits a s (at % LINE_BYTES) (span ∙ outside) ∙ was.has at line ∙ sym (ap is_some (now ∙ ap (λ b. cond b (Some new) (newest_in p f.number at h)) outside)))
          (cases_Bool (leb a at && ltb at (a + s)));
      bytes = λ at line set.
          let span = span_same a s at within (line ∙ of_line) in
          let now = newest_now p f.number at e c a s x y h own in
          ⊎_elim
          (λ (inside : (leb a at && ltb at (a + s)) ≡ true). put_at f.bytes a s x at within whole (line ∙ of_line) inside ∙ sym (ap (λ o. byte_or o at 0) (now ∙ ap (λ b. cond b (Some new) (newest_in p f.number at h)) inside)))
          (λ (outside : (leb a at && ltb at (a + s)) ≡ false). byte_left f.bytes a s x (at % LINE_BYTES) (span ∙ outside) ∙ was.bytes at line (sym (has_other f.bits a s (at % LINE_BYTES) (span ∙ outside)) ∙ set) ∙ sym (ap (λ o. byte_or o at 0) (now ∙ ap (λ b. cond b (Some new) (newest_in p f.number at h)) outside)))
          (cases_Bool (leb a at && ltb at (a + s)));
    }

-- an entry that a write makes has its bytes alone
pub bytes_made : (p n group : ℕ) (e : Event) (c : Cpu) (a s x : ℕ) (y : Bool) (h : List Record) → c.number ≡ p → a % LINE_BYTES + s ≤ LINE_BYTES → ((at : ℕ) → newest_in p n at h ≡ None)
    → HasBytesOf p (knows.made_by e (acc c kind.Write a s x y (Entry n)) ∷ h) (made_by n group a s x)
bytes_made p n group e c a s x y h own within none =
    let new : NumberedAccess = next_access (accesses h) (acc c kind.Write a s x y (Entry n)) in
    record {
      whole = length-with_part (replicate LINE_BYTES 0) (a % LINE_BYTES) s x ∙ length-replicate {A = ℕ} LINE_BYTES 0;
      has = λ at line.
          let span = span_same a s at within line in
          let now = newest_now p n at e c a s x y h own in
          ⊎_elim
          (λ (inside : (leb a at && ltb at (a + s)) ≡ true). span ∙ inside ∙ sym (ap is_some (now ∙ ap (λ b. cond b (Some new) (newest_in p n at h)) inside)))
          (λ (outside : (leb a at && ltb at (a + s)) ≡ false). span ∙ outside ∙ sym (ap is_some (now ∙ ap (λ b. cond b (Some new) (newest_in p n at h)) outside ∙ none at)))
          (cases_Bool (leb a at && ltb at (a + s)));
      bytes = λ at line set.
          let span = span_same a s at within line in
          let now = newest_now p n at e c a s x y h own in
          let inside : (leb a at && ltb at (a + s)) ≡ true = sym span ∙ set in
          put_at (replicate LINE_BYTES 0) a s x at within (length-replicate {A = ℕ} LINE_BYTES 0) line inside ∙ sym (ap (λ o. byte_or o at 0) (now ∙ ap (λ b. cond b (Some new) (newest_in p n at h)) inside));
    }

-- no write went into an entry that is not made yet
find_none : (test : NumberedAccess → Bool) (us : List NumberedAccess) → AllByRecursion (λ u. test u ≡ false) us → find test us ≡ None
find_none test [] none = refl
find_none test (u ∷ us) none = rw none.0 (find_none test us none.1)

pub place_is : (n : ℕ) (at : Place) → is_entry n at ≡ true → at ≡ Entry n
place_is n (At t) is = absurd (false≢true is)
place_is n (Entry m) is = ap (λ k. Entry k) (eqb-true m n is)
place_is n Absent is = absurd (false≢true is)

-- a write into an entry that no drain has named is of one that waits
pub into_waits : (p n at : ℕ) (h : List Record) (u : NumberedAccess) → KnownItem h u → drained h p n ≡ None → went_into p n at u ≡ true → waits n (line_of u.access.address) u.parts (buffer p h).waiting ≡ true
into_waits p n at h u known none went =
    let cpu = and_parts (eqb (cpu_of u) p) (is_memory_write u.access && (has_byte at u.access && is_entry n u.access.place)) went in
    let write = and_parts (is_memory_write u.access) (has_byte at u.access && is_entry n u.access.place) cpu.1 in
    let both = and_parts (has_byte at u.access) (is_entry n u.access.place) write.1 in
    let is : u.access.place ≡ Entry n = place_is n u.access.place both.1 in
    let own : u.access.cpu.number ≡ p = eqb-true (cpu_of u) p cpu.0 in
    let plain : u.access.kind ≡ kind.Write = entry_write u.access.kind u.access.cpu.number (line_of u.access.address) u.parts n h (rw is at known.known) in
    let goes : Goes p (line_of u.access.address) u.parts (Entry n) h = rw (plain, is, own) at known.known in
    goes none

pub none_above : (p n : ℕ) (h : List Record) → RunFacts h → (buffer p h).made < n → (at : ℕ) → newest_in p n at h ≡ None
none_above p n h k above at =
    find_none (went_into p n at) (accesses h)
    (each_map (KnownItem h) (λ u. went_into p n at u ≡ false) (accesses h)
    (λ u known. ⊎_elim
    (λ (went : went_into p n at u ≡ true).
    let wait = into_waits p n at h u known ((k.sound p).above n above) went in
    let most = ((k.sound p).waiting n (waits_has n (line_of u.access.address) u.parts (buffer p h).waiting wait)).1 in
    absurd (omega (arith, above, most)))
    (λ (other : went_into p n at u ≡ false). other)
    (cases_Bool (went_into p n at u)))
    k.items)

-- each entry after a write: the one that it goes into, the others, and one that it makes
number_after : (newest l next : ℕ) (e : Pending) (es : List Pending) → PrecedesAll e es → e.number < next → e.number < number_at_line newest l next es
unfolding number_at_line
number_after newest l next e [] all less = less
number_after newest l next e (f ∷ es) all less =
    ⊎_elim
    (λ (here : is_at newest l f ≡ true). rw here all.0.number)
    (λ (other : is_at newest l f ≡ false). rw other (number_after newest l next e es all.1 less))
    (cases_Bool (is_at newest l f))

others_each : (P Q : Pending → Type 0) (n : ℕ) (e : Pending) (es : List Pending) → e.number ≡ n → PrecedesAll e es → AllByRecursion P es → ((f : Pending) → f.number ≢ n → P f → Q f) → AllByRecursion Q es
others_each P Q n e [] is all each other = tt
others_each P Q n e (f ∷ es) is all each other = (other f (λ same. absurd (omega (arith, same, is, all.0.number))) each.0, others_each P Q n e es is all.1 each.1 other)

pub put_each : (P Q : Pending → Type 0) (made newest l next n : ℕ) (change : Pending → Pending) (new : Pending) (es : List Pending) → AreInOrder made newest es → made < next → number_at_line newest l next es ≡ n → AllByRecursion P es
    → ((e : Pending) → IsMade made newest e → e.number ≡ n → e.line ≡ l → P e → Q (change e)) → ((e : Pending) → e.number ≢ n → P e → Q e) → (next ≡ n → Q new) → AllByRecursion Q (put_into newest l change new es)
unfolding number_at_line put_into
put_each P Q made newest l next n change new [] order less is each changed other fresh = (fresh is, tt)
put_each P Q made newest l next n change new (e ∷ es) order less is each changed other fresh =
    ⊎_elim
    (λ (here : is_at newest l e ≡ true).
    let number : e.number ≡ n = rw here at is in
    let line : e.line ≡ l = eqb-true e.line l (and_parts (eqb e.group newest) (eqb e.line l) here).1 in
    rw here (changed e order.0 number line each.0, others_each P Q n e es number order.1.0 each.1 other))
    (λ (later : is_at newest l e ≡ false).
    let rest : number_at_line newest l next es ≡ n = rw later at is in
    let apart : e.number ≢ n = λ same. absurd (omega (arith, same, rest, number_after newest l next e es order.1.0 (omega (arith, order.0.number, less)))) in
    rw later (other e apart each.0, put_each P Q made newest l next n change new es order.1.1 less rest each.1 changed other fresh))
    (cases_Bool (is_at newest l e))

pub each_removed : (P : Pending → Type 0) (es : List Pending) (k : ℕ) → AllByRecursion P es → AllByRecursion P (remove es k)
each_removed P [] zero each = tt
each_removed P [] (suc k) each = tt
each_removed P (e ∷ es) zero each = each.1
each_removed P (e ∷ es) (suc k) each = (each.0, each_removed P es k each.1)

pub each_at : (P : Pending → Type 0) (es : List Pending) (k : ℕ) (e : Pending) → slice_get es k ≡ Some e → AllByRecursion P es → P e
each_at P [] k e is each = absurd (no_entry e is)
each_at P (f ∷ es) zero e is each = subst P (same_entry f e is) each.0
each_at P (f ∷ es) (suc k) e is each = each_at P es k e is each.1
