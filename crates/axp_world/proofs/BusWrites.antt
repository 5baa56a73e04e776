-- The bytes that a call writes are those of the writes that its record puts into memory.
use Rattle.std.proofs.Common.{true, false, ℕ, zero, suc, ◌+◌, ◌-◌, ◌*◌, ◌%◌, ◌^◌, ◌<◌, ◌≤◌, ◌≡◌, ⊎_elim, eqb, ltb, leb, cond, ◌&&◌, List, [], ◌∷◌, length, replicate, get_or, slice_get, slice_index, Option, Some, None, is_some, refl, sym, ap, ◌∙◌, subst, arith}
use Rattle.std.specs.Option.{option_or}
use Rattle.std.proofs.lemmas.Bool.{cases_Bool, and_parts, cases_lt, lt-ltb, le-ltb, le-leb, lt-leb, leb-true, ltb-true, eqb-true, eq-eqb, false≢true}
use Rattle.std.proofs.lemmas.List.{length-replicate}
use Rattle.axp_base.specs.Cpus.{cpu_number}
use Rattle.axp_base.specs.Lines.{line_number, line_of, line_at, line_numbered}
use Rattle.axp_base.specs.Masks.{has_bit, span_of}
use Rattle.axp_base.specs.Parts.{byte, with_part}
use Rattle.axp_base.specs.declared.lines.Line.{Line}
use Rattle.axp_base.specs.declared.lines.TheConstants.{LINE_BYTES}
use Rattle.axp_base.proofs.PartLemmas.{get_or-with_part}
use Rattle.axp_base.proofs.SpanLemmas.{span_inside, span_below, span_above}
use Rattle.axp_access.specs.declared.Access.{Access}
use Rattle.axp_access.specs.declared.Event.{Event}
use Rattle.axp_access.specs.declared.Outcome.TheVariants as outcome
use Rattle.axp_access.specs.declared.Place.TheVariants.{At, Entry}
use Rattle.axp_access.specs.declared.Record.{Record}
use Rattle.axp_line.specs.Lines.{bytes_of_line, data_of}
use Rattle.axp_line.specs.BusCalls.{Written, overwritten, stored_bytes}
use Rattle.axp_model.specs.Entries.{Waiting, buffer}
use Rattle.axp_model.specs.Memory.{memory_source, memory_byte}
use Rattle.axp_model.specs.Processors.{IsInLine}
use Rattle.axp_model.specs.Accesses.{accesses, times}
use Rattle.axp_access.specs.Numbering.{NumberedAccess}
use Rattle.axp_access.specs.Kinds.{has_byte, is_memory_write}
use Rattle.axp_model.specs.Sources.{byte_of_source}
use Rattle.axp_model.specs.Turns.{turns}
use Rattle.axp_laws.proofs.SourceClosedForm.{byte_line, find_some}
use Rattle.axp_laws.proofs.OrderDrains.{entry_write}
use Rattle.axp_base.proofs.LineLemmas.{line_by-number}
use Rattle.axp_laws.proofs.RunRecords.{line_at-number}
use Rattle.axp_laws.proofs.RunFacts.{Fitting, Goes, KnownItem, RunFacts, Named}
use Rattle.axp_laws.proofs.SourceTurns.{named_line}
use Rattle.axp_laws.proofs.RunSteps.{kept}
use Rattle.axp_wbuf.specs.Pending.{Pending}
use Rattle.axp_world.proofs.Agreement.{AreEntriesOf, HasBytesOf, IsEntryOf, byte_or, newest_in, went_into}
use Rattle.axp_world.proofs.BusMemory.{memory_stored, memory_drained, went_parts}
use Rattle.axp_world.proofs.BusLines.{data_bytes}

-- the bits of an access's span are those of its bytes
pub span_byte : (address size at : ℕ) (a : Access) → a.address ≡ address → a.size ≡ size → IsInLine address size → line_of at ≡ line_of address → has_bit (span_of address size) (at % LINE_BYTES) ≡ has_byte at a
span_byte address size at a is_address is_size inside same =
    let within = inside.within in
    rw (is_address, is_size)
    (⊎_elim
    (λ (low : at < address).
    ap (λ b. eqb b 1) (span_below address size (at % LINE_BYTES) (omega (arith, same, low))) ∙ rw (lt-leb address at low) refl)
    (λ (from : address ≤ at).
    ⊎_elim
    (λ (within_it : at < address + size).
    ap (λ b. eqb b 1) (span_inside address size (at % LINE_BYTES) (omega (arith, same, from)) (omega (arith, same, from, within_it)))
    ∙ rw (le-leb address at from, lt-ltb at (address + size) within_it) refl)
    (λ (past : address + size ≤ at).
    ap (λ b. eqb b 1) (span_above address size (at % LINE_BYTES) (omega (arith, same, past, within)))
    ∙ rw (le-leb address at from, le-ltb at (address + size) past) refl)
    (cases_lt at (address + size)))
    (cases_lt at address))

-- and the bytes that are stored are those of its value
pub stored_byte : (address size value at : ℕ) → IsInLine address size → line_of at ≡ line_of address → address ≤ at → at < address + size → slice_index (stored_bytes address size value) (at % LINE_BYTES) ≡ byte value (at - address)
stored_byte address size value at inside same from below =
    let within = inside.within in
    let whole : length (replicate {A = ℕ} LINE_BYTES 0) ≡ LINE_BYTES = length-replicate {A = ℕ} LINE_BYTES 0 in
    let place : at % LINE_BYTES ≡ address % LINE_BYTES + (at - address) = omega (arith, same, from, below, within) in
    ap (λ k. get_or (with_part (replicate LINE_BYTES 0) (address % LINE_BYTES) size value) k 0) place
    ∙ get_or-with_part (replicate LINE_BYTES 0) (address % LINE_BYTES) size value (at - address) (omega (arith, within, whole)) (omega (arith, from, below))

-- what a store-conditional writes, where it succeeds
abbrev pub store_of : Access → Written
store_of a = record { line = line_at a.address; bits = span_of a.address a.size; bytes = stored_bytes a.address a.size a.value }

store_test : (a : Access) (at : ℕ) → IsInLine a.address a.size → (eqb (line_of at) (line_number (line_at a.address)) && has_bit (span_of a.address a.size) (at % LINE_BYTES)) ≡ has_byte at a
store_test a at inside =
    ap (λ n. eqb (line_of at) n && has_bit (span_of a.address a.size) (at % LINE_BYTES)) (line_at-number a.address inside.addressed)
    ∙ ⊎_elim
    (λ (same : eqb (line_of at) (line_of a.address) ≡ true). rw same (span_byte a.address a.size at a refl refl inside (eqb-true (line_of at) (line_of a.address) same)))
    (λ (other : eqb (line_of at) (line_of a.address) ≡ false). rw other (sym (no_byte other)))
    (cases_Bool (eqb (line_of at) (line_of a.address))) where
      no_byte : eqb (line_of at) (line_of a.address) ≡ false → has_byte at a ≡ false
      no_byte other =
          ⊎_elim
          (λ (has : has_byte at a ≡ true). absurd (false≢true (sym other ∙ eq-eqb (line_of at) (line_of a.address) (byte_line at a inside has))))
          (λ (none : has_byte at a ≡ false). none)
          (cases_Bool (has_byte at a))

pub stored_memory : (image : ℕ → ℕ) (e : Event) (a : Access) (h : List Record) (at : ℕ) → IsInLine a.address a.size → RunFacts h → is_memory_write a ≡ true → a.place ≡ At (turns h + 1)
    → overwritten (Some (store_of a)) (memory_byte image h (turns h)) at ≡ memory_byte image (record { event = e; outcome = outcome.Access a } ∷ h) (turns h + 1) at
stored_memory image e a h at inside k write place =
    ⊎_elim
    (λ (has : has_byte at a ≡ true).
    let parts = and_parts (leb a.address at) (ltb at (a.address + a.size)) has in
    let now : byte_of_source image at (memory_source (times (record { event = e; outcome = outcome.Access a } ∷ h)) (turns h + 1) at (accesses (record { event = e; outcome = outcome.Access a } ∷ h))) ≡ byte a.value (at - a.address) =
    ap (byte_of_source image at) (memory_stored e a h at k write place) ∙ rw has refl in
    ap (λ b. cond b (slice_index (stored_bytes a.address a.size a.value) (at % LINE_BYTES)) (memory_byte image h (turns h) at)) (store_test a at inside ∙ has)
    ∙ stored_byte a.address a.size a.value at inside (byte_line at a inside has) (leb-true a.address at parts.0) (ltb-true at (a.address + a.size) parts.1)
    ∙ sym now)
    (λ (none : has_byte at a ≡ false).
    let now : byte_of_source image at (memory_source (times (record { event = e; outcome = outcome.Access a } ∷ h)) (turns h + 1) at (accesses (record { event = e; outcome = outcome.Access a } ∷ h))) ≡ memory_byte image h (turns h) at =
    ap (byte_of_source image at) (memory_stored e a h at k write place) ∙ rw none refl in
    ap (λ b. cond b (slice_index (stored_bytes a.address a.size a.value) (at % LINE_BYTES)) (memory_byte image h (turns h) at)) (store_test a at inside ∙ none)
    ∙ sym now)
    (cases_Bool (has_byte at a))

-- the entry of this number in the model's list
pub entry_waits : (es : List Pending) (ws : List Waiting) (k : ℕ) (e : Pending) → AreEntriesOf es ws → slice_get es k ≡ Some e → (w : Waiting) × (slice_get ws k ≡ Some w) × IsEntryOf e w
entry_waits [] ws k e are is = cc
entry_waits (x ∷ es) [] k e are is = absurd are
entry_waits (x ∷ es) (w ∷ ws) zero e are is = let same : x ≡ e = cc in (w, refl, subst (λ y. IsEntryOf y w) same are.0)
entry_waits (x ∷ es) (w ∷ ws) (suc k) e are is = entry_waits es ws k e are.1 is

-- an entry's line has addresses
pub entry_line : (e : Pending) (w : Waiting) → IsEntryOf e w → line_number (line_numbered e.line) ≡ e.line
entry_line e w is = line_by-number e.line (ltb (e.line * LINE_BYTES) (2 ^ 64)) refl (ap (λ n. ltb (n * LINE_BYTES) (2 ^ 64)) is.line ∙ w.line.addressed)

pub data_of-bytes : (bytes : List ℕ) → length bytes ≡ LINE_BYTES → bytes_of_line (data_of bytes) ≡ bytes
data_of-bytes bytes whole = data_bytes bytes (eqb (length bytes) LINE_BYTES) refl (eq-eqb (length bytes) LINE_BYTES whole)

-- what a drain writes
abbrev pub drain_of : Pending → Written
drain_of e = record { line = line_numbered e.line; bits = e.bits; bytes = bytes_of_line (data_of e.bytes) }

-- a write of the entry that a drain names is in the drain's line
drained_line : (p n l at : ℕ) (h : List Record) (u : NumberedAccess) → RunFacts h → Named n l (buffer p h).waiting → KnownItem h u → went_into p n at u ≡ true → line_of at ≡ l
drained_line p n l at h u k named known went =
    let parts = went_parts p n at u went in
    let write = entry_write u.access.kind u.access.cpu.number (line_of u.access.address) u.parts n h (rw parts.0.1 at known.known) in
    let goes : Goes p (line_of u.access.address) u.parts (Entry n) h = rw (write, parts.0.1, parts.0.0) at known.known in
    byte_line at u.access known.inside parts.2 ∙ sym (named_line p n l (line_of u.access.address) u.parts h named k goes)

drain_by : (image : ℕ → ℕ) (p : ℕ) (e : Pending) (h : List Record) (at : ℕ) → RunFacts h → Named e.number e.line (buffer p h).waiting → HasBytesOf p h e → (o : Option NumberedAccess) → newest_in p e.number at h ≡ o
    → cond (eqb (line_of at) e.line && has_bit e.bits (at % LINE_BYTES)) (slice_index e.bytes (at % LINE_BYTES)) (memory_byte image h (turns h) at) ≡ byte_of_source image at (option_or o (memory_source (times h) (turns h) at (accesses h)))
drain_by image p e h at k named bytes None found =
    ⊎_elim
    (λ (same : eqb (line_of at) e.line ≡ true).
    let bit : has_bit e.bits (at % LINE_BYTES) ≡ false = bytes.has at (eqb-true (line_of at) e.line same) ∙ ap is_some found in
    rw same (rw bit refl))
    (λ (other : eqb (line_of at) e.line ≡ false). rw other refl)
    (cases_Bool (eqb (line_of at) e.line))
drain_by image p e h at k named bytes (Some u) found =
    let there = find_some (went_into p e.number at) (KnownItem h) (accesses h) u found k.items in
    let line : line_of at ≡ e.line = drained_line p e.number e.line at h u k named there.0 there.1 in
    let bit : has_bit e.bits (at % LINE_BYTES) ≡ true = bytes.has at line ∙ ap is_some found in
    let value : slice_index e.bytes (at % LINE_BYTES) ≡ byte u.access.value (at - u.access.address) = bytes.bytes at line bit ∙ ap (λ o. byte_or o at 0) found in
    rw (eq-eqb (line_of at) e.line line) (rw bit value)

pub drained_memory : (image : ℕ → ℕ) (ev : Event) (t : ℕ) (l : Line) (e : Pending) (w : Waiting) (h : List Record) (at : ℕ) → Fitting (record { event = ev; outcome = outcome.Drained e.number l t } ∷ h) → IsEntryOf e w → line_number l ≡ e.line → HasBytesOf (cpu_number ev.cpu) h e
    → overwritten (Some (drain_of e)) (memory_byte image h (turns h)) at ≡ memory_byte image (record { event = ev; outcome = outcome.Drained e.number l t } ∷ h) (turns h + 1) at
drained_memory image ev t l e w h at fit is line bytes =
    ap (λ n. cond (eqb (line_of at) n && has_bit e.bits (at % LINE_BYTES)) (slice_index (bytes_of_line (data_of e.bytes)) (at % LINE_BYTES)) (memory_byte image h (turns h) at)) (entry_line e w is)
    ∙ ap (λ xs. cond (eqb (line_of at) e.line && has_bit e.bits (at % LINE_BYTES)) (slice_index xs (at % LINE_BYTES)) (memory_byte image h (turns h) at)) (data_of-bytes e.bytes bytes.whole)
    ∙ drain_by image (cpu_number ev.cpu) e h at (kept h fit.1) (subst (λ n. Named e.number n (buffer (cpu_number ev.cpu) h).waiting) line fit.0.1) bytes (newest_in (cpu_number ev.cpu) e.number at h) refl
    ∙ sym (ap (byte_of_source image at) (memory_drained ev e.number t l h at fit))
