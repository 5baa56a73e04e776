-- The sources of the accesses of a run.
use Rattle.std.proofs.Common.{true, false, ℕ, ◌<◌, ◌≤◌, ◌≡◌, eqb, ◌&&◌, List, [], ◌∷◌, ◌++◌, Option, Some, None, refl, sym, ap, ◌∙◌, subst, arith}
use Rattle.std.specs.Option.{option_or}
use Rattle.std.proofs.lemmas.Bool.{and_parts, false≢true}
use Rattle.axp_base.specs.Cpus.{cpu_number}
use Rattle.axp_regs.specs.declared.asks.Kind.{Kind}
use Rattle.axp_regs.specs.declared.asks.Kind.TheVariants as kind
use Rattle.axp_access.specs.declared.Access.{Access}
use Rattle.axp_access.specs.declared.Event.{Event}
use Rattle.axp_access.specs.declared.Outcome.TheVariants as outcome
use Rattle.axp_access.specs.declared.Place.TheVariants.{At, Entry}
use Rattle.axp_access.specs.declared.Record.{Record}
use Rattle.axp_access.specs.Kinds.{has_byte, is_write, is_memory_write}
use Rattle.axp_base.specs.Lines.{line_of}
use Rattle.axp_model.specs.Turns.{turns, stamp, code_stamp, read_place, drained}
use Rattle.axp_model.specs.Entries.{buffer, has_line}
use Rattle.axp_model.specs.Accesses.{accesses, times}
use Rattle.axp_access.specs.Numbering.{NumberedAccess, next_access}
use Rattle.axp_access.specs.Order.{Spot, spot}
use Rattle.axp_model.specs.Sources.{source, takes_bytes, byte_of_source, source_byte}
use Rattle.axp_model.specs.Memory.{own_waits, is_waiting, newest_waiting}
use Rattle.axp_model.specs.Outcomes.{IsRun}
use Rattle.axp_model.specs.Processors.{Processors, AreInLine}
use Rattle.axp_laws.specs.StorageLaws.{Makes, source_in, memory_after}
use Rattle.axp_model.specs.Storage.{HasSources, HasEachSource, KeepsEachByte, HasBytes}
use Rattle.axp_laws.proofs.RunFacts.{FitsOutcome, Fitting, KnownItem, Goes}
use Rattle.axp_laws.proofs.OrderCounts.{turns_grow, stamp_most, code_stamp_most, read_place_most}
use Rattle.axp_laws.proofs.RunRecords.{run_fits}
use Rattle.axp_laws.proofs.OrderCases.{waits_line}
use Rattle.axp_laws.proofs.OrderDrains.{entry_write}
use Rattle.axp_laws.proofs.RunSteps.{kept, each_map, turn_same}
use Rattle.axp_laws.proofs.SourceValues.{run_storage, source_more, not_itself}
use Rattle.axp_laws.proofs.SourceForwarded.{own_parts, waiting_entry}
use Rattle.axp_laws.proofs.SourceBytes.{byte-number_at}
use Rattle.axp_laws.proofs.SourceClosedForm.{source_stays_along, memory_stays, read_source, fetch_source, byte_line, find_some}

-- a source's byte is a byte
source_small : (image : ℕ → ℕ) → HasBytes image → (h : List Record) (v : NumberedAccess) (at : ℕ) → source_byte image h v at < 256
source_small image small h v at = by_source (source (times h) at v (accesses h)) where
  by_source : (o : Option NumberedAccess) → byte_of_source image at o < 256
  by_source None = small at
  by_source (Some u) = omega arith

bytes_of_value : (image : ℕ → ℕ) (h : List Record) (v : NumberedAccess) → HasBytes image → HasSources image h v → HasEachSource image h v
bytes_of_value image h v small ok takes k less = rw (ok takes) (byte-number_at (source_byte image h v) v.access.address v.access.size k (source_small image small h v) less)

pub run_bytes : (image : ℕ → ℕ) (ps : Processors) (h : List Record) → HasBytes image → AreInLine ps → IsRun image ps h → KeepsEachByte image h
run_bytes image ps h small inside run =
    each_map (HasSources image h) (HasEachSource image h) (accesses h) (λ v ok. bytes_of_value image h v small ok) (run_storage image ps h inside run)

fits_back : (more h : List Record) → Fitting (more ++ h) → Fitting h
fits_back [] h fit = fit
fits_back (r ∷ more) h fit = fits_back more h fit.1

-- a read or fetch moves nothing into memory
no_write : (k : Kind) (a : Access) → a.kind ≡ k → takes_bytes (record { number = 0; parts = 0; access = a }) ≡ true → is_write a ≡ false
no_write kind.Fetch a is e = rw is refl
no_write kind.Read a is e = rw is refl
no_write kind.Locked a is e = rw is refl
no_write _ a is e = let never : false ≡ true = rw is at e in cc

-- the entry in which an own write waits
own_entry : (h : List Record) (at p : ℕ) (u : NumberedAccess) → own_waits (times h) at p u ≡ true → (m : ℕ) × (u.access.place ≡ Entry m) × (drained h u.access.cpu.number m ≡ None)
own_entry h at p u e =
    let s : Spot = spot (times h) u.access.cpu.number u.access.place in
    let a = and_parts (eqb u.access.cpu.number p) (is_memory_write u.access && (has_byte at u.access && is_waiting s)) e in
    let m = and_parts (is_memory_write u.access) (has_byte at u.access && is_waiting s) a.1 in
    let b = and_parts (has_byte at u.access) (is_waiting s) m.1 in
    waiting_entry (times h) u.access.cpu.number u.access.place (and_parts s.placed s.last b.1).1

-- what an access of a run shows at its record
made_fits : (more : List Record) (r : Record) (h : List Record) (a : Access) (k : Kind) → Fitting (more ++ r ∷ h) → Makes r k a → (FitsOutcome (cpu_number a.cpu) (outcome.Access a) h) × Fitting h
made_fits more r h a k fit makes =
    let both = fits_back more (r ∷ h) fit in
    let shown : FitsOutcome r.event.cpu.number (outcome.Access a) h = subst (λ o. FitsOutcome r.event.cpu.number o h) makes.0 both.0 in
    (subst (λ p. FitsOutcome p (outcome.Access a) h) (sym shown.0) shown, both.1)

-- the access is no source of its own
not_own : (e : Event) (a : Access) (h : List Record) (at : ℕ) → takes_bytes (next_access (accesses h) a) ≡ true
    → source (times (record { event = e; outcome = outcome.Access a } ∷ h)) at (next_access (accesses h) a) (next_access (accesses h) a ∷ accesses h) ≡ source (times h) at (next_access (accesses h) a) (accesses h)
not_own e a h at takes =
    let r : Record = record { event = e; outcome = outcome.Access a } in
    source_more (times h) (times (r ∷ h)) at (next_access (accesses h) a) (next_access (accesses h) a) (accesses h) (turn_same r h (λ n. refl)) (not_itself (times (r ∷ h)) at (next_access (accesses h) a) takes)

stays_after_access : (more : List Record) (e : Event) (a : Access) (h : List Record) (at n : ℕ) → Fitting (more ++ record { event = e; outcome = outcome.Access a } ∷ h) → a.place ≡ At n → n ≤ turns h → takes_bytes (next_access (accesses h) a) ≡ true
    → source_in (more ++ record { event = e; outcome = outcome.Access a } ∷ h) h at a ≡ source (times h) at (next_access (accesses h) a) (accesses h)
stays_after_access more e a h at n fit vat less takes =
    let r : Record = record { event = e; outcome = outcome.Access a } in
    source_stays_along at n (next_access (accesses h) a) more (r ∷ h) fit vat (omega (arith, less, turns_grow r h)) (omega arith) ∙ not_own e a h at takes

-- later records leave the source of an access of a run
stays_after : (more : List Record) (r : Record) (h : List Record) (a : Access) (at n : ℕ) → Fitting (more ++ r ∷ h) → r.outcome ≡ outcome.Access a → a.place ≡ At n → n ≤ turns h → takes_bytes (next_access (accesses h) a) ≡ true
    → source_in (more ++ r ∷ h) h at a ≡ source (times h) at (next_access (accesses h) a) (accesses h)
stays_after more r h a at n fit is vat less takes =
    let same : record { event = r.event; outcome = outcome.Access a } ≡ r = ap (λ o. record { event = r.event; outcome = o }) (sym is) in
    subst (λ s. source_in (more ++ s ∷ h) h at a ≡ source (times h) at (next_access (accesses h) a) (accesses h)) same
    (stays_after_access more r.event a h at n (subst (λ s. Fitting (more ++ s ∷ h)) (sym same) fit) vat less takes)

read_after : (more : List Record) (r : Record) (h : List Record) (a : Access) (at : ℕ) → Fitting (more ++ r ∷ h) → Makes r kind.Read a → has_byte at a ≡ true
    → source_in (more ++ r ∷ h) h at a ≡ option_or (newest_waiting (cpu_number a.cpu) at h) (memory_after h (read_place (cpu_number a.cpu) (line_of at) h) at)
read_after more r h a at fit makes has =
    let both = made_fits more r h a kind.Read fit makes in
    let p : ℕ = cpu_number a.cpu in
    let line : line_of a.address ≡ line_of at = sym (byte_line at a both.0.1 has) in
    let vat : a.place ≡ At (read_place p (line_of at) h) = subst (λ l. a.place ≡ At (read_place p l h)) line (rw makes.1 at both.0.2).0 in
    stays_after more r h a at (read_place p (line_of at) h) fit makes.0 vat (read_place_most p (line_of at) h) (rw makes.1 refl)
    ∙ read_source h p at (read_place p (line_of at) h) (next_access (accesses h) a) both.1 (rw makes.1 refl) (rw makes.1 refl) refl vat (stamp_below p (line_of at) h) (omega arith) (newest_waiting p at h) refl where
      stamp_below : (p l : ℕ) (h : List Record) → stamp p l h ≤ read_place p l h
      stamp_below p l h = omega arith

-- of a line that no own entry has, no own write waits
pub none_waits : (h : List Record) (p at : ℕ) → Fitting h → has_line (line_of at) (buffer p h).waiting ≡ false → newest_waiting p at h ≡ None
none_waits h p at fit none = by_found (newest_waiting p at h) refl where
  by_found : (o : Option NumberedAccess) → newest_waiting p at h ≡ o → o ≡ None
  by_found None found = refl
  by_found (Some u) found =
      let k = kept h fit in
      let there = find_some (own_waits (times h) at p) (KnownItem h) (accesses h) u found k.items in
      let own = own_parts h at p u there.0 there.1 in
      let waiting = own_entry h at p u there.1 in
      let writes = entry_write u.access.kind u.access.cpu.number (line_of u.access.address) u.parts waiting.0 h (rw waiting.1 at there.0.known) in
      let goes : Goes u.access.cpu.number (line_of u.access.address) u.parts (Entry waiting.0) h = rw (writes, waiting.1) at there.0.known in
      let line : line_of at ≡ line_of u.access.address = byte_line at u.access there.0.inside own.2 in
      let found_line : has_line (line_of u.access.address) (buffer u.access.cpu.number h).waiting ≡ true = waits_line waiting.0 (line_of u.access.address) u.parts (buffer u.access.cpu.number h).waiting (goes waiting.2) in
      absurd (false≢true (sym none ∙ (rw (line, ← own.0) found_line)))

locked_after : (more : List Record) (r : Record) (h : List Record) (a : Access) (at : ℕ) → Fitting (more ++ r ∷ h) → Makes r kind.Locked a → has_byte at a ≡ true → source_in (more ++ r ∷ h) h at a ≡ memory_after h (turns h) at
locked_after more r h a at fit makes has =
    let both = made_fits more r h a kind.Locked fit makes in
    let p : ℕ = cpu_number a.cpu in
    let fits = rw makes.1 at both.0.2 in
    let line : line_of at ≡ line_of a.address = byte_line at a both.0.1 has in
    let none : newest_waiting p at h ≡ None = none_waits h p at both.1 (rw line fits.1) in
    stays_after more r h a at (turns h) fit makes.0 fits.0 (omega arith) (rw makes.1 refl)
    ∙ read_source h p at (turns h) (next_access (accesses h) a) both.1 (rw makes.1 refl) (rw makes.1 refl) refl fits.0 (stamp_most p (line_of at) h) (omega arith) None none

fetch_after : (more : List Record) (r : Record) (h : List Record) (a : Access) (at : ℕ) → Fitting (more ++ r ∷ h) → Makes r kind.Fetch a → has_byte at a ≡ true → source_in (more ++ r ∷ h) h at a ≡ memory_after h (code_stamp (cpu_number a.cpu) (line_of at) h) at
fetch_after more r h a at fit makes has =
    let both = made_fits more r h a kind.Fetch fit makes in
    let p : ℕ = cpu_number a.cpu in
    let line : line_of a.address ≡ line_of at = sym (byte_line at a both.0.1 has) in
    let vat : a.place ≡ At (code_stamp p (line_of at) h) = subst (λ l. a.place ≡ At (code_stamp p l h)) line (rw makes.1 at both.0.2).0 in
    stays_after more r h a at (code_stamp p (line_of at) h) fit makes.0 vat (code_stamp_most p (line_of at) h) (rw makes.1 refl)
    ∙ fetch_source (times h) (code_stamp p (line_of at) h) at (next_access (accesses h) a) (accesses h) (rw makes.1 refl) (rw makes.1 refl) vat

pub run_read : (image : ℕ → ℕ) (ps : Processors) (more : List Record) (r : Record) (h : List Record) (a : Access) (at : ℕ) → AreInLine ps → IsRun image ps (more ++ r ∷ h) → Makes r kind.Read a → has_byte at a ≡ true
    → source_in (more ++ r ∷ h) h at a ≡ option_or (newest_waiting (cpu_number a.cpu) at h) (memory_after h (read_place (cpu_number a.cpu) (line_of at) h) at)
run_read image ps more r h a at inside run makes has = read_after more r h a at (run_fits image ps (more ++ r ∷ h) inside run) makes has

pub run_locked : (image : ℕ → ℕ) (ps : Processors) (more : List Record) (r : Record) (h : List Record) (a : Access) (at : ℕ) → AreInLine ps → IsRun image ps (more ++ r ∷ h) → Makes r kind.Locked a → has_byte at a ≡ true
    → source_in (more ++ r ∷ h) h at a ≡ memory_after h (turns h) at
run_locked image ps more r h a at inside run makes has = locked_after more r h a at (run_fits image ps (more ++ r ∷ h) inside run) makes has

pub run_fetch : (image : ℕ → ℕ) (ps : Processors) (more : List Record) (r : Record) (h : List Record) (a : Access) (at : ℕ) → AreInLine ps → IsRun image ps (more ++ r ∷ h) → Makes r kind.Fetch a → has_byte at a ≡ true
    → source_in (more ++ r ∷ h) h at a ≡ memory_after h (code_stamp (cpu_number a.cpu) (line_of at) h) at
run_fetch image ps more r h a at inside run makes has = fetch_after more r h a at (run_fits image ps (more ++ r ∷ h) inside run) makes has

pub run_memory : (image : ℕ → ℕ) (ps : Processors) (more h : List Record) (n at : ℕ) → AreInLine ps → IsRun image ps (more ++ h) → n ≤ turns h → memory_after (more ++ h) n at ≡ memory_after h n at
run_memory image ps more h n at inside run less = memory_stays n at more h (run_fits image ps (more ++ h) inside run) less
