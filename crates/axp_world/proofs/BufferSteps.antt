-- The write buffer keeps what waits, bytes and all: by each record of a history.
use Rattle.std.proofs.Common.{◌≡◌, ℕ, ◌+◌, ◌/◌, ◌≢◌, Bool, true, false, eqb, ◌&&◌, List, ◌∷◌, Some, arith, refl, ap, sym, subst, ◌∙◌}
use Rattle.std.specs.Prelude.{slice_get}
use Rattle.std.specs.List.{AllByRecursion}
use Rattle.std.proofs.lemmas.Bool.{and_left, and_right, eq-eqb, ne_eqb, eqb-false}
use Rattle.axp_base.specs.Cpus.{cpu_number}
use Rattle.axp_base.specs.declared.lines.Line.{Line}
use Rattle.axp_base.specs.declared.lines.TheConstants.{LINE_BYTES}
use Rattle.axp_base.specs.declared.processors.Cpu.{Cpu}
use Rattle.axp_regs.specs.declared.asks.Kind.{Kind}
use Rattle.axp_regs.specs.declared.asks.Kind.TheVariants as kind
use Rattle.axp_access.specs.declared.Access.{Access}
use Rattle.axp_access.specs.declared.Event.{Event}
use Rattle.axp_access.specs.declared.Outcome.{Outcome}
use Rattle.axp_access.specs.declared.Outcome.TheVariants as outcome
use Rattle.axp_access.specs.declared.Place.{Place}
use Rattle.axp_access.specs.declared.Place.TheVariants.{At, Entry}
use Rattle.axp_access.specs.declared.Record.{Record}
use Rattle.axp_wbuf.specs.Drains as drains
use Rattle.axp_wbuf.specs.Drains.{oldest_group}
use Rattle.axp_wbuf.specs.Pending as pending
use Rattle.axp_wbuf.specs.Pending.{Pending, closed, made_by, store_number, stored, with_store}
use Rattle.axp_wbuf.proofs.Pairs.{oldest_entry}
use Rattle.axp_model.specs.Entries.{Buffer, buffer, buffer_after}
use Rattle.axp_model.specs.Processors.{IsInLine}
use Rattle.axp_model.specs.Accesses.{accesses}
use Rattle.axp_access.specs.Numbering.{NumberedAccess, cpu_of, next_access}
use Rattle.axp_model.specs.Records.{access_in, is_of}
use Rattle.axp_access.specs.Kinds.{has_byte, is_memory_write, is_plain_write, is_write_barrier}
use Rattle.axp_base.specs.Lines.{line_at, line_of}
use Rattle.axp_laws.proofs.RunRecords.{line_at-number}
use Rattle.axp_laws.proofs.OrderCases.{acc}
use Rattle.axp_laws.proofs.RunFacts.{Fits, FitsOutcome, Fitting}
use Rattle.axp_laws.proofs.RunKnown as knows
use Rattle.axp_laws.proofs.RunSteps.{each_map, kept}
use Rattle.axp_world.proofs.Agreement.{BufferAgrees, HasBytesOf, is_entry, newest_in, went_into}
use Rattle.axp_world.proofs.BufferEntries.{KeepsWaiting, alike_closed, alike_drained, alike_stored, closed_alike, line_alike, none_alike, number_alike, oldest_alike, takes_alike}
use Rattle.axp_world.proofs.BufferBytes.{bytes_made, bytes_merged, bytes_stay, each_at, each_removed, newest_same, none_above, put_each}
use Rattle.axp_world.proofs.BufferOverlays.{overlaid_waits}

-- what a processor's buffer keeps after a history of records that fit
pub record IsBuffered (p : ℕ) (h : List Record) (b : pending.Buffer) : Type 0 where
  pub fits : Fitting h
  pub alike : KeepsWaiting b (buffer p h)
  pub bytes : AllByRecursion (HasBytesOf p h) b.kept

pub buffer_agrees : (p : ℕ) (h : List Record) (b : pending.Buffer) → IsBuffered p h b → BufferAgrees p h b
buffer_agrees p h b is = record {
  number = number_alike b (buffer p h) is.alike;
  takes = takes_alike b (buffer p h) is.alike;
  oldest = oldest_alike b (buffer p h) is.alike;
  line = line_alike b (buffer p h) is.alike;
  closed = closed_alike b (buffer p h) is.alike;
  none = none_alike b (buffer p h) is.alike;
  bytes = λ k e at. each_at (HasBytesOf p h) b.kept k e (oldest_entry b.kept k e at).0 is.bytes;
  over = λ at line whole. overlaid_waits p at h b line (kept h is.fits) is.alike is.bytes whole;
}

-- a record that changes neither the entries nor their bytes
same_step : (p : ℕ) (r : Record) (h : List Record) (b : pending.Buffer) → Fitting (r ∷ h) → buffer p (r ∷ h) ≡ buffer p h → ((n at : ℕ) → newest_in p n at (r ∷ h) ≡ newest_in p n at h) → IsBuffered p h b → IsBuffered p (r ∷ h) b
same_step p r h b fits is same was = record {
  fits = fits;
  alike = subst (λ m. KeepsWaiting b m) (sym is) was.alike;
  bytes = each_map (HasBytesOf p h) (HasBytesOf p (r ∷ h)) b.kept (λ e had. bytes_stay p r h e (same e.number) had) was.bytes;
}

-- an access of another processor, or one that stands at no such entry, went not into it
other_cpu : (p n at : ℕ) (u : NumberedAccess) → cpu_of u ≢ p → went_into p n at u ≡ false
other_cpu p n at u other = and_left (eqb (cpu_of u) p) (is_memory_write u.access && (has_byte at u.access && is_entry n u.access.place)) (ne_eqb (cpu_of u) p other)

pub other_entry : (p n at : ℕ) (u : NumberedAccess) → is_entry n u.access.place ≡ false → went_into p n at u ≡ false
other_entry p n at u other =
    and_right (eqb (cpu_of u) p) (is_memory_write u.access && (has_byte at u.access && is_entry n u.access.place))
    (and_right (is_memory_write u.access) (has_byte at u.access && is_entry n u.access.place) (and_right (has_byte at u.access) (is_entry n u.access.place) other))

cpu_shown : (cpu : Cpu) (o : Outcome) (h : List Record) (a : Access) → FitsOutcome (cpu_number cpu) o h → access_in cpu o ≡ Some a → cpu_number a.cpu ≡ cpu_number cpu
cpu_shown cpu (outcome.Access b) h a fit is = let same : b ≡ a = cc in ap (λ x. cpu_number x.cpu) (sym same) ∙ fit.0
cpu_shown cpu (outcome.Polled x y t) h a fit is = let same : cpu ≡ a.cpu = cc in ap cpu_number (sym same)
cpu_shown cpu outcome.NoAccess h a fit is = cc
cpu_shown cpu (outcome.Filled x y z) h a fit is = cc
cpu_shown cpu (outcome.Drained x y z) h a fit is = cc
cpu_shown cpu (outcome.Taken x y z) h a fit is = cc
cpu_shown cpu outcome.Done h a fit is = cc

-- another processor's record
pub other_step : (p : ℕ) (r : Record) (h : List Record) (b : pending.Buffer) → is_of p r ≡ false → Fitting (r ∷ h) → IsBuffered p h b → IsBuffered p (r ∷ h) b
other_step p r h b other fits was =
    same_step p r h b fits (rw other refl)
    (λ n at. newest_same p n at r h (λ a is. other_cpu p n at (next_access (accesses h) a) (λ same. eqb-false (cpu_number r.event.cpu) p other (sym (cpu_shown r.event.cpu r.outcome h a fits.0 is) ∙ same))))
    was

-- an own record that is no plain write, no write barrier and no drain
abbrev pub IsQuiet : Outcome → Type 0
IsQuiet (outcome.Access a) = (is_plain_write a.kind ≡ false) × (is_write_barrier a.kind ≡ false)
IsQuiet (outcome.Drained n line turn) = ⊥
IsQuiet _ = Unit {0}

quiet_buffer : (o : Outcome) (m : Buffer) → IsQuiet o → buffer_after o m ≡ m
quiet_buffer (outcome.Access a) m quiet = rw (quiet.0, quiet.1) refl
quiet_buffer (outcome.Drained x y z) m quiet = absurd quiet
quiet_buffer outcome.NoAccess m quiet = refl
quiet_buffer (outcome.Filled x y z) m quiet = refl
quiet_buffer (outcome.Taken x y z) m quiet = refl
quiet_buffer outcome.Done m quiet = refl
quiet_buffer (outcome.Polled x y z) m quiet = refl

at_no_entry : (n t : ℕ) (at : Place) → at ≡ At t → is_entry n at ≡ false
at_no_entry n t at is = rw is refl

fits_place : (k : Kind) (p l n : ℕ) (ok : Bool) (at : Place) (h : List Record) → is_plain_write k ≡ false → Fits k p l ok at h → is_entry n at ≡ false
fits_place kind.Fetch p l n ok at h quiet fit = rw fit.0 refl
fits_place kind.Read p l n ok at h quiet fit = rw fit.0 refl
fits_place kind.Write p l n ok at h quiet fit = cc
fits_place kind.Locked p l n ok at h quiet fit = rw fit.0 refl
fits_place kind.Conditional p l n ok at h quiet fit = rw fit.0 refl
fits_place kind.Barrier p l n ok at h quiet fit = rw fit.0 refl
fits_place kind.WriteBarrier p l n ok at h quiet fit = rw fit refl
fits_place kind.CodeBarrier p l n ok at h quiet fit = rw fit.0 refl
fits_place kind.Signal p l n ok at h quiet fit = rw fit.0 refl
fits_place kind.Console p l n ok at h quiet fit = rw fit refl
fits_place kind.Poll p l n ok at h quiet fit = rw fit refl

-- no access of a record that is no plain write stands at an entry
abbrev pub IsNoWrite : Outcome → Type 0
IsNoWrite (outcome.Access a) = is_plain_write a.kind ≡ false
IsNoWrite _ = Unit {0}

place_shown : (q n : ℕ) (cpu : Cpu) (o : Outcome) (h : List Record) (a : Access) → IsNoWrite o → FitsOutcome q o h → access_in cpu o ≡ Some a → is_entry n a.place ≡ false
place_shown q n cpu (outcome.Access b) h a quiet fit is = let same : b ≡ a = cc in subst (λ x. is_entry n x.place ≡ false) same (fits_place b.kind q (line_of b.address) n b.yes b.place h quiet fit.2)
place_shown q n cpu (outcome.Polled x y t) h a quiet fit is = let same : At t ≡ a.place = cc in subst (λ z. is_entry n z ≡ false) same refl
place_shown q n cpu outcome.NoAccess h a quiet fit is = cc
place_shown q n cpu (outcome.Filled x y z) h a quiet fit is = cc
place_shown q n cpu (outcome.Drained x y z) h a quiet fit is = cc
place_shown q n cpu (outcome.Taken x y z) h a quiet fit is = cc
place_shown q n cpu outcome.Done h a quiet fit is = cc

newest_quiet : (p n at : ℕ) (r : Record) (h : List Record) → IsNoWrite r.outcome → Fitting (r ∷ h) → newest_in p n at (r ∷ h) ≡ newest_in p n at h
newest_quiet p n at r h quiet fits = newest_same p n at r h (λ a is. other_entry p n at (next_access (accesses h) a) (place_shown (cpu_number r.event.cpu) n r.event.cpu r.outcome h a quiet fits.0 is))

quiet_no_write : (o : Outcome) → IsQuiet o → IsNoWrite o
quiet_no_write (outcome.Access a) quiet = quiet.0
quiet_no_write outcome.NoAccess quiet = tt
quiet_no_write (outcome.Filled x y z) quiet = tt
quiet_no_write (outcome.Drained x y z) quiet = tt
quiet_no_write (outcome.Taken x y z) quiet = tt
quiet_no_write outcome.Done quiet = tt
quiet_no_write (outcome.Polled x y z) quiet = tt

pub quiet_step : (p : ℕ) (r : Record) (h : List Record) (b : pending.Buffer) → is_of p r ≡ true → IsQuiet r.outcome → Fitting (r ∷ h) → IsBuffered p h b → IsBuffered p (r ∷ h) b
quiet_step p r h b own quiet fits was = same_step p r h b fits (rw own (quiet_buffer r.outcome (buffer p h) quiet)) (λ n at. newest_quiet p n at r h (quiet_no_write r.outcome quiet) fits) was

-- an own write barrier
pub barrier_step : (p : ℕ) (e : Event) (c : Cpu) (a s x : ℕ) (y : Bool) (at : Place) (h : List Record) (b : pending.Buffer) → cpu_number e.cpu ≡ p → Fitting (knows.made_by e (acc c kind.WriteBarrier a s x y at) ∷ h) → IsBuffered p h b → IsBuffered p (knows.made_by e (acc c kind.WriteBarrier a s x y at) ∷ h) (closed b)
barrier_step p e c a s x y at h b own fits was =
    let r : Record = knows.made_by e (acc c kind.WriteBarrier a s x y at) in
    record {
      fits = fits;
      alike = rw (eq-eqb (cpu_number e.cpu) p own) (alike_closed b (buffer p h) was.alike);
      bytes = each_map (HasBytesOf p h) (HasBytesOf p (r ∷ h)) b.kept (λ f had. bytes_stay p r h f (λ n. newest_quiet p f.number n r h refl fits) had) was.bytes;
    }

-- an own drain
pub drain_step : (p k : ℕ) (e : Event) (f : Pending) (line : Line) (turn : ℕ) (h : List Record) (b : pending.Buffer) → cpu_number e.cpu ≡ p → slice_get (oldest_group b.kept) k ≡ Some f → Fitting (record { event = e; outcome = outcome.Drained f.number line turn } ∷ h) → IsBuffered p h b → IsBuffered p (record { event = e; outcome = outcome.Drained f.number line turn } ∷ h) (drains.without k b)
drain_step p k e f line turn h b own at fits was =
    let r : Record = record { event = e; outcome = outcome.Drained f.number line turn } in
    record {
      fits = fits;
      alike = rw (eq-eqb (cpu_number e.cpu) p own) (alike_drained k f b (buffer p h) at was.alike);
      bytes = each_removed (HasBytesOf p (r ∷ h)) b.kept k (each_map (HasBytesOf p h) (HasBytesOf p (r ∷ h)) b.kept (λ g had. bytes_stay p r h g (λ n. newest_quiet p g.number n r h tt fits) had) was.bytes);
    }

-- an own write
pub write_step : (p : ℕ) (e : Event) (c : Cpu) (a s x : ℕ) (y : Bool) (h : List Record) (b : pending.Buffer) → cpu_number e.cpu ≡ p → pending.takes (a / LINE_BYTES) b ≡ true → Fitting (knows.made_by e (acc c kind.Write a s x y (Entry (store_number (a / LINE_BYTES) b))) ∷ h) → IsBuffered p h b
    → IsBuffered p (knows.made_by e (acc c kind.Write a s x y (Entry (store_number (a / LINE_BYTES) b))) ∷ h) (stored a s x b)
write_step p e c a s x y h b own takes fits was =
    let n : ℕ = store_number (a / LINE_BYTES) b in
    let r : Record = knows.made_by e (acc c kind.Write a s x y (Entry n)) in
    let cpu : cpu_number c ≡ p = fits.0.0 ∙ own in
    let inside : IsInLine a s = fits.0.1 in
    record {
      fits = fits;
      alike = rw (eq-eqb (cpu_number e.cpu) p own) (alike_stored a s x (line_at a) b (buffer p h) (line_at-number a inside.addressed) takes was.alike);
      bytes = put_each (HasBytesOf p h) (HasBytesOf p (r ∷ h)) b.made b.newest (a / LINE_BYTES) (b.made + 1) n (with_store a s x) (made_by (b.made + 1) b.newest a s x) b.kept was.alike.tidy.order (omega arith) refl was.bytes
          (λ f made number line had. subst (λ k. HasBytesOf p (knows.made_by e (acc c kind.Write a s x y (Entry k)) ∷ h) (with_store a s x f)) number (bytes_merged p e c a s x y h f cpu inside.within made.whole line had))
          (λ f apart had. bytes_stay p r h f (λ at. newest_same p f.number at r h (λ v is. other_entry p f.number at (next_access (accesses h) v) (let same : acc c kind.Write a s x y (Entry n) ≡ v = cc in subst (λ z. is_entry f.number z.place ≡ false) same (ne_eqb n f.number (λ q. apart (sym q)))))) had)
          (λ next. subst (λ k. HasBytesOf p (knows.made_by e (acc c kind.Write a s x y (Entry k)) ∷ h) (made_by (b.made + 1) b.newest a s x)) next (bytes_made p (b.made + 1) b.newest e c a s x y h cpu inside.within (none_above p (b.made + 1) h (kept h was.fits) (omega (arith, was.alike.made)))));
    }
