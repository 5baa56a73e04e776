-- What is kept stays within memory by each act.
use Rattle.std.proofs.Common.{ℕ, zero, suc, ◌+◌, ◌/◌, ◌%◌, ◌^◌, ◌==◌, Bool, true, false, not, cond, nat_lt, List, [], ◌∷◌, length, Some, None, IfSome}
use Rattle.std.specs.Prelude.{Option, slice_get}
use Rattle.std.specs.List.{AllByRecursion, remove}
use Rattle.axp_base.specs.Lines.{line_number, data_bank, line_of, line_at, line_numbered}
use Rattle.axp_base.specs.declared.lines.Bank.{Bank}
use Rattle.axp_base.specs.declared.lines.Bank.TheVariants.{Even, Odd, Code}
use Rattle.axp_base.specs.declared.lines.Line.{Line}
use Rattle.axp_bank.specs.Copies.{copy_of, dropped, has_older, inserted, invalidated, is_held, is_of, put, refreshed, spared}
use Rattle.axp_bank.specs.Copies as bank
use Rattle.axp_bank.specs.declared.copies.LineCopy.{LineCopy}
use Rattle.axp_base.specs.declared.limits.TheConstants.{BANK_COPIES}
use Rattle.axp_line.specs.declared.contents.LineData.{LineData}
use Rattle.axp_line.specs.declared.messages.Reply.{Reply}
use Rattle.axp_line.specs.declared.messages.Reply.TheVariants as reply
use Rattle.axp_regs.specs.declared.asks.Kind.{Kind}
use Rattle.axp_regs.specs.declared.asks.Kind.TheVariants as kind
use Rattle.axp_wbuf.specs.Drains.{oldest_group, without}
use Rattle.axp_wbuf.specs.Pending.{Pending, is_at, made_by, put_into, stored, with_store}
use Rattle.axp_access.specs.declared.Act.{Act}
use Rattle.axp_access.specs.declared.Act.TheVariants as act
use Rattle.axp_access.specs.declared.Intent.{Intent}
use Rattle.axp_access.specs.declared.Wanted.{Wanted}
use Rattle.axp_model.specs.Outcomes.{bank_for}
use Rattle.axp_lsu.specs.declared.since.Since.{Since}
use Rattle.axp_lsu.specs.Asking.{act_ask, ask_of, fill_ask, fill_for}
use Rattle.axp_lsu.specs.Fitting.{ReplyFits, IsTurn}
use Rattle.axp_lsu.specs.Going.{after_access, advanced, after_line, after_late, after_drain, after_barrier, after_fill, after_act, after_stored, after_step, turn_in}
use Rattle.axp_lsu.specs.Keeping.{LocalMemory, copies_of, nothing, with_copies, with_drop}
use Rattle.axp_lsu.specs.Within.{IsCopyWithin, IsEntryWithin, IsInMemory, IsKeptWithin, IsLineWithin, IsWantedBy, IsWantedWithin}
use Rattle.axp_lsu.proofs.AskRangeLemmas.{line_address_within, oldest_within}
use Rattle.axp_lsu.proofs.ReplyFitLemmas.{act_fits, fits_turn, none_fits}
use Rattle.axp_lsu.proofs.LineLemmas.{line_within}

-- a property of each copy, through the changes of a bank
all_refreshed : (P : LineCopy → Type 0) (c : LineCopy) (cs : List LineCopy) → P c → AllByRecursion P cs → AllByRecursion P (refreshed c cs)
unfolding refreshed
all_refreshed P c [] here h = tt
all_refreshed P c (d ∷ ds) here h = (by (is_of (bank.line_of c) d), all_refreshed P c ds here h.1)
  where
    by : (b : Bool) → P (cond b c d)
    by true = here
    by false = h.0

all_inserted : (P : LineCopy → Type 0) (c : LineCopy) (cs : List LineCopy) → P c → AllByRecursion P cs → AllByRecursion P (inserted c cs)
unfolding inserted
all_inserted P c [] here h = (here, tt)
all_inserted P c (d ∷ ds) here h = by (nat_lt (bank.line_of c) (bank.line_of d)) (all_inserted P c ds here h.1)
  where
    by : (b : Bool) → AllByRecursion P (inserted c ds) → AllByRecursion P (cond b (c ∷ d ∷ ds) (d ∷ inserted c ds))
    by true rest = (here, h)
    by false rest = (h.0, rest)

all_put : (P : LineCopy → Type 0) (c : LineCopy) (cs : List LineCopy) → P c → AllByRecursion P cs → AllByRecursion P (put c cs)
unfolding put
all_put P c cs here h = by (is_held (bank.line_of c) cs) (nat_lt (length cs) BANK_COPIES)
  where
    by : (held room : Bool) → AllByRecursion P (cond held (refreshed c cs) (cond room (inserted c cs) cs))
    by true room = all_refreshed P c cs here h
    by false true = all_inserted P c cs here h
    by false false = h

all_dropped : (P : LineCopy → Type 0) (n : ℕ) (cs : List LineCopy) → AllByRecursion P cs → AllByRecursion P (dropped n cs)
unfolding dropped
all_dropped P n [] h = tt
all_dropped P n (c ∷ cs) h = by (is_of n c) (all_dropped P n cs h.1)
  where
    by : (b : Bool) → AllByRecursion P (dropped n cs) → AllByRecursion P (cond (not b) (c ∷ dropped n cs) (dropped n cs))
    by true rest = rest
    by false rest = (h.0, rest)

all_invalidated : (P : LineCopy → Type 0) (n turn : ℕ) (cs : List LineCopy) → AllByRecursion P cs → AllByRecursion P (invalidated n turn cs)
unfolding invalidated
all_invalidated P n turn cs h = by (has_older n turn cs)
  where
    by : (b : Bool) → AllByRecursion P (cond b (dropped n cs) cs)
    by true = all_dropped P n cs h
    by false = h

all_spared : (P : LineCopy → Type 0) (gone : ℕ) (cs : List LineCopy) → AllByRecursion P cs → AllByRecursion P (spared gone cs)
unfolding spared
all_spared P gone [] h = tt
all_spared P gone (c ∷ cs) h = by (gone % 2 == 1) (all_spared P (gone / 2) cs h.1)
  where
    by : (b : Bool) → AllByRecursion P (spared (gone / 2) cs) → AllByRecursion P (cond b (spared (gone / 2) cs) (c ∷ spared (gone / 2) cs))
    by true rest = rest
    by false rest = (h.0, rest)

-- a property of each entry, through the changes of a buffer
all_put_into : (P : Pending → Type 0) (group line : ℕ) (change : Pending → Pending) (new : Pending) (es : List Pending) → P new → ((e : Pending) → P e → P (change e)) → AllByRecursion P es → AllByRecursion P (put_into group line change new es)
unfolding put_into
all_put_into P group line change new [] fresh keeps h = (fresh, tt)
all_put_into P group line change new (e ∷ es) fresh keeps h = by (is_at group line e) (all_put_into P group line change new es fresh keeps h.1)
  where
    by : (b : Bool) → AllByRecursion P (put_into group line change new es) → AllByRecursion P (cond b (change e ∷ es) (e ∷ put_into group line change new es))
    by true rest = (keeps e h.0, h.1)
    by false rest = (h.0, rest)

all_removed : (P : Pending → Type 0) (es : List Pending) (k : ℕ) → AllByRecursion P es → AllByRecursion P (remove es k)
all_removed P [] zero h = tt
all_removed P [] (suc k) h = tt
all_removed P (e ∷ es) zero h = h.1
all_removed P (e ∷ es) (suc k) h = (h.0, all_removed P es k h.1)

-- parts of what is kept
copies_within : (size : ℕ) (b : Bank) (u : LocalMemory) → IsKeptWithin size u → AllByRecursion (IsCopyWithin size) (copies_of b u)
copies_within size Even u h = h.even
copies_within size Odd u h = h.odd
copies_within size Code u h = h.code

with_copies_within : (size : ℕ) (b : Bank) (cs : List LineCopy) (u : LocalMemory) → AllByRecursion (IsCopyWithin size) cs → IsKeptWithin size u → IsKeptWithin size (with_copies b cs u)
with_copies_within size Even cs u all h = record { entries = h.entries; even = all; odd = h.odd; code = h.code; barrier = h.barrier }
with_copies_within size Odd cs u all h = record { entries = h.entries; even = h.even; odd = all; code = h.code; barrier = h.barrier }
with_copies_within size Code cs u all h = record { entries = h.entries; even = h.even; odd = h.odd; code = all; barrier = h.barrier }

copy_within : (size : ℕ) (line : Line) (turn : ℕ) (bytes : LineData) → IsLineWithin size line → IsTurn turn → IsCopyWithin size (copy_of line turn bytes)
copy_within size line turn bytes below small = record { line = below; stamp = small }

brought_within : (size : ℕ) (b : Bank) (line : Line) (r : Option Reply) (u : LocalMemory) → IsLineWithin size line → IsTurn (turn_in r) → IsKeptWithin size u → IsKeptWithin size (after_line b line r u)
brought_within size b line (Some (reply.Line turn bytes)) u below small h =
    with_copies_within size b _ u (all_put (IsCopyWithin size) (copy_of line turn bytes) (copies_of b u) (copy_within size line turn bytes below small) (copies_within size b u h)) h
brought_within size b line _ u below small h = h

rewritten_within : (size : ℕ) (line : Line) (r : Option Reply) (u : LocalMemory) → IsLineWithin size line → IsTurn (turn_in r) → IsKeptWithin size u → IsKeptWithin size (after_stored line r u)
rewritten_within size line (Some (reply.Stored turn bytes)) u below small h =
    let b = data_bank (line_number line) in
    with_copies_within size b _ u (all_refreshed (IsCopyWithin size) (copy_of line turn bytes) (copies_of b u) (copy_within size line turn bytes below small) (copies_within size b u h)) h
rewritten_within size line _ u below small h = h

fenced_within : (size : ℕ) (r : Option Reply) (u : LocalMemory) → IsTurn (turn_in r) → IsKeptWithin size u → IsKeptWithin size (after_barrier r u)
fenced_within size (Some (reply.Barrier turn gone)) u small h = record {
  entries = h.entries;
  even = all_spared (IsCopyWithin size) gone u.even h.even;
  odd = all_spared (IsCopyWithin size) (gone / 2 ^ length u.even) u.odd h.odd;
  code = h.code;
  barrier = small;
}
fenced_within size _ u small h = h

delivered_within : (size : ℕ) (r : Option Reply) (u : LocalMemory) → IsKeptWithin size u → IsKeptWithin size (after_late r u)
delivered_within size (Some (reply.Late line turn)) u h =
    let b = data_bank (line_number line) in
    with_copies_within size b _ u (all_invalidated (IsCopyWithin size) (line_number line) turn (copies_of b u) (copies_within size b u h)) h
delivered_within size _ u h = h

stored_within : (size : ℕ) (w : Wanted) (u : LocalMemory) → IsInMemory size w → IsKeptWithin size u → IsKeptWithin size (record u { buffer = stored w.address w.size w.value u.buffer })
stored_within size w u wanted h = record {
  entries = all_put_into (IsEntryWithin size) u.buffer.newest (line_of w.address) (with_store w.address w.size w.value) (made_by (u.buffer.made + 1) u.buffer.newest w.address w.size w.value) u.buffer.kept (line_address_within size w wanted) (λ e h. h) h.entries;
  even = h.even;
  odd = h.odd;
  code = h.code;
  barrier = h.barrier;
}

without_code : (size : ℕ) (u : LocalMemory) → IsKeptWithin size u → IsKeptWithin size (record u { code = [] })
without_code size u h = record { entries = h.entries; even = h.even; odd = h.odd; code = tt; barrier = h.barrier }

accessed_within : (size : ℕ) (k : Kind) (w : Wanted) (r : Option Reply) (u : LocalMemory) → IsWantedBy size k w → IsTurn (turn_in r) → IsKeptWithin size u → IsKeptWithin size (after_access k w r u)
accessed_within size kind.Fetch w r u wanted small h = h
accessed_within size kind.Read w r u wanted small h = h
accessed_within size kind.Write w r u wanted small h = stored_within size w u wanted h
accessed_within size kind.Locked w r u wanted small h =
    brought_within size (data_bank (line_of w.address)) (line_at w.address) r u (line_within size (line_of w.address) (line_address_within size w wanted)) small h
accessed_within size kind.Conditional w r u wanted small h =
    rewritten_within size (line_at w.address) r u (line_within size (line_of w.address) (line_address_within size w wanted.within)) small h
accessed_within size kind.Barrier w r u wanted small h = fenced_within size r u small h
accessed_within size kind.WriteBarrier w r u wanted small h =
    record { entries = h.entries; even = h.even; odd = h.odd; code = h.code; barrier = h.barrier }
accessed_within size kind.CodeBarrier w r u wanted small h = without_code size (after_barrier r u) (fenced_within size r u small h)
accessed_within size kind.Signal w r u wanted small h = h
accessed_within size kind.Console w r u wanted small h = h
accessed_within size kind.Poll w r u wanted small h = h

stepped_within : (size : ℕ) (o : Option Wanted) (r : Option Reply) (u : LocalMemory) → IsWantedWithin size o → IsTurn (turn_in r) → IsKeptWithin size u → IsKeptWithin size (after_step o r u)
stepped_within size None r u wanted small h = h
stepped_within size (Some w) r u wanted small h = accessed_within size w.kind w r u wanted small h

filled_by_kind : (size : ℕ) (k : Kind) (w : Wanted) (r : Option Reply) (u : LocalMemory) → IsWantedBy size k w → ReplyFits (fill_for k w u) r → IsTurn (turn_in r) → IsKeptWithin size u → IsKeptWithin size (after_line (bank_for k (line_of w.address)) (line_at w.address) r u)
filled_by_kind size kind.Fetch w r u wanted fits small h = brought_within size Code (line_at w.address) r u (line_within size (line_of w.address) (line_address_within size w wanted)) small h
filled_by_kind size kind.Read w r u wanted fits small h =
    brought_within size (data_bank (line_of w.address)) (line_at w.address) r u (line_within size (line_of w.address) (line_address_within size w wanted)) small h
filled_by_kind size _ w r u wanted fits small h = absurd (none_fits r fits)

filled_within : (size : ℕ) (o : Option Wanted) (r : Option Reply) (u : LocalMemory) → IsWantedWithin size o → ReplyFits (fill_ask o u) r → IsTurn (turn_in r) → IsKeptWithin size u → IsKeptWithin size (after_fill o r u)
filled_within size None r u wanted fits small h = h
filled_within size (Some w) r u wanted fits small h = filled_by_kind size w.kind w r u wanted fits small h

drained_within : (size k : ℕ) (o : Option Pending) (r : Option Reply) (u : LocalMemory) → IfSome o (IsEntryWithin size) → IsTurn (turn_in r) → IsKeptWithin size u → IsKeptWithin size (after_drain k o r u)
drained_within size k None r u entry small h = h
drained_within size k (Some e) r u entry small h =
    rewritten_within size (line_numbered e.line) r (record u { buffer = without k u.buffer }) (line_within size e.line entry) small
    (record { entries = all_removed (IsEntryWithin size) u.buffer.kept k h.entries; even = h.even; odd = h.odd; code = h.code; barrier = h.barrier })

since_within : (size : ℕ) (s : Since) (u : LocalMemory) → IsKeptWithin size u → IsKeptWithin size (record u { since = s })
since_within size s u h = record { entries = h.entries; even = h.even; odd = h.odd; code = h.code; barrier = h.barrier }

after_within : (size : ℕ) (a : Act) (i : Intent) (r : Option Reply) (u : LocalMemory) → ReplyFits (act_ask a i u) r → IsWantedWithin size i.wanted → IsTurn (turn_in r) → IsKeptWithin size u → IsKeptWithin size (after_act a i r u)
after_within size act.Step i r u fits wanted small h = since_within size nothing (after_step i.wanted r u) (stepped_within size i.wanted r u wanted small h)
after_within size act.Fill i r u fits wanted small h =
    since_within size (record u.since { filled = true }) (after_fill i.wanted r u) (filled_within size i.wanted r u wanted fits small h)
after_within size (act.Drain k) i r u fits wanted small h = drained_within size k (slice_get (oldest_group u.buffer.kept) k) r u (oldest_within size u k h) small h
after_within size (act.Take b) i r u fits wanted small h = delivered_within size r u h
after_within size (act.Drop b line) i r u fits wanted small h =
    since_within size (with_drop b u.since) (with_copies b (dropped (line_number line) (copies_of b u)) u)
    (with_copies_within size b (dropped (line_number line) (copies_of b u)) u (all_dropped (IsCopyWithin size) (line_number line) (copies_of b u) (copies_within size b u h)) h)
after_within size act.Poll i r u fits wanted small h = since_within size (record u.since { polled = true }) u h
after_within size act.Tick i r u fits wanted small h = since_within size (record u.since { ticked = true }) u h

pub advanced_within : (size : ℕ) (a : Act) (i : Intent) (r : Option Reply) (u : LocalMemory) → ReplyFits (ask_of a i u) r → IsWantedWithin size i.wanted → IsKeptWithin size u → IsKeptWithin size (advanced a i r u)
unfolding advanced
advanced_within size a i r u fits wanted h = after_within size a i r u (act_fits a i u r fits) wanted (fits_turn (ask_of a i u) r fits) h
