-- What a processor and the bus tell of an event's conditions is so by the records; and an event has a reason exactly where it is not legal.
use Rattle.std.proofs.Common.{true, false, ℕ, suc, ◌≡◌, ltb, cond, Bool, not, ◌&&◌, ◌||◌, List, [], ◌∷◌, length, Option, Some, None, is_some, refl, ap, ◌∙◌}
use Rattle.axp_access.specs.declared.Act.{Act}
use Rattle.axp_access.specs.declared.Act.TheVariants as act
use Rattle.axp_access.specs.declared.Event.{Event}
use Rattle.axp_access.specs.declared.Intent.{Intent}
use Rattle.axp_access.specs.declared.Record.{Record}
use Rattle.axp_access.specs.declared.Wanted.{Wanted}
use Rattle.axp_base.specs.Cpus.{cpu_number}
use Rattle.axp_base.specs.Lines.{line_number, line_of}
use Rattle.axp_lsu.specs.Keeping.{LocalMemory}
use Rattle.axp_lsu.specs.Reasons as unit
use Rattle.axp_lsu.specs.Reasons.{access_reason, act_reason, copy_reason, facts_of, fill_reason, or_else, reason_of, step_reason, timely_reason, wanted_kind, wanted_line, where_fails}
use Rattle.axp_lsu.specs.declared.reasons.Facts.{Facts}
use Rattle.axp_lsu.specs.declared.reasons.Reason.{Reason}
use Rattle.axp_lsu.specs.declared.reasons.Reason.TheVariants as reasons
use Rattle.axp_model.specs.Entries.{Waiting, buffer, has_closed, has_line, oldest}
use Rattle.axp_model.specs.Late.{code_held, held}
use Rattle.axp_model.specs.Legal.{code_has_room, has_room, holds_in, is_enabled, is_fill_enabled, is_fill_enabled_for, is_legal_act, is_ready, is_step_enabled, is_timely, legal, since_step, takes_write}
use Rattle.axp_model.specs.Processors.{Processors}
use Rattle.axp_access.specs.Acts.{is_drop_of, is_fill, is_poll_act, is_tick}
use Rattle.axp_base.specs.Lists.{is_empty}
use Rattle.axp_regs.specs.declared.asks.Kind.{Kind}
use Rattle.axp_regs.specs.declared.asks.Kind.TheVariants as kind
use Rattle.axp_wbuf.specs.Drains.{oldest_group}
use Rattle.axp_wbuf.specs.Pending.{Pending}
use Rattle.axp_world.proofs.Agreement.{AreEntriesOf, BanksAgree, BufferAgrees, SinceAgrees}
use Rattle.axp_world.proofs.RunLegality.{code_length, drop_held, drop_since, not_or, room_agrees}
use Rattle.axp_world.specs.Reasons as model
use Rattle.axp_world.specs.Reasons.{facts, is_late, reason}

-- ---- the facts

held_agrees : (k : Option Kind) (l : ℕ) (image : ℕ → ℕ) (p : ℕ) (h : List Record) (u : LocalMemory) → BanksAgree image p h u → unit.is_held_for k l u ≡ model.is_held_for k l p h
held_agrees (Some kind.Fetch) l image p h u banks = banks.code_lines_held l
held_agrees _ l image p h u banks = banks.lines l

room_for_agrees : (k : Option Kind) (l : ℕ) (image : ℕ → ℕ) (p : ℕ) (h : List Record) (u : LocalMemory) → BanksAgree image p h u → unit.has_room_for k l u ≡ model.has_room_for k l p h
room_for_agrees (Some kind.Fetch) l image p h u banks = rw (banks.code_lines_held l, code_length image p h u banks) refl
room_for_agrees _ l image p h u banks = rw (banks.lines l, room_agrees image p l h u banks) refl

entries_length : (es : List Pending) (ws : List Waiting) → AreEntriesOf es ws → length es ≡ length ws
entries_length [] [] are = refl
entries_length [] (w ∷ ws) are = absurd are
entries_length (e ∷ es) [] are = absurd are
entries_length (e ∷ es) (w ∷ ws) are = ap suc (entries_length es ws are.1)

entry_agrees : (a : Act) (p : ℕ) (h : List Record) (u : LocalMemory) → BufferAgrees p h u.buffer → unit.has_entry a u ≡ model.has_entry a p h
entry_agrees (act.Drain k) p h u buffers = ap (ltb k) (entries_length (oldest_group u.buffer.kept) (oldest (buffer p h).waiting) buffers.oldest)
entry_agrees _ p h u buffers = refl

copy_agrees : (a : Act) (image : ℕ → ℕ) (p : ℕ) (h : List Record) (u : LocalMemory) → BanksAgree image p h u → unit.holds_copy a u ≡ model.holds_copy a p h
copy_agrees (act.Drop b line) image p h u banks = drop_held b image p (line_number line) h u banks
copy_agrees _ image p h u banks = refl

dropped_agrees : (a : Act) (p : ℕ) (h : List Record) (u : LocalMemory) → SinceAgrees p h u → unit.is_dropped a u ≡ model.is_dropped a p h
dropped_agrees (act.Drop b line) p h u since = drop_since b p h u since
dropped_agrees _ p h u since = refl

-- what a processor tells, and the bus of what is late, is so by the records
pub facts_agree : (a : Act) (i : Intent) (told : Bool) (image : ℕ → ℕ) (p : ℕ) (h : List Record) (u : LocalMemory) → BufferAgrees p h u.buffer → BanksAgree image p h u → SinceAgrees p h u → told ≡ is_late a p h → facts_of a i told u ≡ facts a i p h
facts_agree a i told image p h u buffers banks since is =
    rw (
      held_agrees (wanted_kind i.wanted) (wanted_line i.wanted) image p h u banks,
      room_for_agrees (wanted_kind i.wanted) (wanted_line i.wanted) image p h u banks,
      buffers.takes (wanted_line i.wanted),
      buffers.line (wanted_line i.wanted),
      buffers.closed,
      buffers.none,
      entry_agrees a p h u buffers,
      is,
      copy_agrees a image p h u banks,
      dropped_agrees a p h u since,
      since.filled,
      since.polled,
      since.ticked,
    ) refl

-- ---- a reason where an event is not legal

one_fails : (b : Bool) (r : Reason) → is_some (where_fails b r) ≡ not b
one_fails true r = refl
one_fails false r = refl

some_of_two : (first second : Option Reason) (a b : Bool) → is_some first ≡ not a → is_some second ≡ not b → is_some (or_else first second) ≡ not (a && b)
some_of_two None second true b is_first is_second = is_second
some_of_two None second false b is_first is_second = cc
some_of_two (Some r) second true b is_first is_second = cc
some_of_two (Some r) second false b is_first is_second = refl

two_fail : (a b : Bool) (r s : Reason) → is_some (or_else (where_fails a r) (where_fails b s)) ≡ not (a && b)
two_fail a b r s = some_of_two (where_fails a r) (where_fails b s) a b (one_fails a r) (one_fails b s)

not_thrice : (b : Bool) → not (not (not b)) ≡ not b
not_thrice true = refl
not_thrice false = refl

and_swap : (a b : Bool) → (a && b) ≡ (b && a)
and_swap true true = refl
and_swap true false = refl
and_swap false true = refl
and_swap false false = refl

-- the access that a Step would make
access_fails : (k : Kind) (a : Act) (i : Intent) (p : ℕ) (h : List Record) (w : Wanted) → i.wanted ≡ Some w → w.kind ≡ k → is_some (access_reason k (facts a i p h)) ≡ not (is_ready k (line_of w.address) p h)
access_fails kind.Fetch a i p h w wants same = rw (wants, same) (one_fails (code_held p (line_of w.address) h) reasons.LineNotHeld)
access_fails kind.Read a i p h w wants same = rw (wants, same) (one_fails (held p (line_of w.address) h) reasons.LineNotHeld)
access_fails kind.Write a i p h w wants same = rw wants (one_fails (takes_write (line_of w.address) (buffer p h)) reasons.BufferFull)
access_fails kind.Locked a i p h w wants same =
    rw (wants, same) (two_fail (not (has_line (line_of w.address) (buffer p h).waiting)) (held p (line_of w.address) h || has_room (line_of w.address) p h) reasons.LineWaits reasons.BankFull)
access_fails kind.Conditional a i p h w wants same =
    rw wants (two_fail (not (has_line (line_of w.address) (buffer p h).waiting)) (not (has_closed (buffer p h).age (buffer p h).waiting)) reasons.LineWaits reasons.OlderGroupWaits)
access_fails kind.Barrier a i p h w wants same = one_fails (not (not (is_empty (buffer p h).waiting))) reasons.WriteWaits ∙ not_thrice (is_empty (buffer p h).waiting)
access_fails kind.WriteBarrier a i p h w wants same = refl
access_fails kind.CodeBarrier a i p h w wants same = one_fails (not (not (is_empty (buffer p h).waiting))) reasons.WriteWaits ∙ not_thrice (is_empty (buffer p h).waiting)
access_fails kind.Signal a i p h w wants same = one_fails (not (has_closed (buffer p h).age (buffer p h).waiting)) reasons.OlderGroupWaits
access_fails kind.Console a i p h w wants same = refl
access_fails kind.Poll a i p h w wants same = refl

step_fails : (o : Option Wanted) (a : Act) (i : Intent) (p : ℕ) (h : List Record) → i.wanted ≡ o → is_some (step_reason (wanted_kind o) (facts a i p h)) ≡ not (is_step_enabled i.boundary o p h)
step_fails None a i p h wants = one_fails i.boundary reasons.NotAtBoundary
step_fails (Some w) a i p h wants = access_fails w.kind a i p h w wants refl

-- the copy that a Fill would bring in
fill_kind_fails : (k : Kind) (a : Act) (i : Intent) (p : ℕ) (h : List Record) (w : Wanted) → i.wanted ≡ Some w → w.kind ≡ k → is_some (fill_reason (Some k) (facts a i p h)) ≡ not (is_fill_enabled_for k (line_of w.address) p h)
fill_kind_fails kind.Fetch a i p h w wants same =
    rw (wants, same)
    (two_fail (not (code_held p (line_of w.address) h)) (code_held p (line_of w.address) h || code_has_room p h) reasons.LineHeld reasons.BankFull
    ∙ ap not (not_or (code_held p (line_of w.address) h) (code_has_room p h)))
fill_kind_fails kind.Read a i p h w wants same =
    rw (wants, same)
    (two_fail (not (held p (line_of w.address) h)) (held p (line_of w.address) h || has_room (line_of w.address) p h) reasons.LineHeld reasons.BankFull
    ∙ ap not (not_or (held p (line_of w.address) h) (has_room (line_of w.address) p h)))
fill_kind_fails kind.Write a i p h w wants same = refl
fill_kind_fails kind.Locked a i p h w wants same = refl
fill_kind_fails kind.Conditional a i p h w wants same = refl
fill_kind_fails kind.Barrier a i p h w wants same = refl
fill_kind_fails kind.WriteBarrier a i p h w wants same = refl
fill_kind_fails kind.CodeBarrier a i p h w wants same = refl
fill_kind_fails kind.Signal a i p h w wants same = refl
fill_kind_fails kind.Console a i p h w wants same = refl
fill_kind_fails kind.Poll a i p h w wants same = refl

fill_fails : (o : Option Wanted) (a : Act) (i : Intent) (p : ℕ) (h : List Record) → i.wanted ≡ o → is_some (fill_reason (wanted_kind o) (facts a i p h)) ≡ not (is_fill_enabled o p h)
fill_fails None a i p h wants = refl
fill_fails (Some w) a i p h wants = fill_kind_fails w.kind a i p h w wants refl

-- every act
act_fails : (a : Act) (i : Intent) (p : ℕ) (h : List Record) → is_some (act_reason a (facts a i p h)) ≡ not (is_enabled a i p h)
act_fails act.Step i p h = step_fails i.wanted act.Step i p h refl
act_fails act.Fill i p h = fill_fails i.wanted act.Fill i p h refl
act_fails (act.Drain k) i p h = one_fails (ltb k (length (oldest (buffer p h).waiting))) reasons.PastOldestGroup
act_fails (act.Take b) i p h = one_fails (is_late (act.Take b) p h) reasons.NothingLate
act_fails (act.Drop b line) i p h = two_fail (holds_in b (line_number line) p h) (not (since_step (is_drop_of b) p h)) reasons.CopyNotHeld reasons.DroppedSinceStep
act_fails act.Poll i p h = two_fail i.boundary (not (since_step is_poll_act p h)) reasons.NotAtBoundary reasons.PolledSinceStep
act_fails act.Tick i p h =
    some_of_two _ _ i.boundary (i.takes_interrupts && not (since_step is_tick p h)) (one_fails i.boundary reasons.NotAtBoundary)
    (two_fail i.takes_interrupts (not (since_step is_tick p h)) reasons.InterruptsMasked reasons.TickedSinceStep)

timely_fails : (a : Act) (f : Facts) → is_some (timely_reason a f) ≡ not (is_timely a f.finished f.filled)
timely_fails act.Step f = one_fails (not f.finished) reasons.Finished
timely_fails act.Fill f = two_fail (not f.finished) (not f.filled) reasons.Finished reasons.AfterFill
timely_fails (act.Drain k) f = one_fails (f.finished || not f.filled) reasons.AfterFill
timely_fails (act.Take b) f = two_fail (not f.finished) (not f.filled) reasons.Finished reasons.AfterFill
timely_fails (act.Drop b line) f = two_fail (not f.finished) (not f.filled) reasons.Finished reasons.AfterFill
timely_fails act.Poll f = two_fail (not f.finished) (not f.filled) reasons.Finished reasons.AfterFill
timely_fails act.Tick f = two_fail (not f.finished) (not f.filled) reasons.Finished reasons.AfterFill

legal_act_fails : (a : Act) (i : Intent) (p : ℕ) (h : List Record) → is_some (reason_of a (facts a i p h)) ≡ not (is_legal_act a i p h)
unfolding reason_of
legal_act_fails a i p h =
    some_of_two (timely_reason a (facts a i p h)) (act_reason a (facts a i p h)) (is_timely a i.finished (since_step is_fill p h)) (is_enabled a i p h) (timely_fails a (facts a i p h)) (act_fails a i p h)
    ∙ ap not (and_swap (is_timely a i.finished (since_step is_fill p h)) (is_enabled a i p h))

-- an event has a reason exactly where it is not legal
pub reason_exactly : (ps : Processors) (h : List Record) (e : Event) → is_some (reason ps h e) ≡ not (legal ps h e)
unfolding reason legal
reason_exactly ps h e = by_count (ltb (cpu_number e.cpu) ps.count) where
  by_count : (b : Bool) → is_some (cond b (reason_of e.act (facts e.act (ps.intent (cpu_number e.cpu) h) (cpu_number e.cpu) h)) (Some reasons.NoProcessor)) ≡ not (b && is_legal_act e.act (ps.intent (cpu_number e.cpu) h) (cpu_number e.cpu) h)
  by_count true = legal_act_fails e.act (ps.intent (cpu_number e.cpu) h) (cpu_number e.cpu) h
  by_count false = refl
