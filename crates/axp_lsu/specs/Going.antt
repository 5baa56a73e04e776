-- What an act gives and leaves, with the bus's answer where it asked.
use Rattle.std.specs.Prelude.{ℕ, ◌/◌, ◌%◌, ◌^◌, max, Bool, true, false, ◌&&◌, if◌then◌else◌, List, [], length, Option, Some, None}
use Rattle.axp_base.specs.Lines.{line_number, data_bank, line_of, line_at, line_numbered}
use Rattle.axp_base.specs.Parts.{part}
use Rattle.axp_base.specs.declared.lines.Bank.{Bank}
use Rattle.axp_base.specs.declared.lines.Line.{Line}
use Rattle.axp_base.specs.declared.lines.TheConstants.{LINE_BYTES}
use Rattle.axp_base.specs.declared.processors.Cpu.{Cpu}
use Rattle.axp_bank.specs.Copies.{copy_of, get_of, stamp_of, has_older, put, refreshed, invalidated, dropped, spared}
use Rattle.axp_line.specs.Lines.{bytes_of_line}
use Rattle.axp_line.specs.declared.contents.LineData.{LineData}
use Rattle.axp_line.specs.declared.messages.Reply.{Reply}
use Rattle.axp_line.specs.declared.messages.Reply.TheVariants as reply
use Rattle.axp_regs.specs.declared.asks.Kind.{Kind}
use Rattle.axp_regs.specs.declared.asks.Kind.TheVariants as kind
use Rattle.axp_wbuf.specs.Drains.{without}
use Rattle.axp_wbuf.specs.Pending.{Pending, overlaid, store_number, stored, closed}
use Rattle.axp_access.specs.declared.Act.{Act}
use Rattle.axp_access.specs.declared.Act.TheVariants as act
use Rattle.axp_access.specs.declared.Intent.{Intent}
use Rattle.axp_access.specs.declared.Outcome.{Outcome}
use Rattle.axp_access.specs.declared.Outcome.TheVariants as outcome
use Rattle.axp_access.specs.declared.Place.{Place}
use Rattle.axp_access.specs.declared.Place.TheVariants.{At, Entry, Absent}
use Rattle.axp_access.specs.declared.Wanted.{Wanted}
use Rattle.axp_model.specs.Outcomes.{bank_for}
use Rattle.axp_lsu.specs.Keeping.{LocalMemory, copies_of, data_copies, entry_at, nothing, with_copies, with_data_copies, with_drop, with_fill}

-- the data and the stamp of a line's copy; a line that is not held has none
abbrev pub stamp_or_none : Option ℕ → ℕ
stamp_or_none None = 0
stamp_or_none (Some stamp) = stamp

abbrev pub part_of : Option (ℕ × LineData) → (List ℕ → List ℕ) → ℕ → ℕ → ℕ
part_of None change offset size = 0
part_of (Some (stamp, d)) change offset size = part (change (bytes_of_line d)) offset size

-- what a fetch finds in the code bank, and a plain read in its data bank, with its own buffered writes
-- over it
abbrev pub fetched_value : Wanted → LocalMemory → ℕ
fetched_value w u = part_of (get_of (line_of w.address) u.code) (λ bytes. bytes) (w.address % LINE_BYTES) w.size

abbrev pub read_value : Wanted → LocalMemory → ℕ
read_value w u = part_of (get_of (line_of w.address) (data_copies (line_of w.address) u)) (overlaid (line_of w.address) u.buffer.kept) (w.address % LINE_BYTES) w.size

-- what a load-locked finds in memory
abbrev pub locked_value : Wanted → Option Reply → ℕ
locked_value w (Some (reply.Line turn bytes)) = part (bytes_of_line bytes) (w.address % LINE_BYTES) w.size
locked_value w _ = 0

-- what a fetch or a read finds
abbrev pub found_by : Kind → Wanted → LocalMemory → Option Reply → ℕ
found_by kind.Fetch w u r = fetched_value w u
found_by kind.Read w u r = read_value w u
found_by _ w u r = locked_value w r

-- a write was made
abbrev pub is_stored : Option Reply → Bool
is_stored (Some (reply.Stored turn bytes)) = true
is_stored _ = false

-- the value that an access gives to its processor's instruction: 0 where it gives none
abbrev pub value_by : Kind → Wanted → LocalMemory → Option Reply → ℕ
value_by kind.Fetch w u r = fetched_value w u
value_by kind.Read w u r = read_value w u
value_by kind.Locked w u r = locked_value w r
value_by kind.Conditional w u r = if is_stored r then 1 else 0
value_by _ w u r = 0

unfoldable pub value_of : Wanted → LocalMemory → Option Reply → ℕ
value_of w u r = value_by w.kind w u r

-- the turn that an answer names
abbrev pub turn_in : Option Reply → ℕ
turn_in (Some (reply.Line turn bytes)) = turn
turn_in (Some (reply.Stored turn bytes)) = turn
turn_in (Some (reply.Refused turn)) = turn
turn_in (Some (reply.Barrier turn gone)) = turn
turn_in (Some (reply.Late line turn)) = turn
turn_in (Some (reply.Polled pending turn)) = turn
turn_in (Some (reply.Signalled turn)) = turn
turn_in (Some (reply.Printed turn)) = turn
turn_in _ = 0

-- just after the later of the copy's stamp and the last barrier
abbrev pub read_place : ℕ → LocalMemory → ℕ
read_place l u = max (stamp_or_none (stamp_of l (data_copies l u))) u.barrier

-- where an access stands
abbrev pub place_by : Kind → ℕ → LocalMemory → Option Reply → Place
place_by kind.Fetch l u r = At (stamp_or_none (stamp_of l u.code))
place_by kind.Read l u r = At (read_place l u)
place_by kind.Write l u r = Entry (store_number l u.buffer)
place_by kind.WriteBarrier l u r = Absent
place_by _ l u r = At (turn_in r)

-- what is shown as an access's value: what it found, or what was wanted of it
abbrev pub shown_by : Kind → Wanted → LocalMemory → Option Reply → ℕ
shown_by kind.Fetch w u r = fetched_value w u
shown_by kind.Read w u r = read_value w u
shown_by kind.Locked w u r = locked_value w r
shown_by _ w u r = w.value

-- only a store-conditional tells a success
abbrev pub success_by : Kind → Option Reply → Bool
success_by kind.Conditional r = is_stored r
success_by _ r = false

abbrev pub step_outcome : Cpu → Option Wanted → LocalMemory → Option Reply → Outcome
step_outcome cpu None u r = outcome.NoAccess
step_outcome cpu (Some w) u r = outcome.Access (record {
  cpu = cpu;
  kind = w.kind;
  address = w.address;
  size = w.size;
  value = shown_by w.kind w u r;
  yes = success_by w.kind r;
  place = place_by w.kind (line_of w.address) u r;
})

abbrev pub fill_outcome : Option Wanted → Option Reply → Outcome
fill_outcome None r = outcome.NoAccess
fill_outcome (Some w) r = outcome.Filled (bank_for w.kind (line_of w.address)) (line_at w.address) (turn_in r)

abbrev pub drain_outcome : Option Pending → Option Reply → Outcome
drain_outcome None r = outcome.NoAccess
drain_outcome (Some e) r = outcome.Drained e.number (line_numbered e.line) (turn_in r)

abbrev pub take_outcome : LocalMemory → Option Reply → Outcome
take_outcome u (Some (reply.Late line turn)) = outcome.Taken line turn (has_older (line_number line) turn (data_copies (line_number line) u))
take_outcome u _ = outcome.NoAccess

-- an interrupt is entered where one is requested and the processor takes it
abbrev pub is_entered : Bool → Option Reply → Bool
is_entered low (Some (reply.Polled pending turn)) = pending && low
is_entered low _ = false

abbrev pub poll_outcome : Bool → Option Reply → Outcome
poll_outcome low (Some (reply.Polled pending turn)) = outcome.Polled pending (pending && low) turn
poll_outcome low _ = outcome.NoAccess

abbrev pub outcome_by : Act → Cpu → Intent → LocalMemory → Option Reply → Outcome
outcome_by act.Step cpu i u r = step_outcome cpu i.wanted u r
outcome_by act.Fill cpu i u r = fill_outcome i.wanted r
outcome_by (act.Drain k) cpu i u r = drain_outcome (entry_at k u) r
outcome_by (act.Take b) cpu i u r = take_outcome u r
outcome_by (act.Drop b line) cpu i u r = outcome.Done
outcome_by act.Poll cpu i u r = poll_outcome i.takes_interrupts r
outcome_by act.Tick cpu i u r = outcome.Done

unfoldable pub outcome_of : Act → Cpu → Intent → LocalMemory → Option Reply → Outcome
outcome_of a cpu i u r = outcome_by a cpu i u r

-- a line comes from the bus: its copy is put into a bank, or refreshed where it is held
abbrev pub after_line : Bank → Line → Option Reply → LocalMemory → LocalMemory
after_line b line (Some (reply.Line turn bytes)) u = with_copies b (put (copy_of line turn bytes) (copies_of b u)) u
after_line b line _ u = u

abbrev pub after_stored : Line → Option Reply → LocalMemory → LocalMemory
after_stored line (Some (reply.Stored turn bytes)) u = with_data_copies (line_number line) (refreshed (copy_of line turn bytes) (data_copies (line_number line) u)) u
after_stored line _ u = u

-- a barrier delivers all that was late: the bits are of bank d0's copies, and then of d1's
abbrev pub after_barrier : Option Reply → LocalMemory → LocalMemory
after_barrier (Some (reply.Barrier turn gone)) u = record u { even = spared gone u.even; odd = spared (gone / 2 ^ length u.even) u.odd; barrier = turn }
after_barrier _ u = u

-- a delivered pair removes an older copy
abbrev pub after_late : Option Reply → LocalMemory → LocalMemory
after_late (Some (reply.Late line turn)) u = with_data_copies (line_number line) (invalidated (line_number line) turn (data_copies (line_number line) u)) u
after_late _ u = u

-- a plain write goes into the buffer
abbrev pub with_stored : Wanted → LocalMemory → LocalMemory
with_stored w u = record u { buffer = stored w.address w.size w.value u.buffer }

-- the bank's copy of a line is given up
abbrev pub given_up : Bank → ℕ → LocalMemory → LocalMemory
given_up b l u = record (with_copies b (dropped l (copies_of b u)) u) { since = with_drop b u.since }

-- what an access leaves
abbrev pub after_access : Kind → Wanted → Option Reply → LocalMemory → LocalMemory
after_access kind.Write w r u = with_stored w u
after_access kind.WriteBarrier w r u = record u { buffer = closed u.buffer }
after_access kind.Locked w r u = after_line (data_bank (line_of w.address)) (line_at w.address) r u
after_access kind.Conditional w r u = after_stored (line_at w.address) r u
after_access kind.Barrier w r u = after_barrier r u
after_access kind.CodeBarrier w r u = record (after_barrier r u) { code = [] }
after_access _ w r u = u

abbrev pub after_step : Option Wanted → Option Reply → LocalMemory → LocalMemory
after_step None r u = u
after_step (Some w) r u = after_access w.kind w r u

abbrev pub after_fill : Option Wanted → Option Reply → LocalMemory → LocalMemory
after_fill None r u = u
after_fill (Some w) r u = after_line (bank_for w.kind (line_of w.address)) (line_at w.address) r u

abbrev pub after_drain : ℕ → Option Pending → Option Reply → LocalMemory → LocalMemory
after_drain k None r u = u
after_drain k (Some e) r u = after_stored (line_numbered e.line) r (record u { buffer = without k u.buffer })

abbrev pub after_act : Act → Intent → Option Reply → LocalMemory → LocalMemory
after_act act.Step i r u = record (after_step i.wanted r u) { since = nothing }
after_act act.Fill i r u = record (after_fill i.wanted r u) { since = with_fill u.since }
after_act (act.Drain k) i r u = after_drain k (entry_at k u) r u
after_act (act.Take b) i r u = after_late r u
after_act (act.Drop b line) i r u = given_up b (line_number line) u
after_act act.Poll i r u = record u { since = record u.since { polled = true } }
after_act act.Tick i r u = record u { since = record u.since { ticked = true } }

unfoldable pub advanced : Act → Intent → Option Reply → LocalMemory → LocalMemory
advanced a i r u = after_act a i r u
