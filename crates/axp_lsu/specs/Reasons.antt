-- Why an act is not legal: the first of its conditions that fails.
use Rattle.std.specs.Prelude.{ℕ, zero, nat_lt, ◌==◌, Bool, true, false, not, ◌&&◌, ◌||◌, if◌then◌else◌, length, Option, Some, None}
use Rattle.std.specs.List.{list_any}
use Rattle.axp_access.specs.declared.Act.{Act}
use Rattle.axp_access.specs.declared.Act.TheVariants as act
use Rattle.axp_access.specs.declared.Intent.{Intent}
use Rattle.axp_access.specs.declared.Wanted.{Wanted}
use Rattle.axp_bank.specs.Copies.{has_room, is_held}
use Rattle.axp_base.specs.Lines.{line_number, line_of}
use Rattle.axp_lsu.specs.Keeping.{LocalMemory, copies_of, data_copies, has_dropped}
use Rattle.axp_lsu.specs.declared.reasons.Facts.{Facts}
use Rattle.axp_lsu.specs.declared.reasons.Reason.{Reason}
use Rattle.axp_lsu.specs.declared.reasons.Reason.TheVariants as reason
use Rattle.axp_regs.specs.declared.asks.Kind.{Kind}
use Rattle.axp_regs.specs.declared.asks.Kind.TheVariants as kind
use Rattle.axp_wbuf.specs.Drains.{oldest_group}
use Rattle.axp_wbuf.specs.Pending as pending
use Rattle.axp_wbuf.specs.Pending.{is_before, is_of_line}

-- the first reason, or the second where there is none
abbrev pub or_else : Option Reason → Option Reason → Option Reason
or_else (Some r) second = Some r
or_else None second = second

-- this reason, where a condition fails
abbrev pub where_fails : Bool → Reason → Option Reason
where_fails condition r = if condition then None else Some r

-- an act has its time: a finished processor may drain alone; after a fill only the step is left
abbrev pub timely_reason : Act → Facts → Option Reason
timely_reason act.Step f = where_fails (not f.finished) reason.Finished
timely_reason (act.Drain k) f = where_fails (f.finished || not f.filled) reason.AfterFill
timely_reason _ f = or_else (where_fails (not f.finished) reason.Finished) (where_fails (not f.filled) reason.AfterFill)

-- the conditions of a Step that makes an access of this kind
abbrev pub access_reason : Kind → Facts → Option Reason
access_reason kind.Fetch f = where_fails f.held reason.LineNotHeld
access_reason kind.Read f = where_fails f.held reason.LineNotHeld
access_reason kind.Write f = where_fails f.takes_write reason.BufferFull
access_reason kind.Locked f = or_else (where_fails (not f.line_waits) reason.LineWaits) (where_fails f.room reason.BankFull)
access_reason kind.Conditional f = or_else (where_fails (not f.line_waits) reason.LineWaits) (where_fails (not f.older_group_waits) reason.OlderGroupWaits)
access_reason kind.Barrier f = where_fails (not f.write_waits) reason.WriteWaits
access_reason kind.WriteBarrier f = None
access_reason kind.CodeBarrier f = where_fails (not f.write_waits) reason.WriteWaits
access_reason kind.Signal f = where_fails (not f.older_group_waits) reason.OlderGroupWaits
access_reason kind.Console f = None
access_reason kind.Poll f = Some reason.NotAtBoundary

-- those of a Step; one that makes no access is legal at a boundary
abbrev pub step_reason : Option Kind → Facts → Option Reason
step_reason None f = where_fails f.boundary reason.NotAtBoundary
step_reason (Some k) f = access_reason k f

-- those of a Fill that brings in the wanted line
abbrev pub copy_reason : Facts → Option Reason
copy_reason f = or_else (where_fails (not f.held) reason.LineHeld) (where_fails f.room reason.BankFull)

abbrev pub fill_reason : Option Kind → Facts → Option Reason
fill_reason None f = Some reason.NothingWanted
fill_reason (Some kind.Fetch) f = copy_reason f
fill_reason (Some kind.Read) f = copy_reason f
fill_reason (Some _) f = Some reason.NoCopyWanted

-- those of each act
abbrev pub act_reason : Act → Facts → Option Reason
act_reason act.Step f = step_reason f.wanted f
act_reason act.Fill f = fill_reason f.wanted f
act_reason (act.Drain k) f = where_fails f.has_entry reason.PastOldestGroup
act_reason (act.Take b) f = where_fails f.late reason.NothingLate
act_reason (act.Drop b line) f = or_else (where_fails f.holds_copy reason.CopyNotHeld) (where_fails (not f.dropped) reason.DroppedSinceStep)
act_reason act.Poll f = or_else (where_fails f.boundary reason.NotAtBoundary) (where_fails (not f.polled) reason.PolledSinceStep)
act_reason act.Tick f = or_else (where_fails f.boundary reason.NotAtBoundary) (or_else (where_fails f.takes_interrupts reason.InterruptsMasked) (where_fails (not f.ticked) reason.TickedSinceStep))

-- why an act is not legal where these are the facts; None where it is
unfoldable pub reason_of : Act → Facts → Option Reason
reason_of a f = or_else (timely_reason a f) (act_reason a f)

-- ---- the facts, by what a processor keeps of memory

-- the kind of the wanted access, and its line, 0 where there is none
abbrev pub wanted_kind : Option Wanted → Option Kind
wanted_kind None = None
wanted_kind (Some w) = Some w.kind

abbrev pub wanted_line : Option Wanted → ℕ
wanted_line None = 0
wanted_line (Some w) = line_of w.address

-- the bank from which an access of this kind takes this line holds it, and holds it or has room for it
abbrev pub is_held_for : Option Kind → ℕ → LocalMemory → Bool
is_held_for (Some kind.Fetch) l u = is_held l u.code
is_held_for _ l u = is_held l (data_copies l u)

abbrev pub has_room_for : Option Kind → ℕ → LocalMemory → Bool
has_room_for (Some kind.Fetch) l u = has_room l u.code
has_room_for _ l u = has_room l (data_copies l u)

-- of a Drain, the oldest group has the entry; of a Drop, the bank holds the line, and one was dropped from it
abbrev pub has_entry : Act → LocalMemory → Bool
has_entry (act.Drain k) u = nat_lt k (length (oldest_group u.buffer.kept))
has_entry _ u = false

abbrev pub holds_copy : Act → LocalMemory → Bool
holds_copy (act.Drop b line) u = is_held (line_number line) (copies_of b u)
holds_copy _ u = false

abbrev pub is_dropped : Act → LocalMemory → Bool
is_dropped (act.Drop b line) u = has_dropped b u.since
is_dropped _ u = false

-- whether something is late is the bus's to tell
abbrev pub facts_of : Act → Intent → Bool → LocalMemory → Facts
facts_of a i late u = record {
  finished = i.finished;
  filled = u.since.filled;
  boundary = i.boundary;
  takes_interrupts = i.takes_interrupts;
  wanted = wanted_kind i.wanted;
  held = is_held_for (wanted_kind i.wanted) (wanted_line i.wanted) u;
  room = has_room_for (wanted_kind i.wanted) (wanted_line i.wanted) u;
  takes_write = pending.takes (wanted_line i.wanted) u.buffer;
  line_waits = list_any (is_of_line (wanted_line i.wanted)) u.buffer.kept;
  older_group_waits = list_any (is_before u.buffer.newest) u.buffer.kept;
  write_waits = not (length u.buffer.kept == 0);
  has_entry = has_entry a u;
  late = late;
  holds_copy = holds_copy a u;
  dropped = is_dropped a u;
  polled = u.since.polled;
  ticked = u.since.ticked;
}
