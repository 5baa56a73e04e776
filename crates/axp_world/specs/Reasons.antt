-- Why an event is not legal, by the records: the first of its conditions that fails.
use Rattle.std.specs.Prelude.{ℕ, nat_lt, Bool, false, not, ◌||◌, if◌then◌else◌, List, length, Option, Some}
use Rattle.axp_access.specs.Acts.{is_drop_of, is_fill, is_poll_act, is_tick}
use Rattle.axp_access.specs.declared.Act.{Act}
use Rattle.axp_access.specs.declared.Act.TheVariants as act
use Rattle.axp_access.specs.declared.Event.{Event}
use Rattle.axp_access.specs.declared.Intent.{Intent}
use Rattle.axp_access.specs.declared.Record.{Record}
use Rattle.axp_base.specs.Cpus.{cpu_number}
use Rattle.axp_base.specs.Lines.{line_number}
use Rattle.axp_base.specs.Lists.{is_empty}
use Rattle.axp_lsu.specs.Reasons.{reason_of, wanted_kind, wanted_line}
use Rattle.axp_lsu.specs.declared.reasons.Facts.{Facts}
use Rattle.axp_lsu.specs.declared.reasons.Reason.{Reason}
use Rattle.axp_lsu.specs.declared.reasons.Reason.TheVariants.{NoProcessor}
use Rattle.axp_model.specs.Entries.{buffer, has_closed, has_line, oldest}
use Rattle.axp_model.specs.Late.{code_held, held, late}
use Rattle.axp_model.specs.Legal.{code_has_room, has_room, holds_in, since_step, takes_write}
use Rattle.axp_model.specs.Processors.{Processors}
use Rattle.axp_regs.specs.declared.asks.Kind.{Kind}
use Rattle.axp_regs.specs.declared.asks.Kind.TheVariants as kind

-- the bank from which an access of this kind takes this line holds it, and holds it or has room for it
abbrev pub is_held_for : Option Kind → ℕ → ℕ → List Record → Bool
is_held_for (Some kind.Fetch) l p h = code_held p l h
is_held_for _ l p h = held p l h

abbrev pub has_room_for : Option Kind → ℕ → ℕ → List Record → Bool
has_room_for (Some kind.Fetch) l p h = code_held p l h || code_has_room p h
has_room_for _ l p h = held p l h || has_room l p h

-- of a Drain, the oldest group has the entry; of a Take, something is late; of a Drop, the bank holds the line, and one was dropped from it
abbrev pub has_entry : Act → ℕ → List Record → Bool
has_entry (act.Drain k) p h = nat_lt k (length (oldest (buffer p h).waiting))
has_entry _ p h = false

abbrev pub is_late : Act → ℕ → List Record → Bool
is_late (act.Take b) p h = not (is_empty (late p b h))
is_late _ p h = false

abbrev pub holds_copy : Act → ℕ → List Record → Bool
holds_copy (act.Drop b line) p h = holds_in b (line_number line) p h
holds_copy _ p h = false

abbrev pub is_dropped : Act → ℕ → List Record → Bool
is_dropped (act.Drop b line) p h = since_step (is_drop_of b) p h
is_dropped _ p h = false

-- what the conditions of an act of processor p ask after a history
abbrev pub facts : Act → Intent → ℕ → List Record → Facts
facts a i p h = record {
  finished = i.finished;
  filled = since_step is_fill p h;
  boundary = i.boundary;
  takes_interrupts = i.takes_interrupts;
  wanted = wanted_kind i.wanted;
  held = is_held_for (wanted_kind i.wanted) (wanted_line i.wanted) p h;
  room = has_room_for (wanted_kind i.wanted) (wanted_line i.wanted) p h;
  takes_write = takes_write (wanted_line i.wanted) (buffer p h);
  line_waits = has_line (wanted_line i.wanted) (buffer p h).waiting;
  older_group_waits = has_closed (buffer p h).age (buffer p h).waiting;
  write_waits = not (is_empty (buffer p h).waiting);
  has_entry = has_entry a p h;
  late = is_late a p h;
  holds_copy = holds_copy a p h;
  dropped = is_dropped a p h;
  polled = since_step is_poll_act p h;
  ticked = since_step is_tick p h;
}

-- why an event is not legal after a history; None where it is
unfoldable pub reason : Processors → List Record → Event → Option Reason
reason ps h e =
    if nat_lt (cpu_number e.cpu) ps.count
    then reason_of e.act (facts e.act (ps.intent (cpu_number e.cpu) h) (cpu_number e.cpu) h)
    else Some NoProcessor
