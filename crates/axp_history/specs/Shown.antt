-- The list of accesses that records show.
use Rattle.std.specs.Prelude.{◌≡◌, true, ℕ, List, [], ◌∷◌, Option, Some, None}
use Rattle.std.specs.List.{list_any}
use Rattle.axp_base.specs.Cpus.{cpu_number}
use Rattle.axp_base.specs.declared.processors.Cpu.{Cpu}
use Rattle.axp_access.specs.declared.Access.{Access}
use Rattle.axp_access.specs.declared.Event.{Event}
use Rattle.axp_access.specs.declared.Outcome.{Outcome}
use Rattle.axp_access.specs.declared.Outcome.TheVariants as outcome
use Rattle.axp_access.specs.declared.Record.{Record}
use Rattle.axp_access.specs.declared.access_lists.Drain.{Drain}
use Rattle.axp_access.specs.Lists.{Accesses, IsUndrained, append_access, append_drain, is_write_in, no_accesses, turn_in}
use Rattle.axp_access.specs.Spelling.{Spells}
use Rattle.axp_model.specs.Records.{access_in}
use Rattle.axp_trace.specs.declared.lines.TraceLine.{TraceLine}
use Rattle.axp_trace.specs.declared.lines.TraceLine.TheVariants.{Full}
use Rattle.axp_history.specs.declared.faults.TraceFault.{TraceFault}
use Rattle.axp_history.specs.declared.faults.TraceFault.TheVariants as fault
use Rattle.axp_history.specs.Traces.{Shown, Records, BadLine}

-- the drain of a record
abbrev pub drain_in : Cpu → Outcome → Option Drain
drain_in cpu (outcome.Drained entry line turn) = Some (record { cpu = cpu; entry = entry; turn = turn })
drain_in cpu _ = None

abbrev pub with_access_in : Option Access → Accesses → Accesses
with_access_in None list = list
with_access_in (Some a) list = append_access list a

abbrev pub with_drain_in : Option Drain → Accesses → Accesses
with_drain_in None list = list
with_drain_in (Some d) list = append_drain list d

-- a list with what a record shows: an access, the turn of a drain, or nothing
abbrev pub with_record_in : Event → Outcome → Accesses → Accesses
with_record_in e o list = with_drain_in (drain_in e.cpu o) (with_access_in (access_in e.cpu o) list)

-- a list has a place for what a record shows: a write stands in an entry that no drain has named, and a drain
-- names an entry in which a write stands, once
abbrev pub HasPlaceFor : Accesses → Event → Outcome → Type 0
HasPlaceFor list e (outcome.Access a) = IsUndrained list.drains (cpu_number e.cpu) a.place
HasPlaceFor list e (outcome.Drained n line turn) = (list_any (is_write_in (cpu_number e.cpu) n) list.items ≡ true) × (turn_in list.drains (cpu_number e.cpu) n ≡ None)
HasPlaceFor list e _ = Unit {0}

-- what each record of a trace meets
abbrev pub IsSpelledRecord : Record → Type 0
IsSpelledRecord r = Spells r.event r.outcome

-- the record that a line shows, if it shows one
abbrev pub record_by : Option TraceLine → Option Record
record_by (Some (Full e o)) = Some (record { event = e; outcome = o })
record_by _ = None

-- the list of this room that records show, these with the newest first
abbrev pub list_of : ℕ → List Record → Accesses
list_of room [] = no_accesses room
list_of room (r ∷ h) = with_record_in r.event r.outcome (list_of room h)

-- a list is that of a trace
abbrev pub IsShown : Shown → Accesses → Type 0
IsShown (Records h) list = list ≡ list_of list.room h
IsShown (BadLine n) list = ⊥

-- a fault is that of a trace; want of memory may be of any
abbrev pub IsFaultOf : Shown → TraceFault → Type 0
IsFaultOf shown (fault.Bad line) = shown ≡ BadLine line
IsFaultOf shown fault.Memory = Unit {0}
