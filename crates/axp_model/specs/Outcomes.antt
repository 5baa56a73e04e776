-- What a legal event gives: its outcome is fixed by the history.
use Rattle.std.specs.Prelude.{◌≡◌, ℕ, ◌+◌, nat_lt, Bool, true, false, ◌&&◌, if◌then◌else◌, List, [], ◌∷◌, slice_get, Option, Some, None}
use Rattle.axp_base.specs.Cpus.{cpu_number}
use Rattle.axp_base.specs.Lines.{line_number, data_bank, line_of, line_at}
use Rattle.axp_base.specs.declared.lines.Bank.{Bank}
use Rattle.axp_base.specs.declared.lines.Bank.TheVariants.{Code}
use Rattle.axp_base.specs.declared.lines.Line.{Line}
use Rattle.axp_base.specs.declared.processors.Cpu.{Cpu}
use Rattle.axp_regs.specs.declared.asks.Kind.{Kind}
use Rattle.axp_regs.specs.declared.asks.Kind.TheVariants as kind
use Rattle.axp_access.specs.declared.Act.{Act}
use Rattle.axp_access.specs.declared.Act.TheVariants as act
use Rattle.axp_access.specs.declared.Event.{Event}
use Rattle.axp_access.specs.declared.Outcome.{Outcome}
use Rattle.axp_access.specs.declared.Outcome.TheVariants as outcome
use Rattle.axp_access.specs.declared.Place.{Place}
use Rattle.axp_access.specs.declared.Place.TheVariants.{At, Entry, Absent}
use Rattle.axp_access.specs.declared.Record.{Record}
use Rattle.axp_access.specs.declared.Wanted.{Wanted}
use Rattle.axp_model.specs.Turns.{turns, stamp, code_stamp, read_place}
use Rattle.axp_model.specs.Entries.{Waiting, buffer, oldest, entry_for}
use Rattle.axp_model.specs.Accesses.{accesses}
use Rattle.axp_access.specs.Numbering.{next_access}
use Rattle.axp_model.specs.Sources.{source_value}
use Rattle.axp_model.specs.Locks.{is_undisturbed, is_signalled}
use Rattle.axp_model.specs.Late.{late, held}
use Rattle.axp_access.specs.declared.Intent.{Intent}
use Rattle.axp_model.specs.Legal.{legal}
use Rattle.axp_model.specs.Processors.{Processors}

-- the wanted access, with this value, success and place
abbrev pub access_outcome : Cpu → Wanted → ℕ → Bool → Place → Outcome
access_outcome cpu w value success place = outcome.Access (record { cpu = cpu; kind = w.kind; address = w.address; size = w.size; value = value; yes = success; place = place })

-- a read or fetch at a place gives the bytes of its sources
abbrev pub read_outcome : (ℕ → ℕ) → Cpu → Wanted → ℕ → List Record → Outcome
read_outcome image cpu w turn h =
    access_outcome cpu w
    (source_value image h (next_access (accesses h) (record { cpu = cpu; kind = w.kind; address = w.address; size = w.size; value = 0; yes = false; place = At turn })))
    false (At turn)

-- an access that stores or moves nothing is made at a place with the wanted value
abbrev pub plain_outcome : Cpu → Wanted → Place → Outcome
plain_outcome cpu w place = access_outcome cpu w w.value false place

-- an STx_C that succeeds is the next turn; one that fails stands at the turn count
abbrev pub conditional_outcome : Cpu → Wanted → Bool → ℕ → Outcome
conditional_outcome cpu w success count = access_outcome cpu w w.value success (At (if success then count + 1 else count))

-- the wanted access, by its kind, at its place
abbrev pub step_outcome_by : Kind → (ℕ → ℕ) → Bool → Cpu → Wanted → List Record → Outcome
step_outcome_by kind.Fetch image armed cpu w h = read_outcome image cpu w (code_stamp (cpu_number cpu) (line_of w.address) h) h
step_outcome_by kind.Read image armed cpu w h = read_outcome image cpu w (read_place (cpu_number cpu) (line_of w.address) h) h
step_outcome_by kind.Write image armed cpu w h = plain_outcome cpu w (Entry (entry_for (line_of w.address) (buffer (cpu_number cpu) h)))
step_outcome_by kind.Locked image armed cpu w h = read_outcome image cpu w (turns h) h
step_outcome_by kind.Conditional image armed cpu w h = conditional_outcome cpu w (is_undisturbed armed (cpu_number cpu) w.address h) (turns h)
step_outcome_by kind.Barrier image armed cpu w h = plain_outcome cpu w (At (turns h))
step_outcome_by kind.WriteBarrier image armed cpu w h = plain_outcome cpu w Absent
step_outcome_by kind.CodeBarrier image armed cpu w h = plain_outcome cpu w (At (turns h))
step_outcome_by kind.Signal image armed cpu w h = plain_outcome cpu w (At (turns h + 1))
step_outcome_by kind.Console image armed cpu w h = plain_outcome cpu w (At (turns h))
step_outcome_by kind.Poll image armed cpu w h = plain_outcome cpu w (At (turns h))

abbrev pub step_outcome : (ℕ → ℕ) → Bool → Cpu → Option Wanted → List Record → Outcome
step_outcome image armed cpu None h = outcome.NoAccess
step_outcome image armed cpu (Some w) h = step_outcome_by w.kind image armed cpu w h

-- the bank that an access of this kind to this line goes to
abbrev pub bank_for : Kind → ℕ → Bank
bank_for kind.Fetch l = Code
bank_for _ l = data_bank l

-- a Fill copies the line of the wanted access as memory now has it
abbrev pub fill_outcome : Option Wanted → List Record → Outcome
fill_outcome None h = outcome.NoAccess
fill_outcome (Some w) h = outcome.Filled (bank_for w.kind (line_of w.address)) (line_at w.address) (turns h)

-- a Drain makes the entry the next turn
abbrev pub drain_outcome : Option Waiting → List Record → Outcome
drain_outcome None h = outcome.NoAccess
drain_outcome (Some e) h = outcome.Drained e.number e.line (turns h + 1)

-- a Take delivers the first late pair: the copy goes where its stamp is less than the turn
abbrev pub take_outcome : ℕ → List (Line × ℕ) → List Record → Outcome
take_outcome p [] h = outcome.NoAccess
take_outcome p ((line, turn) ∷ pairs) h = outcome.Taken line turn (held p (line_number line) h && nat_lt (stamp p (line_number line) h) turn)

abbrev pub outcome_by : Act → (ℕ → ℕ) → Intent → Cpu → List Record → Outcome
outcome_by act.Step image i cpu h = step_outcome image i.lock_flag cpu i.wanted h
outcome_by act.Fill image i cpu h = fill_outcome i.wanted h
outcome_by (act.Drain k) image i cpu h = drain_outcome (slice_get (oldest (buffer (cpu_number cpu) h).waiting) k) h
outcome_by (act.Take b) image i cpu h = take_outcome (cpu_number cpu) (late (cpu_number cpu) b h) h
outcome_by (act.Drop b line) image i cpu h = outcome.Done
outcome_by act.Poll image i cpu h = outcome.Polled (is_signalled (cpu_number cpu) h) (is_signalled (cpu_number cpu) h && i.takes_interrupts) (turns h)
outcome_by act.Tick image i cpu h = outcome.Done

-- the outcome of an event after a history, where the image has these bytes
unfoldable pub outcome_of : (ℕ → ℕ) → Processors → List Record → Event → Outcome
outcome_of image ps h e = outcome_by e.act image (ps.intent (cpu_number e.cpu) h) e.cpu h

-- the history is the run of its own events: each was legal after the records before it, and has its
-- outcome
abbrev pub IsRun : (ℕ → ℕ) → Processors → List Record → Type 0
IsRun image ps [] = Unit {0}
IsRun image ps (r ∷ h) = (legal ps h r.event ≡ true) × (r.outcome ≡ outcome_of image ps h r.event) × IsRun image ps h
