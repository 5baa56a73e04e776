-- A machine as its callers see it, what an event gives after any records, and the run of a list of events.
use Rattle.std.specs.Prelude.{ℕ, nat_lt, Bool, ◌&&◌, if◌then◌else◌, List, [], ◌∷◌, map, Option, None, Result, Ok, Err}
use Rattle.axp_access.specs.declared.Event.{Event}
use Rattle.axp_access.specs.declared.Outcome.{Outcome}
use Rattle.axp_access.specs.declared.Record.{Record}
use Rattle.axp_base.specs.Cpus.{cpu_number}
use Rattle.axp_base.specs.declared.lines.Bank.{Bank}
use Rattle.axp_base.specs.declared.processors.Cpu.{Cpu}
use Rattle.axp_cpu.specs.Actors.{Actor, outcome_of, request_of}
use Rattle.axp_cpu.specs.Following.{processors, seat_in}
use Rattle.axp_cpu.specs.Seats.{Seat, is_finished, next_wanted}
use Rattle.axp_cpu.specs.declared.refusals.NotLegal.{NotLegal}
use Rattle.axp_cpu.specs.declared.cpu_states.CpuState.{CpuState}
use Rattle.axp_image.specs.Contents.{Contents}
use Rattle.axp_line.specs.declared.messages.Reply.{Reply}
use Rattle.axp_model.specs.Legal as model
use Rattle.axp_model.specs.Memory.{is_touched, quadword}
use Rattle.axp_model.specs.Processors.{Processors}
use Rattle.axp_model.specs.Waits.{full_bank}
use Rattle.axp_world.specs.Deeds.{alone, answer_alone}
use Rattle.axp_world.specs.Worlds as worlds
use Rattle.axp_world.specs.Worlds.{World, IsPlayed, image_bytes, world}

-- the image, how many processors, the budget of steps of each, and the records: the history, newest first
pub record Seen : Type 0 where
  pub image : Contents
  pub cpus : ℕ
  pub budget : ℕ
  pub records : List Record

-- the machine before any event
abbrev pub started : Contents → ℕ → ℕ → Seen
started image cpus budget = record { image = image; cpus = cpus; budget = budget; records = [] }

-- the processors and the bus after its records
abbrev pub world_of : Seen → World
world_of m = world m.image m.cpus m.budget m.records

-- what an event gives, or that it is not legal
unfoldable pub answer_of : Seen → Event → Result Outcome NotLegal
answer_of m e = worlds.answer_of m.image m.cpus (world_of m) e

-- the machine with one record more
abbrev pub with_record : Seen → Record → Seen
with_record m r = record m { records = r ∷ m.records }

abbrev pub after_answer : Seen → Event → Result Outcome NotLegal → Seen
after_answer m e (Ok o) = with_record m (record { event = e; outcome = o })
after_answer m e (Err refused) = m

-- the machine after an event: one record more, or unchanged where it is refused
unfoldable pub after_event : Seen → Event → Seen
after_event m e = after_answer m e (answer_of m e)

-- each record is what its event gave after those before it
abbrev pub IsRun : Seen → Type 0
IsRun m = IsPlayed m.image m.cpus m.budget m.records

-- the machine after a list of events, the newest first
abbrev pub run : Seen → List Event → Seen
run m [] = m
run m (e ∷ es) = after_event (run m es) e

-- the events of a history, the newest first
abbrev pub events_of : List Record → List Event
events_of h = map (λ r. r.event) h

-- its processors, as the memory model asks of them
abbrev pub processors_of : Seen → Processors
processors_of m = processors m.image m.cpus m.budget

-- where a processor stands, and its table state as its last group of accesses left it
abbrev pub seat_of : Seen → ℕ → Seat
seat_of m p = seat_in m.image m.cpus m.budget p m.records

abbrev pub table_of : Seen → ℕ → CpuState
table_of m p = (seat_of m p).start

-- how many steps a processor made
abbrev pub steps_of : Seen → ℕ → ℕ
steps_of m p = (seat_of m p).steps

-- a processor is finished; one that there is not isn't
abbrev pub is_spent : Seen → Cpu → Bool
is_spent m c = nat_lt (cpu_number c) m.cpus && is_finished (seat_of m (cpu_number c))

-- the full bank that its next access waits for
abbrev pub needs_of : Seen → Cpu → Option Bank
needs_of m c = if nat_lt (cpu_number c) m.cpus then full_bank (next_wanted (seat_of m (cpu_number c))) (cpu_number c) m.records else None

-- a processor by itself, as its own acts and the bus's answers to them made it
abbrev pub alone_in : Seen → ℕ → Actor
alone_in m p = alone m.image m.cpus m.budget p m.records

-- what the bus answers to an event
abbrev pub answer_alone_in : Seen → Event → Option Reply
answer_alone_in m e = answer_alone m.image m.cpus m.budget (cpu_number e.cpu) m.records e.act

-- what an event gives, by its processor alone and the bus's answer
abbrev pub result_alone : Seen → Event → Result Outcome NotLegal
result_alone m e = worlds.answer_by (request_of (alone_in m (cpu_number e.cpu)) e.act) (answer_alone_in m e) (outcome_of (alone_in m (cpu_number e.cpu)) e.act (answer_alone_in m e))

-- every processor is finished, and no write waits
abbrev pub is_complete : Seen → Bool
is_complete m = model.is_complete (processors_of m) m.records

-- the aligned quadword of this number, as memory has it
abbrev pub quadword_of : Seen → ℕ → ℕ
quadword_of m q = quadword (image_bytes m.image) m.records q

-- a drain or a store-conditional that succeeded wrote a byte of it
abbrev pub touches : Seen → ℕ → Bool
touches m q = is_touched m.records q
