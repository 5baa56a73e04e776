-- The run that a seed defines, event by event.
use Rattle.std.specs.Prelude.{ℕ, zero, suc, ◌*◌, ◌%◌, if◌then◌else◌, List, [], ◌∷◌, ◌++◌, length, slice_get, Option, Some, None, option_map, Result, Ok, Err}
use Rattle.axp_access.specs.declared.Act.{Act}
use Rattle.axp_access.specs.declared.Event.{Event}
use Rattle.axp_access.specs.declared.Outcome.{Outcome}
use Rattle.axp_access.specs.declared.Record.{Record}
use Rattle.axp_base.specs.declared.processors.Cpu.{Cpu}
use Rattle.axp_cpu.specs.declared.refusals.NotLegal.{NotLegal}
use Rattle.axp_image.specs.Contents.{Contents}
use Rattle.axp_machine.specs.Offers.{offer_of}
use Rattle.axp_machine.specs.Runs.{Seen, answer_of, processors_of, started, with_record}
use Rattle.axp_machine.specs.Tails.{cpu_at}
use Rattle.axp_model.specs.Legal.{is_done}
use Rattle.axp_pick.specs.Choices.{choice, turn_field}
use Rattle.axp_pick.specs.Words.{first_words, next_word, words_behind}
use Rattle.axp_world.specs.declared.lengths.TheConstants.{EVENTS_PER_STEP}
use Rattle.rand_pcg.specs.Lcg.{Lcg}

-- a machine, and the words by which it goes on
pub record Seeded : Type 0 where
  pub machine : Seen
  pub words : Lcg

-- the words of a seed's first stream
abbrev pub seeded_start : Contents → ℕ → ℕ → ℕ → Seeded
seeded_start image cpus budget seed = record { machine = started image cpus budget; words = first_words seed 0 }

-- of the processors below n those that are not done: they have a legal event
abbrev pub working_below : Seen → ℕ → List ℕ
working_below m zero = []
working_below m (suc n) = if is_done (processors_of m) m.records n then working_below m n else working_below m n ++ n ∷ []

abbrev pub working : Seen → List ℕ
working m = working_below m m.cpus

-- the processor whose turn it is by a word
abbrev pub turn_among : List ℕ → ℕ → Option ℕ
turn_among numbers word = slice_get numbers (turn_field word % length numbers)

abbrev pub turn_of : Seen → ℕ → Option ℕ
turn_of m word = turn_among (working m) word

-- the event of a processor's act
abbrev pub event_with : Cpu → Act → Event
event_with c a = record { cpu = c; act = a }

-- the event that a word chooses
abbrev pub event_by : Seen → ℕ → Option ℕ → Option Event
event_by m word None = None
event_by m word (Some p) = option_map (event_with (cpu_at p)) (choice (offer_of m (cpu_at p)) word)

unfoldable pub event_of : Seen → ℕ → Option Event
event_of m word = event_by m word (turn_of m word)

-- the record of an event
abbrev pub recorded : Event → Result Outcome NotLegal → Option Record
recorded e (Ok o) = Some (record { event = e; outcome = o })
recorded e (Err refused) = None

abbrev pub record_of : Seen → Option Event → Option Record
record_of m None = None
record_of m (Some e) = recorded e (answer_of m e)

-- the next record; None where every processor is done
unfoldable pub next_record : Seeded → Option Record
next_record s = record_of s.machine (event_of s.machine (next_word s.words))

-- after it; a complete machine goes on with nothing
abbrev pub behind_record : Seeded → Option Record → Seeded
behind_record s None = s
behind_record s (Some r) = record { machine = with_record s.machine r; words = words_behind s.words }

unfoldable pub behind : Seeded → Seeded
behind s = behind_record s (next_record s)

-- after so many records, or all there are
unfoldable pub seeded_after : ℕ → Seeded → Seeded
seeded_after zero s = s
seeded_after (suc n) s = seeded_after n (behind s)

-- a run has no more events than these
abbrev pub most_events : Seen → ℕ
most_events m = EVENTS_PER_STEP * m.cpus * m.budget

-- the machine at the end of a seeded run
unfoldable pub end_of : Seeded → Seen
end_of s = (seeded_after (most_events s.machine) s).machine
