-- What the lines of a trace's events mean: an event, and what came of it.
use Rattle.std.specs.Prelude.{◌≡◌, ℕ, ◌-◌, ◌<◌, nat_lt, ◌&&◌, Bool, true, false, if◌then◌else◌, List, [], ◌∷◌, length, take, codes, Option, Some, None}
use Rattle.std.specs.Str.{bytes_eq}
use Rattle.axp_base.specs.Cpus.{cpu_number}
use Rattle.axp_base.specs.declared.lines.Bank.{Bank}
use Rattle.axp_base.specs.declared.lines.Line.{Line}
use Rattle.axp_base.specs.declared.processors.Cpu.{Cpu}
use Rattle.axp_base.specs.declared.processors.TheConstants.{MAX_CPUS}
use Rattle.axp_access.specs.declared.Act.{Act}
use Rattle.axp_access.specs.declared.Act.TheVariants as act
use Rattle.axp_access.specs.declared.Event.{Event}
use Rattle.axp_access.specs.declared.Outcome.{Outcome}
use Rattle.axp_access.specs.declared.Outcome.TheVariants as outcome
use Rattle.axp_access.specs.declared.Place.{Place}
use Rattle.axp_access.specs.declared.Place.TheVariants.{At, Entry, Absent}
use Rattle.axp_access.specs.declared.Record.{Record}
use Rattle.axp_access.specs.Kinds.{is_signal}
use Rattle.axp_access.specs.Spelling.{Spells}
use Rattle.axp_regs.specs.declared.asks.Kind.{Kind}
use Rattle.axp_regs.specs.declared.asks.Kind.TheVariants as kind
use Rattle.axp_trace.specs.Digits.{hex_number_of, number_within}
use Rattle.axp_trace.specs.Fields.{words_of, cut_at, line_in, bank_in, turn_in, entry_in, moved_in, data_in, bare_of}
use Rattle.axp_trace.specs.Lines.{line_text}
use Rattle.axp_trace.specs.Reading.{event_of}
use Rattle.axp_trace.specs.declared.digits.TheConstants.{ADDRESS_DIGITS}
use Rattle.axp_trace.specs.declared.fields.Moved.{Moved}
use Rattle.axp_trace.specs.declared.records.TheConstants.{COLON}

-- ---- the access of a step

-- a processor's access of this kind, of these bytes, there
abbrev pub access_of : Cpu → Kind → Moved → Bool → Place → Outcome
access_of cpu k m success place = outcome.Access (record { cpu = cpu; kind = k; address = m.address; size = m.size; value = m.value; yes = success; place = place })

-- an access that stands at a turn
abbrev pub placed_by : Cpu → Option Kind → Option Moved → Bool → Option ℕ → Option Outcome
placed_by cpu None m success turn = None
placed_by cpu (Some k) None success turn = None
placed_by cpu (Some k) (Some m) success None = None
placed_by cpu (Some k) (Some m) success (Some turn) = Some (access_of cpu k m success (At turn))

-- a plain write, which stands in an entry
abbrev pub stored_by : Cpu → Option Moved → Option ℕ → Option Outcome
stored_by cpu None entry = None
stored_by cpu (Some m) None = None
stored_by cpu (Some m) (Some n) = Some (access_of cpu kind.Write m false (Entry n))

-- a write barrier, which stands nowhere
abbrev pub write_barrier_of : Cpu → Outcome
write_barrier_of cpu = access_of cpu kind.WriteBarrier (record { address = 0; size = 0; value = 0 }) false Absent

-- the kind that a letter names: of a barrier, and of a read
abbrev pub barrier_kind : List ℕ → Option Kind
barrier_kind letter = if bytes_eq letter (codes "m") then Some kind.Barrier else if bytes_eq letter (codes "b") then Some kind.CodeBarrier else None

abbrev pub read_kind : List ℕ → Option Kind
read_kind letter = if bytes_eq letter (codes "r") then Some kind.Read else if bytes_eq letter (codes "l") then Some kind.Locked else None

-- what one word means: no access, or a write barrier
abbrev pub alone_in : Cpu → List ℕ → Option Outcome
alone_in cpu letter = if bytes_eq letter (codes "n") then Some outcome.NoAccess else if bytes_eq letter (codes "s") then Some (write_barrier_of cpu) else None

-- a letter, a number and a turn: a signal, or a byte to the console
abbrev pub message_in : Cpu → List ℕ → List ℕ → List ℕ → Option Outcome
message_in cpu letter value turn = if bytes_eq letter (codes "g") then placed_by cpu (Some kind.Signal) (bare_of (number_within 0 (MAX_CPUS - 1) value)) false (turn_in turn) else if bytes_eq letter (codes "p") then placed_by cpu (Some kind.Console) (bare_of (hex_number_of 2 value)) false (turn_in turn) else None

-- a letter and a turn: a barrier that has a place
abbrev pub fence_in : Cpu → List ℕ → List ℕ → Option Outcome
fence_in cpu letter turn = placed_by cpu (barrier_kind letter) (bare_of (Some 0)) false (turn_in turn)

-- an address, a word and a turn: a fetch
abbrev pub fetch_in : Cpu → List ℕ → List ℕ → List ℕ → Option Outcome
fetch_in cpu address word turn = placed_by cpu (Some kind.Fetch) (moved_in (hex_number_of ADDRESS_DIGITS address) (Some 4) word) false (turn_in turn)

-- bytes of memory, whether they were stored, and a turn: a store-conditional
abbrev pub conditional_in : Cpu → Option Moved → List ℕ → List ℕ → Option Outcome
conditional_in cpu m success turn = placed_by cpu (Some kind.Conditional) m (bytes_eq success (codes "yes")) (turn_in turn)

-- a letter, bytes of memory and a place: a plain write, or a read
abbrev pub memory_in : Cpu → List ℕ → Option Moved → List ℕ → Option Outcome
memory_in cpu letter m place = if bytes_eq letter (codes "w") then stored_by cpu m (entry_in place) else placed_by cpu (read_kind letter) m false (turn_in place)

-- what the words of a step's outcome mean, by their number
abbrev pub step_in : Cpu → List (List ℕ) → Option Outcome
step_in cpu [] = None
step_in cpu (letter ∷ []) = alone_in cpu letter
step_in cpu (letter ∷ turn ∷ []) = fence_in cpu letter turn
step_in cpu (letter ∷ value ∷ turn ∷ []) = message_in cpu letter value turn
step_in cpu (letter ∷ address ∷ word ∷ turn ∷ []) = fetch_in cpu address word turn
step_in cpu (letter ∷ address ∷ size ∷ value ∷ place ∷ []) = memory_in cpu letter (data_in address size value) place
step_in cpu (letter ∷ address ∷ size ∷ value ∷ success ∷ turn ∷ []) = conditional_in cpu (data_in address size value) success turn
step_in cpu (a ∷ b ∷ c ∷ d ∷ e ∷ f ∷ g ∷ more) = None

-- ---- the outcomes of other events

abbrev pub filled_by : Option Bank → Option Line → Option ℕ → Option Outcome
filled_by None line turn = None
filled_by (Some bank) None turn = None
filled_by (Some bank) (Some line) None = None
filled_by (Some bank) (Some line) (Some turn) = Some (outcome.Filled bank line turn)

abbrev pub drained_by : Option ℕ → Option Line → Option ℕ → Option Outcome
drained_by None line turn = None
drained_by (Some entry) None turn = None
drained_by (Some entry) (Some line) None = None
drained_by (Some entry) (Some line) (Some turn) = Some (outcome.Drained entry line turn)

abbrev pub taken_by : Option Line → Option ℕ → Bool → Option Outcome
taken_by None turn gone = None
taken_by (Some line) None gone = None
taken_by (Some line) (Some turn) gone = Some (outcome.Taken line turn gone)

abbrev pub polled_by : Bool → Bool → Option ℕ → Option Outcome
polled_by pending entered None = None
polled_by pending entered (Some turn) = Some (outcome.Polled pending entered turn)

-- the line that a word names
abbrev pub named_line : List ℕ → Option Line
named_line address = line_in (hex_number_of ADDRESS_DIGITS address)

-- three words in order: of a fill, a drain, a take and a poll
abbrev pub filled_in : List (List ℕ) → Option Outcome
filled_in (bank ∷ address ∷ turn ∷ []) = filled_by (bank_in bank) (named_line address) (turn_in turn)
filled_in _ = None

abbrev pub drained_in : List (List ℕ) → Option Outcome
drained_in (entry ∷ address ∷ turn ∷ []) = drained_by (entry_in entry) (named_line address) (turn_in turn)
drained_in _ = None

abbrev pub taken_in : List (List ℕ) → Option Outcome
taken_in (address ∷ turn ∷ fate ∷ []) = taken_by (named_line address) (turn_in turn) (bytes_eq fate (codes "gone"))
taken_in _ = None

abbrev pub polled_in : List (List ℕ) → Option Outcome
polled_in (bit ∷ turn ∷ answer ∷ []) = polled_by (bytes_eq bit (codes "1")) (bytes_eq answer (codes "enter")) (turn_in turn)
polled_in _ = None

-- of a drop and a tick: one word
abbrev pub done_in : List (List ℕ) → Option Outcome
done_in (ok ∷ []) = Some outcome.Done
done_in _ = None

-- what the words behind the colon mean, of an event with this act
abbrev pub outcome_in : Cpu → Act → List (List ℕ) → Option Outcome
outcome_in cpu act.Step words = step_in cpu words
outcome_in cpu act.Fill words = filled_in words
outcome_in cpu (act.Drain k) words = drained_in words
outcome_in cpu (act.Take bank) words = taken_in words
outcome_in cpu (act.Drop bank line) words = done_in words
outcome_in cpu act.Poll words = polled_in words
outcome_in cpu act.Tick words = done_in words

-- ---- the whole line

-- both as a record
abbrev pub record_by : Event → Option Outcome → Option Record
record_by e None = None
record_by e (Some o) = Some (record { event = e; outcome = o })

-- what came of the event, by the words behind the colon; the first is what stands before the blank
abbrev pub recorded : Option Event → List (List ℕ) → Option Record
recorded None words = None
recorded (Some e) [] = None
recorded (Some e) (before ∷ words) = record_by e (outcome_in e.cpu e.act words)

-- what both sides of the colon mean; the event stands before a blank
abbrev pub record_in : ℕ → Option (List ℕ × List ℕ) → Option Record
record_in cpus None = None
record_in cpus (Some p) = recorded (event_of cpus (take (length p.0 - 1) p.0)) (words_of p.1)

-- a signal goes to a processor below the count
abbrev pub is_target_below : ℕ → Outcome → Bool
is_target_below cpus (outcome.Access a) = if is_signal a.kind then nat_lt a.value cpus else true
is_target_below cpus _ = true

-- the record, if each processor that it names is below the count and the line is its text
abbrev pub record_if : ℕ → List ℕ → Option Record → Option Record
record_if cpus line None = None
record_if cpus line (Some r) = if is_target_below cpus r.outcome && bytes_eq (line_text r.event r.outcome) line then Some r else None

-- the record that a line of a trace spells, where there are so many processors
unfoldable pub record_of : ℕ → List ℕ → Option Record
record_of cpus line = record_if cpus line (record_in cpus (cut_at COLON line))

-- a record that a line of a trace for so many processors spells
pub record IsRecord (cpus : ℕ) (r : Record) : Type 0 where
  pub spelled : Spells r.event r.outcome
  pub cpu : cpu_number r.event.cpu < cpus
  pub target : is_target_below cpus r.outcome ≡ true
