-- What the lines of an event list mean, and the first line of a list or a trace. A line is the text of an event, or of
-- a header, if it is spelled just so.
use Rattle.std.specs.Prelude.{◌≡◌, ℕ, ◌^◌, ◌<◌, ◌≤◌, nat_lt, ◌&&◌, Bool, true, false, if◌then◌else◌, List, [], ◌∷◌, codes, Option, Some, None}
use Rattle.std.specs.Str.{bytes_eq}
use Rattle.axp_base.specs.Cpus.{cpu_number}
use Rattle.axp_base.specs.declared.lines.Bank.{Bank}
use Rattle.axp_base.specs.declared.lines.Line.{Line}
use Rattle.axp_base.specs.declared.processors.Cpu.{Cpu}
use Rattle.axp_base.specs.declared.processors.TheConstants.{MIN_CPUS, MAX_CPUS, MAX_BUDGET}
use Rattle.axp_access.specs.declared.Act.{Act}
use Rattle.axp_access.specs.declared.Act.TheVariants.{Step, Fill, Drain, Take, Drop, Poll, Tick}
use Rattle.axp_access.specs.declared.Event.{Event}
use Rattle.axp_access.specs.declared.TheConstants.{MAX_DRAINS}
use Rattle.axp_trace.specs.Digits.{number_of, hex_number_of, number_within}
use Rattle.axp_trace.specs.Fields.{words_of, cpu_in, line_in, bank_in, data_bank_in}
use Rattle.axp_trace.specs.Lines.{event_text, events_header, trace_header}
use Rattle.axp_trace.specs.declared.digits.TheConstants.{ADDRESS_DIGITS}
use Rattle.axp_trace.specs.declared.fields.TheConstants.{MOST_NUMBER}
use Rattle.axp_trace.specs.declared.headers.Header.{Header}

-- what an act of one word means
abbrev pub bare_act_in : List ℕ → Option Act
bare_act_in verb = if bytes_eq verb (codes "step") then Some Step else if bytes_eq verb (codes "fill") then Some Fill else if bytes_eq verb (codes "poll") then Some Poll else if bytes_eq verb (codes "tick") then Some Tick else None

-- the drain of this number
abbrev pub drain_in : Option ℕ → Option Act
drain_in None = None
drain_in (Some k) = if nat_lt k MAX_DRAINS then Some (Drain k) else None

-- the delivery to this bank
abbrev pub take_in : Option Bank → Option Act
take_in None = None
take_in (Some bank) = Some (Take bank)

-- what an act of a word and a number means
abbrev pub numbered_act_in : List ℕ → Option ℕ → Option Act
numbered_act_in verb n = if bytes_eq verb (codes "drain") then drain_in n else if bytes_eq verb (codes "take") then take_in (data_bank_in n) else None

-- the drop of both
abbrev pub drop_by : Option Bank → Option Line → Option Act
drop_by None line = None
drop_by (Some bank) None = None
drop_by (Some bank) (Some line) = Some (Drop bank line)

-- what the words of an act mean
abbrev pub act_in : List (List ℕ) → Option Act
act_in [] = None
act_in (verb ∷ []) = bare_act_in verb
act_in (verb ∷ number ∷ []) = numbered_act_in verb (number_of number)
act_in (verb ∷ bank ∷ address ∷ []) = if bytes_eq verb (codes "drop") then drop_by (bank_in bank) (line_in (hex_number_of ADDRESS_DIGITS address)) else None
act_in (verb ∷ bank ∷ address ∷ other ∷ more) = None

-- the event of both
abbrev pub event_by : Option Cpu → Option Act → Option Event
event_by None act = None
event_by (Some cpu) None = None
event_by (Some cpu) (Some act) = Some (record { cpu = cpu; act = act })

-- what the words of an event mean
abbrev pub event_in : List (List ℕ) → Option Event
event_in [] = None
event_in (cpu ∷ act) = event_by (cpu_in (number_of cpu)) (act_in act)

-- the event, if its processor is below the count and the line is its text
abbrev pub event_if : ℕ → List ℕ → Option Event → Option Event
event_if cpus line None = None
event_if cpus line (Some e) = if nat_lt (cpu_number e.cpu) cpus && bytes_eq (event_text e) line then Some e else None

-- the event that a line spells, in a list for this many processors
unfoldable pub event_of : ℕ → List ℕ → Option Event
event_of cpus line = event_if cpus line (event_in (words_of line))

-- ---- the first line

-- the first line of a list or a trace with this header
abbrev pub header_text : Header → List ℕ
header_text h = if h.full then trace_header h.cpus h.budget h.memory else events_header h.cpus h.budget

-- the header of these
abbrev pub header_by : Bool → Option ℕ → Option ℕ → Option ℕ → Option Header
header_by full None budget memory = None
header_by full (Some cpus) None memory = None
header_by full (Some cpus) (Some budget) None = None
header_by full (Some cpus) (Some budget) (Some memory) = Some (record { full = full; cpus = cpus; budget = budget; memory = memory })

-- the number of processors that a word names, and the number of steps
abbrev pub cpus_in : List ℕ → Option ℕ
cpus_in word = number_within MIN_CPUS MAX_CPUS word

abbrev pub budget_in : List ℕ → Option ℕ
budget_in word = number_within 1 MAX_BUDGET word

-- what the words of a header mean: the fourth is the number of processors, the sixth the budget, the eighth the bytes
-- of memory
abbrev pub header_in : List (List ℕ) → Option Header
header_in (a ∷ b ∷ c ∷ cpus ∷ d ∷ budget ∷ []) = header_by false (cpus_in cpus) (budget_in budget) (Some 0)
header_in (a ∷ b ∷ c ∷ cpus ∷ d ∷ budget ∷ f ∷ memory ∷ []) = header_by true (cpus_in cpus) (budget_in budget) (number_within 0 MOST_NUMBER memory)
header_in _ = None

-- the header, if the line is its text
abbrev pub header_if : List ℕ → Option Header → Option Header
header_if line None = None
header_if line (Some h) = if bytes_eq (header_text h) line then Some h else None

-- the header that the first line of a list or a trace spells
unfoldable pub header_of : List ℕ → Option Header
header_of line = header_if line (header_in (words_of line))

-- the bytes of memory in the header of a trace, and of an event list
abbrev pub IsMemory : Bool → ℕ → Type 0
IsMemory true memory = memory < 2 ^ 32
IsMemory false memory = memory ≡ 0

-- the header's numbers are such as are printed
pub record HasRange (h : Header) : Type 0 where
  pub least_cpus : MIN_CPUS ≤ h.cpus
  pub most_cpus : h.cpus ≤ MAX_CPUS
  pub least_budget : 1 ≤ h.budget
  pub most_budget : h.budget ≤ MAX_BUDGET
  pub memory : IsMemory h.full h.memory
