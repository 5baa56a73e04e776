-- What one record shows, as the memory model asks. A history is the list of its records, the newest
-- first; lines, processors and banks are asked for by their numbers and names.
use Rattle.std.specs.Prelude.{ℕ, ◌==◌, Bool, true, false, ◌&&◌, ◌||◌, if◌then◌else◌, Option, Some, None}
use Rattle.axp_base.specs.Cpus.{cpu_number}
use Rattle.axp_base.specs.Lines.{line_of, line_at, is_line}
use Rattle.axp_base.specs.declared.lines.Bank.TheVariants.{Code}
use Rattle.axp_base.specs.declared.lines.Line.{Line}
use Rattle.axp_base.specs.declared.processors.Cpu.{Cpu}
use Rattle.axp_regs.specs.declared.asks.Kind.TheVariants as kind
use Rattle.axp_access.specs.declared.Access.{Access}
use Rattle.axp_access.specs.declared.Act.{Act}
use Rattle.axp_access.specs.declared.Act.TheVariants as act
use Rattle.axp_access.specs.declared.Outcome.{Outcome}
use Rattle.axp_access.specs.declared.Outcome.TheVariants as outcome
use Rattle.axp_access.specs.declared.Place.TheVariants.{At}
use Rattle.axp_access.specs.declared.Record.{Record}
use Rattle.axp_access.specs.Kinds.{is_locked, is_barrier, is_code_barrier, is_signal, is_success}

-- the record is of this processor
abbrev pub is_of : ℕ → Record → Bool
is_of p r = cpu_number r.event.cpu == p

-- the record is an access that passes a test
abbrev pub makes_access : (Access → Bool) → Outcome → Bool
makes_access test (outcome.Access a) = test a
makes_access test _ = false

-- a turn is a drain, a successful STx_C or a signal
abbrev pub is_turn : Outcome → Bool
is_turn (outcome.Access a) = is_success a || is_signal a.kind
is_turn (outcome.Drained entry line turn) = true
is_turn _ = false

-- a drain or a successful STx_C, of this line: a turn on it
abbrev pub turns_on : ℕ → Outcome → Bool
turns_on l (outcome.Access a) = is_success a && (line_of a.address == l)
turns_on l (outcome.Drained entry line turn) = is_line l line
turns_on l _ = false

-- the line that a turn is on
abbrev pub line_of_turn : Outcome → Option Line
line_of_turn (outcome.Access a) = if is_success a then Some (line_at a.address) else None
line_of_turn (outcome.Drained entry line turn) = Some line
line_of_turn _ = None

-- a data Fill of this line, a code Fill of it
abbrev pub fills : ℕ → Outcome → Bool
fills l (outcome.Filled Code line turn) = false
fills l (outcome.Filled bank line turn) = is_line l line
fills l _ = false

abbrev pub fills_code : ℕ → Outcome → Bool
fills_code l (outcome.Filled Code line turn) = is_line l line
fills_code l _ = false

-- an LDx_L from this line
abbrev pub locks : ℕ → Outcome → Bool
locks l o = makes_access (λ a. is_locked a.kind && (line_of a.address == l)) o

-- an MB or an IMB, an IMB alone
abbrev pub fences : Outcome → Bool
fences o = makes_access (λ a. is_barrier a.kind || is_code_barrier a.kind) o

abbrev pub code_fences : Outcome → Bool
code_fences o = makes_access (λ a. is_code_barrier a.kind) o

-- a drain of this entry
abbrev pub drains : ℕ → Outcome → Bool
drains n (outcome.Drained entry line turn) = entry == n
drains n _ = false

-- a Drop of this line from its data bank, from the code bank
abbrev pub drops : ℕ → Act → Bool
drops l (act.Drop Code line) = false
drops l (act.Drop bank line) = is_line l line
drops l _ = false

abbrev pub drops_code : ℕ → Act → Bool
drops_code l (act.Drop Code line) = is_line l line
drops_code l _ = false

-- a Poll that enters
abbrev pub enters : Outcome → Bool
enters (outcome.Polled pending entered turn) = entered
enters _ = false

-- a signal to this processor
abbrev pub signals : ℕ → Outcome → Bool
signals p o = makes_access (λ a. is_signal a.kind && (a.value == p)) o

-- the access of a record: that of a Step, or the Poll
abbrev pub access_in : Cpu → Outcome → Option Access
access_in cpu (outcome.Access a) = Some a
access_in cpu (outcome.Polled pending entered turn) = Some (record { cpu = cpu; kind = kind.Poll; address = 0; size = 0; value = 0; yes = pending; place = At turn })
access_in cpu _ = None
