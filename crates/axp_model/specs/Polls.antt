-- What a Poll shows: the signals that stand before it.
use Rattle.std.specs.Prelude.{◌≡◌, ◌↔◌, ℕ, ◌==◌, Bool, true, ◌&&◌, if◌then◌else◌, Contains, List, [], ◌∷◌, ◌++◌, Option, Some, None}
use Rattle.axp_base.specs.Cpus.{cpu_number}
use Rattle.axp_regs.specs.declared.asks.Kind.TheVariants as kind
use Rattle.axp_access.specs.declared.Access.{Access}
use Rattle.axp_access.specs.declared.Event.{Event}
use Rattle.axp_access.specs.declared.Outcome.TheVariants as outcome
use Rattle.axp_access.specs.declared.Place.TheVariants.{At}
use Rattle.axp_access.specs.declared.Record.{Record}
use Rattle.axp_model.specs.Records.{is_of, enters, access_in}
use Rattle.axp_access.specs.Kinds.{is_signal}
use Rattle.axp_model.specs.Accesses.{accesses, times}
use Rattle.axp_access.specs.Numbering.{NumberedAccess, cpu_of, next_access}
use Rattle.axp_access.specs.Order.{before}
use Rattle.axp_model.specs.Processors.{Processors}

-- a record that shows a Poll
abbrev pub polled : Event → Bool → Bool → ℕ → Record
polled e pending entered turn = record { event = e; outcome = outcome.Polled pending entered turn }

-- its access, where these records came before it
abbrev pub poll_item : Event → Bool → ℕ → List Record → NumberedAccess
poll_item e pending turn h =
    next_access (accesses h) (record { cpu = e.cpu; kind = kind.Poll; address = 0; size = 0; value = 0; yes = pending; place = At turn })

-- the accesses, and with them that of a record which shows one
abbrev pub with_shown : Option Access → List NumberedAccess → List NumberedAccess → List NumberedAccess
with_shown None us polls = polls
with_shown (Some a) us polls = next_access us a ∷ polls

-- the Polls of processor p that entered, the newest first
abbrev pub entered_polls : ℕ → List Record → List NumberedAccess
entered_polls p [] = []
entered_polls p (r ∷ h) =
    if is_of p r && enters r.outcome
    then with_shown (access_in r.event.cpu r.outcome) (accesses h) (entered_polls p h)
    else entered_polls p h

-- a signal to processor p
abbrev pub signals_to : ℕ → NumberedAccess → Bool
signals_to p u = is_signal u.access.kind && (u.access.value == p)

-- a signal to the processor that made the Poll v is BEFORE it, and no Poll of the processor that entered
-- stands between the two
pub record IsAwaited (h : List Record) (v : NumberedAccess) : Type 0 where
  pub signal : NumberedAccess
  pub made : Contains (accesses h) signal
  pub sent : signals_to (cpu_of v) signal ≡ true
  pub first : before (times h) signal v ≡ true
  pub alone : (w : NumberedAccess) → Contains (entered_polls (cpu_of v) h) w → before (times h) signal w ≡ true → before (times h) w v ≡ true → ⊥

-- a Poll that came after the records h, in the history k, shows a signal exactly where one is awaited, and
-- enters exactly where it shows one and its processor takes interrupts
pub record IsPollKept (ps : Processors) (k : List Record) (e : Event) (pending entered : Bool) (turn : ℕ) (h : List Record) : Type 0 where
  pub shown : (pending ≡ true) ↔ IsAwaited k (poll_item e pending turn h)
  pub taken : entered ≡ (pending && (ps.intent (cpu_number e.cpu) h).takes_interrupts)

-- so it is with each Poll of a history
abbrev pub KeepsPolls : Processors → List Record → Type 0
KeepsPolls ps k = (later : List Record) (e : Event) (pending entered : Bool) (turn : ℕ) (h : List Record)
    → k ≡ later ++ polled e pending entered turn ∷ h → IsPollKept ps k e pending entered turn h
