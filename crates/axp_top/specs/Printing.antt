-- What printing leaves of a sink: each line is one put.
use Rattle.std.specs.Prelude.{◌≡◌, ◌⊎◌, ℕ, zero, suc, ◌+◌, List, [], ◌∷◌, ◌++◌, length, Option, Some, None, Result, Ok, Err}
use Rattle.std.specs.List.{concat}
use Rattle.axp_io.specs.Causes.{Appends, raised}
use Rattle.axp_top.specs.declared.printing.Stop.{Stop}
use Rattle.axp_top.specs.declared.printing.Stop.TheVariants as stop
use Rattle.axp_top.specs.declared.status.Status.{Status}
use Rattle.axp_top.specs.declared.status.Status.TheVariants as status
use Rattle.axp_top.specs.Outside.{SinkState}
use Rattle.axp_top.specs.Replays.{Answer}
use Rattle.axp_top.specs.Texts.{Lines}

-- a count of puts after so many more; where there are none it is as it was
abbrev pub after_puts : ℕ → ℕ → ℕ
after_puts n zero = n
after_puts n (suc k) = raised n (suc k)

-- the lines were printed, each by one put
pub record Printed (before now : SinkState) (printed : Lines) : Type 0 where
  pub text : Appends before.taken now.taken (concat printed)
  pub count : now.faults ≡ before.faults
  pub each : now.puts ≡ after_puts before.puts (length printed)

-- the put of a line was not taken whole: those before it were printed, and of it this part was taken
pub record StopsAt (before now : SinkState) (printed : Lines) (part : List ℕ) : Type 0 where
  pub whole : Lines
  pub line : List ℕ
  pub others : Lines
  pub parted : printed ≡ whole ++ line ∷ others
  pub missing : List ℕ
  pub cut : line ≡ part ++ missing
  pub text : Appends before.taken now.taken (concat whole ++ part)
  pub each : now.puts ≡ raised before.puts (length whole + 1)

-- memory was not found between two puts: these lines were printed, and no other put
pub record LacksAt (before now : SinkState) (printed : Lines) : Type 0 where
  pub whole : Lines
  pub others : Lines
  pub parted : printed ≡ whole ++ others
  pub text : Appends before.taken now.taken (concat whole)
  pub each : now.puts ≡ after_puts before.puts (length whole)

-- the sink failed in a line, or memory was not found for its put, or between two
abbrev pub Stopped : SinkState → SinkState → Lines → Stop → Type 0
Stopped before now printed stop.WriteFault =
    ((part : List ℕ) × StopsAt before now printed part) × (now.faults ≡ raised before.faults 1)
Stopped before now printed stop.Memory = (StopsAt before now printed [] ⊎ LacksAt before now printed) × (now.faults ≡ before.faults)

abbrev pub Prints : {T : Type 0} → SinkState → SinkState → Lines → Result T Stop → Type 0
Prints before now printed (Ok _) = Printed before now printed
Prints before now printed (Err s) = Stopped before now printed s

-- why the work stopped with this status, if it did not end with its lines printed
abbrev pub stop_of : Status → Option Stop
stop_of status.WriteFault = Some stop.WriteFault
stop_of status.Memory = Some stop.Memory
stop_of _ = None

-- the work ended with the answer's status, its lines printed; or it stopped in a line; or memory was not
-- found before any was printed
abbrev pub EndsBy : SinkState → SinkState → Answer → Status → Option Stop → Type 0
EndsBy before now answer s None = (s ≡ answer.status) × Printed before now answer.lines
EndsBy before now answer s (Some stop.WriteFault) = Stopped before now answer.lines stop.WriteFault
EndsBy before now answer s (Some stop.Memory) = (now ≡ before) ⊎ Stopped before now answer.lines stop.Memory

abbrev pub Ends : SinkState → SinkState → Answer → Status → Type 0
Ends before now answer s = EndsBy before now answer s (stop_of s)

-- a status that one line is printed for
abbrev pub IsRefusal : Status → Type 0
IsRefusal status.Done = ⊥
IsRefusal (status.Differs n) = ⊥
IsRefusal status.WriteFault = ⊥
IsRefusal status.Memory = ⊥
IsRefusal _ = Unit {0}

abbrev pub status_of_stop : Stop → Status
status_of_stop stop.WriteFault = status.WriteFault
status_of_stop stop.Memory = status.Memory
