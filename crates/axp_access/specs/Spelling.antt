-- Which events and outcomes one line of a trace spells: the outcome belongs to the event, its numbers
-- fit the fields in which they are printed, and what is not printed is 0 or false.
use Rattle.std.specs.Prelude.{◌≡◌, ℕ, ◌*◌, ◌%◌, ◌^◌, ◌<◌, ◌≤◌, false}
use Rattle.axp_base.specs.Lines.{line_number}
use Rattle.axp_base.specs.Masks.{IsSize}
use Rattle.axp_base.specs.declared.lines.Bank.{Bank}
use Rattle.axp_base.specs.declared.lines.Bank.TheVariants.{Even, Odd, Code}
use Rattle.axp_base.specs.declared.lines.Line.{Line}
use Rattle.axp_base.specs.declared.lines.TheConstants.{LINE_BYTES}
use Rattle.axp_base.specs.declared.processors.TheConstants.{MAX_CPUS, MAX_BUDGET}
use Rattle.axp_access.specs.declared.Access.{Access}
use Rattle.axp_access.specs.declared.Act.{Act}
use Rattle.axp_access.specs.declared.Act.TheVariants as act
use Rattle.axp_access.specs.declared.Event.{Event}
use Rattle.axp_regs.specs.declared.asks.Kind.{Kind}
use Rattle.axp_regs.specs.declared.asks.Kind.TheVariants as kind
use Rattle.axp_access.specs.declared.Outcome.{Outcome}
use Rattle.axp_access.specs.declared.Outcome.TheVariants as outcome
use Rattle.axp_access.specs.declared.Place.{Place}
use Rattle.axp_access.specs.declared.Place.TheVariants.{At, Entry, Absent}
use Rattle.axp_access.specs.declared.TheConstants.{MAX_DRAINS}

-- a place or the number of a turn, as it is printed
abbrev pub IsTurn : ℕ → Type 0
IsTurn turn = turn < 2 ^ 32

abbrev pub IsPlaced : Place → Type 0
IsPlaced (At turn) = IsTurn turn
IsPlaced (Entry n) = ⊥
IsPlaced Absent = ⊥

-- a line is printed as the address of its first byte
abbrev pub IsLine : Line → Type 0
IsLine line = line_number line * LINE_BYTES < 2 ^ 32

-- the number of an entry of a write buffer: each is made by a step
pub record IsEntry (n : ℕ) : Type 0 where
  pub least : 1 ≤ n
  pub most : n ≤ MAX_BUDGET

-- a plain write stands in an entry of its write buffer
abbrev pub IsBuffered : Place → Type 0
IsBuffered (At turn) = ⊥
IsBuffered (Entry n) = IsEntry n
IsBuffered Absent = ⊥

-- an access of this many bytes lies at a multiple of them
pub record IsMoved (n : ℕ) (a : Access) : Type 0 where
  pub size : a.size ≡ n
  pub aligned : a.address % n ≡ 0
  pub address : a.address < 2 ^ 32
  pub value : a.value < 2 ^ (8 * n)

pub record IsData (a : Access) : Type 0 where
  pub sized : IsSize a.size
  pub moved : IsMoved a.size a

-- an access that names no memory
pub record IsBare (a : Access) : Type 0 where
  pub address : a.address ≡ 0
  pub size : a.size ≡ 0

-- what an access of each kind prints
abbrev pub IsSpelledAs : Kind → Access → Type 0
IsSpelledAs kind.Fetch a = IsMoved 4 a × ((a.yes ≡ false) × IsPlaced a.place)
IsSpelledAs kind.Read a = IsData a × ((a.yes ≡ false) × IsPlaced a.place)
IsSpelledAs kind.Write a = IsData a × ((a.yes ≡ false) × IsBuffered a.place)
IsSpelledAs kind.Locked a = IsData a × ((a.yes ≡ false) × IsPlaced a.place)
IsSpelledAs kind.Conditional a = IsData a × IsPlaced a.place
IsSpelledAs kind.Barrier a = IsBare a × ((a.value ≡ 0) × ((a.yes ≡ false) × IsPlaced a.place))
IsSpelledAs kind.WriteBarrier a = IsBare a × ((a.value ≡ 0) × ((a.yes ≡ false) × (a.place ≡ Absent)))
IsSpelledAs kind.CodeBarrier a = IsBare a × ((a.value ≡ 0) × ((a.yes ≡ false) × IsPlaced a.place))
IsSpelledAs kind.Signal a = IsBare a × ((a.value < MAX_CPUS) × ((a.yes ≡ false) × IsPlaced a.place))
IsSpelledAs kind.Console a = IsBare a × ((a.value < 2 ^ 8) × ((a.yes ≡ false) × IsPlaced a.place))
-- a poll is printed as what came of its event
IsSpelledAs kind.Poll a = ⊥

abbrev pub IsSpelled : Access → Type 0
IsSpelled a = IsSpelledAs a.kind a

-- late invalidations are of data banks
abbrev pub IsDataBank : Bank → Type 0
IsDataBank Even = Unit {0}
IsDataBank Odd = Unit {0}
IsDataBank Code = ⊥

-- what an act prints
abbrev pub IsNamed : Act → Type 0
IsNamed act.Step = Unit {0}
IsNamed act.Fill = Unit {0}
IsNamed (act.Drain k) = k < MAX_DRAINS
IsNamed (act.Take b) = IsDataBank b
IsNamed (act.Drop b l) = IsLine l
IsNamed act.Poll = Unit {0}
IsNamed act.Tick = Unit {0}

-- the outcome is of the act's kind, and is printed
abbrev pub IsOutcomeOf : Act → Event → Outcome → Type 0
IsOutcomeOf act.Step e (outcome.Access a) = (a.cpu ≡ e.cpu) × IsSpelled a
IsOutcomeOf act.Step e outcome.NoAccess = Unit {0}
IsOutcomeOf act.Fill e (outcome.Filled bank line turn) = IsLine line × IsTurn turn
IsOutcomeOf (act.Drain k) e (outcome.Drained entry line turn) = IsEntry entry × (IsLine line × IsTurn turn)
IsOutcomeOf (act.Take b) e (outcome.Taken line turn gone) = IsLine line × IsTurn turn
IsOutcomeOf (act.Drop b l) e outcome.Done = Unit {0}
IsOutcomeOf act.Poll e (outcome.Polled pending entered turn) = IsTurn turn
IsOutcomeOf act.Tick e outcome.Done = Unit {0}
IsOutcomeOf _ e _ = ⊥

-- one line spells both
abbrev pub Spells : Event → Outcome → Type 0
Spells e o = IsNamed e.act × IsOutcomeOf e.act e o
