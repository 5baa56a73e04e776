-- What a first pass over a trace keeps.
use Rattle.std.specs.Prelude.{◌≡◌, ℕ, ◌+◌, List, [], ◌∷◌, length}
use Rattle.axp_access.specs.declared.EntryState.{EntryState}
use Rattle.axp_access.specs.declared.Outcome.{Outcome}
use Rattle.axp_access.specs.declared.Outcome.TheVariants as outcome
use Rattle.axp_access.specs.declared.Record.{Record}
use Rattle.axp_trace.specs.Files.{lines_of}
use Rattle.axp_history.specs.declared.surveys.Line.{Line}
use Rattle.axp_history.specs.declared.surveys.Line.TheVariants as line
use Rattle.axp_history.specs.declared.surveys.Survey.{Survey}
use Rattle.axp_history.specs.Tables.{Tells}
use Rattle.axp_history.specs.Traces.{Front, LineShown, OfRecord, OfTail, Outside}

-- how many accesses an outcome shows
abbrev pub count_in : Outcome → ℕ
count_in (outcome.Access a) = 1
count_in (outcome.Polled pending entered turn) = 1
count_in _ = 0

abbrev pub accesses_of : List Record → ℕ
accesses_of [] = 0
accesses_of (r ∷ h) = accesses_of h + count_in r.outcome

-- a line in the code is that shown
abbrev pub shown_of : Line → LineShown
shown_of (line.OfRecord e o) = OfRecord (record { event = e; outcome = o })
shown_of line.OfTail = OfTail
shown_of line.Outside = Outside

abbrev pub Means : LineShown → Line → Type 0
Means shown l = shown ≡ shown_of l

-- behind a record the table is that of one record more
abbrev pub KeepsTable : List Record → List EntryState → Line → Type 0
KeepsTable h states (line.OfRecord e o) = Tells (record { event = e; outcome = o } ∷ h) states
KeepsTable h states _ = Unit {0}

-- a survey is that of the events' lines
pub record IsSurvey (f : Front) (s : Survey) : Type 0 where
  pub records : s.records ≡ length f.records
  pub accesses : s.accesses ≡ accesses_of f.records
  pub rest : lines_of s.rest.now ≡ f.rest
  pub good : s.good ≡ f.good
