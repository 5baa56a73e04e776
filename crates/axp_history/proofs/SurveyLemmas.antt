-- From line to line through the events of a trace.
use Rattle.std.proofs.Common.{◌≡◌, ℕ, ◌+◌, ◌≤◌, Bool, true, false, cond, eqb, List, [], ◌∷◌, length, Option, Some, None, refl, sym, ◌∙◌, arith}
use Rattle.axp_access.specs.declared.entry_states.EntryState.{EntryState}
use Rattle.axp_access.specs.declared.Outcome.{Outcome}
use Rattle.axp_access.specs.declared.Outcome.TheVariants as outcome
use Rattle.axp_access.specs.declared.Record.{Record}
use Rattle.axp_trace.specs.declared.headers.Header.{Header}
use Rattle.axp_trace.specs.Files.{lines_of}
use Rattle.axp_trace.specs.TraceLines.{line_of}
use Rattle.axp_history.specs.declared.surveys.Survey.{Survey}
use Rattle.axp_history.specs.Surveys.{IsSurvey, accesses_of, count_in}
use Rattle.axp_history.specs.Tables.{Tells}
use Rattle.axp_history.specs.Traces.{FileLine, OfRecord, OfTail, Outside, fault_behind, front_at, front_of, shown_by, tail_fault}
use Rattle.axp_history.proofs.LineLemmas.{has_line}

-- the records so far, whose front is that of the whole
pub record Goes (hd : Header) (lines : List FileLine) (most : ℕ) (states : List EntryState) (s : Survey) : Type 0 where
  pub shown : List Record
  pub front : front_of hd [] lines ≡ front_of hd shown (lines_of s.rest.now)
  pub tells : Tells shown states
  pub records : s.records ≡ length shown
  pub accesses : s.accesses ≡ accesses_of shown
  pub within : s.records + length s.rest.now ≤ most
  pub good : s.good ≡ false

pub front_on : (hd : Header) (h : List Record) (line : List ℕ) (ls : List FileLine) (r : Record) → shown_by h (line_of hd line) ≡ OfRecord r → front_of hd h (Some line ∷ ls) ≡ front_of hd (r ∷ h) ls
unfolding front_of
front_on hd h line ls r is = rw is refl

pub front_tail : (hd : Header) (h : List Record) (line : List ℕ) (ls : List FileLine) → shown_by h (line_of hd line) ≡ OfTail → front_of hd h (Some line ∷ ls) ≡ front_at h (Some line ∷ ls) true
unfolding front_of
front_tail hd h line ls is = rw is refl

pub front_outside : (hd : Header) (h : List Record) (line : List ℕ) (ls : List FileLine) → shown_by h (line_of hd line) ≡ Outside → front_of hd h (Some line ∷ ls) ≡ front_at h (Some line ∷ ls) false
unfolding front_of
front_outside hd h line ls is = rw is refl

-- behind the last whole line
pub front_last : (hd : Header) (h : List Record) (ls : List FileLine) (k : ℕ) → ls ≡ cond (eqb k 0) [] (None ∷ []) → front_of hd h ls ≡ front_at h ls (eqb k 0)
unfolding front_of
front_last hd h ls k is = by (eqb k 0) is where
  by : (b : Bool) → ls ≡ cond b [] (None ∷ []) → front_of hd h ls ≡ front_at h ls b
  by true is = rw is refl
  by false is = rw is refl

pub count_few : (o : Outcome) → count_in o ≤ 1
count_few (outcome.Access a) = omega arith
count_few (outcome.Polled pending entered turn) = omega arith
count_few outcome.NoAccess = omega arith
count_few (outcome.Filled bank line turn) = omega arith
count_few (outcome.Drained entry line turn) = omega arith
count_few (outcome.Taken line turn gone) = omega arith
count_few outcome.Done = omega arith

-- no more accesses than records
pub accesses_few : (h : List Record) → accesses_of h ≤ length h
accesses_few [] = omega arith
accesses_few (r ∷ h) = let few = accesses_few h in let one = count_few r.outcome in omega (arith, few, one)

-- a survey ends with a front
pub surveyed : (hd : Header) (lines : List FileLine) (most : ℕ) (states : List EntryState) (s : Survey) (g : Goes hd lines most states s) (rest : List FileLine) (good : Bool) (t : Survey)
    → front_of hd g.shown (lines_of s.rest.now) ≡ front_at g.shown rest good → t.records ≡ s.records → t.accesses ≡ s.accesses → lines_of t.rest.now ≡ rest → t.good ≡ good → IsSurvey (front_of hd [] lines) t
surveyed hd lines most states s g rest good t is records accesses rests goods =
    let whole : front_of hd [] lines ≡ front_at g.shown rest good = g.front ∙ is in
    rw whole (record { records = records ∙ g.records; accesses = accesses ∙ g.accesses; rest = rests; good = goods })

-- the fault of a tail that there is
pub fault_of_tail : (hd : Header) (lines : List FileLine) (s : Survey) (empty : Bool) (fault : Option ℕ) → IsSurvey (front_of hd [] lines) s → s.good ≡ true → empty ≡ false → empty ≡ eqb (length s.rest.now) 0
    → fault ≡ tail_fault hd (s.records + 2) (lines_of s.rest.now) → fault ≡ fault_behind hd (front_of hd [] lines)
fault_of_tail hd lines s empty fault seen good some tested is =
    let has = has_line s.rest.now empty some tested in
    let rest : (front_of hd [] lines).rest ≡ has.line ∷ has.more = sym seen.rest ∙ has.is in
    let goods : (front_of hd [] lines).good ≡ true = sym seen.good ∙ good in
    is ∙ rw (has.is, seen.records) (rw (goods, rest) refl)
