-- From line to line through the events of a trace, into a list.
use Rattle.std.proofs.Common.{◌≡◌, ℕ, ◌+◌, ◌≤◌, Bool, true, false, cond, eqb, List, [], ◌∷◌, length, Option, Some, None, refl, sym, ap, ◌∙◌, subst, arith, ⊎_elim}
use Rattle.std.specs.List.{AllByRecursion}
use Rattle.std.proofs.lemmas.Bool.{cases_Bool, false≢true}
use Rattle.axp_base.specs.Cpus.{cpu_number}
use Rattle.axp_access.specs.declared.Record.{Record}
use Rattle.axp_access.specs.Lists.{Accesses}
use Rattle.axp_trace.specs.declared.headers.Header.{Header}
use Rattle.axp_trace.specs.declared.lines.TraceLine.{TraceLine}
use Rattle.axp_trace.specs.declared.lines.TraceLine.TheVariants.{Bare, Full, Tail}
use Rattle.axp_trace.specs.TraceLines.{line_of}
use Rattle.axp_history.specs.Shown.{IsShown, IsSpelledRecord, list_of, record_by}
use Rattle.axp_history.specs.Surveys.{accesses_of, count_in}
use Rattle.axp_history.proofs.ShownLemmas.{count_is, room_is}
use Rattle.axp_history.specs.Entries.{names_well}
use Rattle.axp_history.specs.Traces.{FileLine, LineShown, OfRecord, OfTail, Outside, by_shown, fault_behind, front_at, front_of, lines_shown, shown_by}

-- the records so far, whose front is that of the whole, and the list that they show
pub record Collects (hd : Header) (lines : List FileLine) (start now : Accesses) (rest : List FileLine) : Type 0 where
  pub shown : List Record
  pub front : front_of hd [] lines ≡ front_of hd shown rest
  pub list : now ≡ list_of start.room shown
  pub spelled : AllByRecursion IsSpelledRecord shown

-- behind a line that shows no record the records are those before it
pub ends_front : (hd : Header) (h : List Record) (line : List ℕ) (ls : List FileLine) → record_by (line_of hd line) ≡ None → (front_of hd h (Some line ∷ ls)).records ≡ h
unfolding front_of
ends_front hd h line ls none = by (line_of hd line) none where
  by : (o : Option TraceLine) → record_by o ≡ None
      → (by_shown (shown_by h o) (λ r. front_of hd (r ∷ h) ls) (front_at h (Some line ∷ ls) true) (front_at h (Some line ∷ ls) false)).records ≡ h
  by None e = refl
  by (Some (Bare e)) none = refl
  by (Some (Full e o)) none = absurd cc
  by (Some Tail) none = refl

-- a line that shows a record, of a front that is good
pub record NamesWell (hd : Header) (h : List Record) (line : List ℕ) (ls : List FileLine) (r : Record) : Type 0 where
  pub well : names_well (cpu_number r.event.cpu) r.outcome h ≡ true
  pub on : front_of hd h (Some line ∷ ls) ≡ front_of hd (r ∷ h) ls

pub names_it_well : (hd : Header) (h : List Record) (line : List ℕ) (ls : List FileLine) (r : Record) → record_by (line_of hd line) ≡ Some r → (front_of hd h (Some line ∷ ls)).good ≡ true → NamesWell hd h line ls r
unfolding front_of
names_it_well hd h line ls r shown good = by (line_of hd line) refl shown where
  by : (o : Option TraceLine) → line_of hd line ≡ o → record_by o ≡ Some r → NamesWell hd h line ls r
  by None is e = absurd cc
  by (Some (Bare e)) is none = absurd cc
  by (Some Tail) is none = absurd cc
  by (Some (Full e o)) is same =
      let one : record { event = e; outcome = o } ≡ r = cc in
      subst (NamesWell hd h line ls) one (⊎_elim
      (λ (well : names_well (cpu_number e.cpu) o h ≡ true). record { well = well; on = rw (is, well) refl })
      (λ (not_ : names_well (cpu_number e.cpu) o h ≡ false). absurd (false≢true (rw (is, not_) at good)))
      (cases_Bool (names_well (cpu_number e.cpu) o h)))

-- a front has the accesses of the records before it
pub front_grows : (hd : Header) (h : List Record) (ls : List FileLine) → accesses_of h ≤ accesses_of (front_of hd h ls).records
unfolding front_of
front_grows hd h [] = omega arith
front_grows hd h (None ∷ ls) = omega arith
front_grows hd h (Some line ∷ ls) = by (shown_by h (line_of hd line)) (λ r. front_grows hd (r ∷ h) ls) where
  by : (s : LineShown) → ((r : Record) → accesses_of (r ∷ h) ≤ accesses_of (front_of hd (r ∷ h) ls).records) → accesses_of h ≤ accesses_of (by_shown s (λ r. front_of hd (r ∷ h) ls) (front_at h (Some line ∷ ls) true) (front_at h (Some line ∷ ls) false)).records
  by (OfRecord r) grows = let rest = grows r in omega (arith, rest)
  by OfTail grows = omega arith
  by Outside grows = omega arith

-- behind the last whole line
pub last_front : (hd : Header) (h : List Record) (ls : List FileLine) (k : ℕ) → ls ≡ cond (eqb k 0) [] (None ∷ []) → (front_of hd h ls).records ≡ h
unfolding front_of
last_front hd h ls k is = by (eqb k 0) is where
  by : (b : Bool) → ls ≡ cond b [] (None ∷ []) → (front_of hd h ls).records ≡ h
  by true is = rw is refl
  by false is = rw is refl

-- there is room for the accesses of one record more of the front
pub has_room : (hd : Header) (h : List Record) (ls : List FileLine) (r : Record) (room : ℕ) → accesses_of (front_of hd (r ∷ h) ls).records ≤ room → length (list_of room h).items + count_in r.outcome ≤ room
has_room hd h ls r room most = let grows = front_grows hd (r ∷ h) ls in let count = count_is room h in omega (arith, grows, count, most)

-- so it is at a line of a whole whose front is good
pub well_at : (hd : Header) (lines : List FileLine) (h : List Record) (rest : List FileLine) (line : List ℕ) (ls : List FileLine) (r : Record) → front_of hd [] lines ≡ front_of hd h rest → rest ≡ Some line ∷ ls
    → (front_of hd [] lines).good ≡ true → record_by (line_of hd line) ≡ Some r → NamesWell hd h line ls r
well_at hd lines h rest line ls r front is good shown = names_it_well hd h line ls r shown (subst (λ f. f.good ≡ true) (front ∙ ap (front_of hd h) is) good)

-- the list of the records so far is that of the whole, where these are all
pub front_is : (hd : Header) (lines : List FileLine) (h : List Record) (rest : List FileLine) (list : Accesses) (room : ℕ) → front_of hd [] lines ≡ front_of hd h rest → list ≡ list_of room h → (front_of hd h rest).records ≡ h → list ≡ list_of room (front_of hd [] lines).records
front_is hd lines h rest list room front is all = is ∙ ap (list_of room) (sym (ap (λ f. f.records) front ∙ all))

-- the list of a trace
pub shown_list : (hd : Header) (ls : List FileLine) (list : Accesses) (room : ℕ) → fault_behind hd (front_of hd [] ls) ≡ None → list ≡ list_of room (front_of hd [] ls).records → IsShown (lines_shown hd ls) list
shown_list hd ls list room none is =
    let same : list.room ≡ room = ap (λ l. l.room) is ∙ room_is room (front_of hd [] ls).records in
    rw none (is ∙ ap (λ n. list_of n (front_of hd [] ls).records) (sym same))
