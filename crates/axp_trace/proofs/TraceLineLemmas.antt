-- What a line behind the first is.
use Rattle.std.proofs.Common.{◌≡◌, ◌≢◌, ℕ, ◌<◌, ◌≤◌, ◌↔◌, Bool, true, false, List, [], ◌∷◌, ◌++◌, length, codes, decimal, Option, Some, None, IsNone, IfSome, refl, sym, ap, ◌∙◌, arith, subst, append_assoc}
use Rattle.std.specs.List.{All}
use Rattle.std.proofs.lemmas.Fmt.{decimal_nonempty}
use Rattle.std.proofs.lemmas.List.Elements.{All-head}
use Rattle.axp_base.specs.Cpus.{cpu_number}
use Rattle.axp_access.specs.declared.Event.{Event}
use Rattle.axp_access.specs.declared.Outcome.{Outcome}
use Rattle.axp_access.specs.declared.Record.{Record}
use Rattle.axp_access.specs.declared.tail_items.TailItem.{TailItem}
use Rattle.axp_access.specs.declared.tail_items.TailItem.TheVariants.{Cpu as Ended, Reg, Mem, Console, End}
use Rattle.axp_trace.specs.Lines.{event_text, act_text, outcome_text, line_text, processor_line, register_line, memory_line, console_line, end_line, tail_line}
use Rattle.axp_trace.specs.Reading.{event_of}
use Rattle.axp_trace.specs.Records.{record_of, IsRecord}
use Rattle.axp_trace.specs.Tails.{tail_of, IsItem}
use Rattle.axp_trace.specs.TraceLines.{bare_by, tail_by, full_by, line_by, line_of, as_record, IsTailLine, SpellsLine}
use Rattle.axp_trace.specs.declared.headers.Header.{Header}
use Rattle.axp_trace.specs.declared.lines.TraceLine.{TraceLine}
use Rattle.axp_trace.specs.declared.lines.TraceLine.TheVariants.{Bare, Full, Tail}
use Rattle.axp_trace.proofs.ColonLemmas.{low_decimal}
use Rattle.axp_trace.proofs.LineLemmas.{small_cpu}
use Rattle.axp_trace.proofs.ReadBackLemmas.{event_is_text}
use Rattle.axp_trace.proofs.RecordLawLemmas.{record_is_text}
use Rattle.axp_trace.proofs.TailLawLemmas.{tail_is_text}

-- the first byte
abbrev first : List ℕ → ℕ
first [] = 0
first (x ∷ xs) = x

first_low : (xs ys : List ℕ) → All (λ d. d < 58) xs → 0 < length xs → first (xs ++ ys) < 58
first_low [] ys h some = absurd (omega arith)
first_low (x ∷ xs) ys h some = All-head (λ d. d < 58) x xs h

-- a record begins with a digit
record_first : (e : Event) (o : Outcome) → first (line_text e o) < 58
unfolding line_text event_text
record_first e o =
    let small = small_cpu e.cpu in
    let shown : line_text e o ≡ decimal (cpu_number e.cpu) ++ (32 ∷ act_text e.act ++ (codes " : " ++ outcome_text o)) =
    append_assoc (decimal (cpu_number e.cpu) ++ 32 ∷ act_text e.act) (codes " : ") (outcome_text o) ∙ append_assoc (decimal (cpu_number e.cpu)) (32 ∷ act_text e.act) (codes " : " ++ outcome_text o) in
    subst (λ t. first t < 58) (sym shown) (first_low (decimal (cpu_number e.cpu)) _ (low_decimal (cpu_number e.cpu)) (decimal_nonempty (cpu_number e.cpu) (omega arith)))

-- the tail's lines begin with a letter
tail_first : (i : TailItem) → 58 ≤ first (tail_line i)
unfolding processor_line register_line memory_line console_line end_line
tail_first (Ended cpu halt steps pc) = omega arith
tail_first (Reg cpu n value) = omega arith
tail_first (Mem address value) = omega arith
tail_first (Console bytes) = omega arith
tail_first (End events) = omega arith

pub apart : (e : Event) (o : Outcome) (i : TailItem) → line_text e o ≢ tail_line i
apart e o i same =
    let low = record_first e o in
    let high = tail_first i in
    let is : first (line_text e o) ≡ first (tail_line i) = ap first same in
    omega arith

bare_is : (o : Option Event) (e : Event) → (bare_by o ≡ Some (Bare e)) ↔ (o ≡ Some e)
bare_is None e = (λ h. cc, λ h. cc)
bare_is (Some g) e = (λ h. cc, λ h. cc)

bare_only : (o : Option Event) (l : TraceLine) → bare_by o ≡ Some l → (e : Event) × (l ≡ Bare e)
bare_only None l h = cc
bare_only (Some g) l h = (g, cc)

full_is : (r : Option Record) (t : Option TailItem) (e : Event) (o : Outcome) → (full_by r t ≡ Some (Full e o)) ↔ (r ≡ Some (as_record e o))
full_is None None e o = (λ h. cc, λ h. cc)
full_is None (Some i) e o = (λ h. cc, λ h. cc)
full_is (Some r) t e o = (λ h. let a : r.event ≡ e = cc in let b : r.outcome ≡ o = cc in rw (← a, ← b) refl, λ h. ap (λ r. full_by r t) h)

full_not_bare : (r : Option Record) (t : Option TailItem) (e : Event) → full_by r t ≡ Some (Bare e) → ⊥
full_not_bare None None e h = cc
full_not_bare None (Some i) e h = cc
full_not_bare (Some r) t e h = cc

tail_is : (cpus : ℕ) (line : List ℕ) (r : Option Record) (t : Option TailItem) → tail_of cpus line ≡ t → full_by r t ≡ Some Tail → IsTailLine cpus line
tail_is cpus line None None is h = cc
tail_is cpus line None (Some i) is h = let it = (tail_is_text cpus line i).0 is in (i, it)
tail_is cpus line (Some r) t is h = cc

tail_not_record : (cpus : ℕ) (line : List ℕ) (i : TailItem) → line ≡ tail_line i → record_of cpus line ≡ None
tail_not_record cpus line i is = by (record_of cpus line) refl
  where
    by : (r : Option Record) → record_of cpus line ≡ r → r ≡ None
    by None h = refl
    by (Some r) h = let told = (record_is_text cpus line r).0 h in absurd (apart r.event r.outcome i (sym told.0 ∙ is))

pub line_is_spelled : (full : Bool) (cpus : ℕ) (line : List ℕ) (l : TraceLine) → (line_by full cpus line ≡ Some l) ↔ SpellsLine full cpus line l
line_is_spelled false cpus line (Bare e) = (
  λ h. (refl, (event_is_text cpus line e).0 ((bare_is (event_of cpus line) e).0 h)),
  λ h. (bare_is (event_of cpus line) e).1 ((event_is_text cpus line e).1 h.1),
)
line_is_spelled false cpus line (Full e o) = (λ h. let other = bare_only (event_of cpus line) (Full e o) h in cc, λ h. let no = h.0 in cc)
line_is_spelled false cpus line Tail = (λ h. let other = bare_only (event_of cpus line) Tail h in cc, λ h. let no = h.0 in cc)
line_is_spelled true cpus line (Bare e) = (λ h. absurd (full_not_bare (record_of cpus line) (tail_of cpus line) e h), λ h. let no = h.0 in cc)
line_is_spelled true cpus line (Full e o) = (
  λ h. (refl, (record_is_text cpus line (as_record e o)).0 ((full_is (record_of cpus line) (tail_of cpus line) e o).0 h)),
  λ h. (full_is (record_of cpus line) (tail_of cpus line) e o).1 ((record_is_text cpus line (as_record e o)).1 h.1),
)
line_is_spelled true cpus line Tail = (
  λ h. (refl, tail_is cpus line (record_of cpus line) (tail_of cpus line) refl h),
  λ h. ap (λ r. full_by r (tail_of cpus line)) (tail_not_record cpus line h.1.0 h.1.1.0) ∙ ap tail_by ((tail_is_text cpus line h.1.0).1 h.1.1),
)

-- what is meant is spelled
pub some_is_spelled : (o : Option TraceLine) (P : TraceLine → Type 0) → ((l : TraceLine) → (o ≡ Some l) ↔ P l) → IfSome o P
some_is_spelled None P each = tt
some_is_spelled (Some l) P each = (each l).0 refl

-- no line is meant exactly where none is spelled
pub none_is_spelled : (o : Option TraceLine) (P : TraceLine → Type 0) → ((l : TraceLine) → (o ≡ Some l) ↔ P l) → IsNone o ↔ ((l : TraceLine) → P l → ⊥)
none_is_spelled None P each = (λ none l h. let other = (each l).1 h in cc, λ h. refl)
none_is_spelled (Some l) P each = (λ none. cc, λ h. absurd (h l ((each l).0 refl)))

-- ---- under a header

pub read_is_spelled : (h : Header) (line : List ℕ) (r : Option TraceLine) → r ≡ line_of h line → (l : TraceLine) → (r ≡ Some l) ↔ SpellsLine h.full h.cpus line l
unfolding line_of
read_is_spelled h line r is l = (
  λ e. (line_is_spelled h.full h.cpus line l).0 (sym is ∙ e),
  λ s. is ∙ (line_is_spelled h.full h.cpus line l).1 s,
)

pub record_read_back : (h : Header) (e : Event) (o : Outcome) → h.full ≡ true → IsRecord h.cpus (as_record e o) → line_of h (line_text e o) ≡ Some (Full e o)
unfolding line_of
record_read_back h e o full is = (line_is_spelled h.full h.cpus (line_text e o) (Full e o)).1 (full, (refl, is))

pub tail_read_back : (h : Header) (i : TailItem) → h.full ≡ true → IsItem h.cpus i → line_of h (tail_line i) ≡ Some Tail
unfolding line_of
tail_read_back h i full is = (line_is_spelled h.full h.cpus (tail_line i) Tail).1 (full, (i, (refl, is)))

pub written_again : (h : Header) (line : List ℕ) (e : Event) (o : Outcome) → line_of h line ≡ Some (Full e o) → line_text e o ≡ line
unfolding line_of
written_again h line e o is = sym ((line_is_spelled h.full h.cpus line (Full e o)).0 is).1.0
