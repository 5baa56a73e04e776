-- The entries of a processor's write buffer that no drain has named yet.
use Rattle.std.specs.Prelude.{ℕ, ◌+◌, ◌==◌, nat_lt, min, Bool, false, ◌&&◌, ◌||◌, if◌then◌else◌, List, [], ◌∷◌, ◌++◌, Option, Some, None}
use Rattle.std.specs.List.{filter}
use Rattle.axp_base.specs.declared.lines.Line.{Line}
use Rattle.axp_access.specs.declared.Outcome.{Outcome}
use Rattle.axp_access.specs.declared.Outcome.TheVariants as outcome
use Rattle.axp_access.specs.declared.Record.{Record}
use Rattle.axp_model.specs.Records.{is_of, makes_access}
use Rattle.axp_access.specs.Kinds.{is_plain_write, is_write_barrier}
use Rattle.axp_base.specs.Lines.{line_of, line_at, is_line}

-- an entry: its number, 1 for the processor's first, its line, and its age: how many WMBs the processor
-- had made before it
pub record Waiting : Type 0 where
  pub number : ℕ
  pub line : Line
  pub age : ℕ

-- a processor's entries: how many were ever made, how many WMBs it made, and those that wait, by number
pub record Buffer : Type 0 where
  pub made : ℕ
  pub age : ℕ
  pub waiting : List Waiting

-- the number of the entry that a write of the line joins: one of the same line, with no WMB since it
-- was made
abbrev pub entry_joined : ℕ → ℕ → List Waiting → Option ℕ
entry_joined l age [] = None
entry_joined l age (e ∷ es) = if is_line l e.line && (e.age == age) then Some e.number else entry_joined l age es

-- the entry that a plain write of the line goes into
abbrev pub entry_or : Option ℕ → ℕ → ℕ
entry_or (Some m) n = m
entry_or None n = n

abbrev pub entry_for : ℕ → Buffer → ℕ
entry_for l b = entry_or (entry_joined l b.age b.waiting) (b.made + 1)

-- the entries after a write that joins one, or makes the next
abbrev pub entries_after_write : Option ℕ → Waiting → List Waiting → List Waiting
entries_after_write (Some m) e es = es
entries_after_write None e es = es ++ e ∷ []

abbrev pub one_if_none : Option ℕ → ℕ
one_if_none None = 1
one_if_none (Some m) = 0

abbrev pub without_entry : ℕ → List Waiting → List Waiting
without_entry n [] = []
without_entry n (e ∷ es) = if e.number == n then without_entry n es else e ∷ without_entry n es

-- what an outcome of the processor leaves waiting
abbrev pub waiting_after : Outcome → Buffer → List Waiting
waiting_after (outcome.Access a) b =
    if is_plain_write a.kind
    then entries_after_write (entry_joined (line_of a.address) b.age b.waiting) (record { number = b.made + 1; line = line_at a.address; age = b.age }) b.waiting
    else b.waiting
waiting_after (outcome.Drained entry line turn) b = without_entry entry b.waiting
waiting_after _ b = b.waiting

abbrev pub made_after : Outcome → Buffer → ℕ
made_after (outcome.Access a) b = if is_plain_write a.kind then b.made + one_if_none (entry_joined (line_of a.address) b.age b.waiting) else b.made
made_after _ b = b.made

abbrev pub age_after : Outcome → Buffer → ℕ
age_after o b = if makes_access (λ a. is_write_barrier a.kind) o then b.age + 1 else b.age

abbrev pub buffer_after : Outcome → Buffer → Buffer
buffer_after o b = record { made = made_after o b; age = age_after o b; waiting = waiting_after o b }

-- processor p's entries
abbrev pub buffer : ℕ → List Record → Buffer
buffer p [] = record { made = 0; age = 0; waiting = [] }
buffer p (r ∷ h) = if is_of p r then buffer_after r.outcome (buffer p h) else buffer p h

-- the oldest group: the entries of the least age, by number
abbrev pub of_age : ℕ → List Waiting → List Waiting
of_age age es = filter (λ e. e.age == age) es

abbrev pub least_age : List Waiting → ℕ
least_age [] = 0
least_age (e ∷ []) = e.age
least_age (e ∷ f ∷ es) = min e.age (least_age (f ∷ es))

abbrev pub oldest : List Waiting → List Waiting
oldest es = of_age (least_age es) es

-- some entry is of a closed group: a WMB came after it was made
abbrev pub has_closed : ℕ → List Waiting → Bool
has_closed age [] = false
has_closed age (e ∷ es) = nat_lt e.age age || has_closed age es

-- some entry is of this line, has this number
abbrev pub has_line : ℕ → List Waiting → Bool
has_line l [] = false
has_line l (e ∷ es) = is_line l e.line || has_line l es

abbrev pub has_number : ℕ → List Waiting → Bool
has_number n [] = false
has_number n (e ∷ es) = (e.number == n) || has_number n es
