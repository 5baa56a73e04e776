-- What is kept along a run: what each record shows of itself without the instruction table, what is known
-- of each access for good, and what holds of each two accesses.
use Rattle.std.specs.Prelude.{◌≡◌, ℕ, ◌+◌, ◌<◌, ◌≤◌, ◌==◌, Bool, true, false, ◌&&◌, ◌||◌, if◌then◌else◌, List, [], ◌∷◌, length, slice_get, Option, Some, None}
use Rattle.std.specs.List.{AllByRecursion}
use Rattle.axp_base.specs.Cpus.{cpu_number}
use Rattle.axp_base.specs.Lines.{line_number, data_bank, line_of, is_line}
use Rattle.axp_base.specs.declared.lines.Line.{Line}
use Rattle.axp_base.specs.Blocks.{is_allowed}
use Rattle.axp_regs.specs.declared.asks.Kind.{Kind}
use Rattle.axp_regs.specs.declared.asks.Kind.TheVariants as kind
use Rattle.axp_access.specs.declared.Outcome.{Outcome}
use Rattle.axp_access.specs.declared.Outcome.TheVariants as outcome
use Rattle.axp_access.specs.declared.Place.{Place}
use Rattle.axp_access.specs.declared.Place.TheVariants.{At, Entry, Absent}
use Rattle.axp_access.specs.declared.Record.{Record}
use Rattle.axp_access.specs.Kinds.{is_success}
use Rattle.axp_model.specs.Turns.{turns, stamp, code_stamp, read_place, barrier, code_barrier, drained}
use Rattle.axp_model.specs.Entries.{Waiting, Buffer, has_number, buffer, oldest, has_closed, has_line, entry_for}
use Rattle.axp_model.specs.Accesses.{accesses, times}
use Rattle.axp_access.specs.Numbering.{NumberedAccess, cpu_of, write_barriers_in}
use Rattle.axp_access.specs.Order.{Times, before}
use Rattle.axp_model.specs.Issue.{issue_demands, barrier_demands, AllPairs}
use Rattle.axp_model.specs.Locks.{lock, is_signalled}
use Rattle.axp_model.specs.Late.{late, held, code_held}
use Rattle.axp_model.specs.Processors.{IsInLine}

-- what an access of processor p has after h, by its kind
abbrev pub Fits : Kind → ℕ → ℕ → Bool → Place → List Record → Type 0
Fits kind.Fetch p l ok at h = (at ≡ At (code_stamp p l h)) × (code_held p l h ≡ true)
Fits kind.Read p l ok at h = (at ≡ At (read_place p l h)) × (held p l h ≡ true)
Fits kind.Locked p l ok at h = (at ≡ At (turns h)) × (has_line l (buffer p h).waiting ≡ false)
Fits kind.Write p l ok at h = at ≡ Entry (entry_for l (buffer p h))
Fits kind.Conditional p l ok at h = (at ≡ At (if ok then turns h + 1 else turns h)) × (has_line l (buffer p h).waiting ≡ false) × (has_closed (buffer p h).age (buffer p h).waiting ≡ false)
Fits kind.Barrier p l ok at h = (at ≡ At (turns h)) × ((buffer p h).waiting ≡ [])
Fits kind.CodeBarrier p l ok at h = (at ≡ At (turns h)) × ((buffer p h).waiting ≡ [])
Fits kind.WriteBarrier p l ok at h = at ≡ Absent
Fits kind.Signal p l ok at h = (at ≡ At (turns h + 1)) × (has_closed (buffer p h).age (buffer p h).waiting ≡ false)
Fits kind.Console p l ok at h = at ≡ At (turns h)
Fits kind.Poll p l ok at h = at ≡ At (turns h)

-- entry n, of line l, is of the oldest group
abbrev pub Named : ℕ → ℕ → List Waiting → Type 0
Named n l es = (k : ℕ) × (e : Waiting) × (slice_get (oldest es) k ≡ Some e) × (e.number ≡ n) × (line_number e.line ≡ l)

-- the first late pair of its bank is this line's and turn's
abbrev pub IsFirstLate : ℕ → Line → ℕ → List Record → Type 0
IsFirstLate p line turn h = (pairs : List (Line × ℕ)) × (late p (data_bank (line_number line)) h ≡ (line, turn) ∷ pairs)

-- what a legal outcome of processor p shows after h
abbrev pub FitsOutcome : ℕ → Outcome → List Record → Type 0
FitsOutcome p (outcome.Access a) h =
    (cpu_number a.cpu ≡ p) × IsInLine a.address a.size × Fits a.kind p (line_of a.address) a.yes a.place h
    × (is_success a ≡ true → is_allowed a.address (lock p h) ≡ true)
FitsOutcome p (outcome.Drained n line turn) h = (turn ≡ turns h + 1) × Named n (line_number line) (buffer p h).waiting
FitsOutcome p (outcome.Taken line turn gone) h = IsFirstLate p line turn h
FitsOutcome p (outcome.Polled pending entered turn) h = (turn ≡ turns h) × (pending ≡ is_signalled p h)
FitsOutcome p _ h = Unit {0}

abbrev pub Fitting : List Record → Type 0
Fitting [] = Unit {0}
Fitting (r ∷ h) = FitsOutcome (cpu_number r.event.cpu) r.outcome h × Fitting h

-- a place given as a number, no more than n
abbrev pub AtMost : ℕ → Place → Type 0
AtMost n (At t) = t ≤ n
AtMost n (Entry m) = ⊥
AtMost n Absent = ⊥

abbrev pub waits : ℕ → ℕ → ℕ → List Waiting → Bool
waits n l g [] = false
waits n l g (e ∷ es) = ((e.number == n) && (is_line l e.line && (e.age == g))) || waits n l g es

-- entry n, of line l and age g, is drained or waits
abbrev pub Goes : ℕ → ℕ → ℕ → Place → List Record → Type 0
Goes p l g (Entry n) h = drained h p n ≡ None → waits n l g (buffer p h).waiting ≡ true
Goes p l g (At t) h = ⊥
Goes p l g Absent h = ⊥

-- what is known for good of an access of processor p
abbrev pub Known : Kind → ℕ → ℕ → ℕ → Place → List Record → Type 0
Known kind.Fetch p l g at h = AtMost (code_stamp p l h) at
Known kind.Read p l g at h = AtMost (read_place p l h) at
Known kind.Locked p l g at h = AtMost (stamp p l h) at
Known kind.Write p l g at h = Goes p l g at h
Known kind.Conditional p l g at h = AtMost (turns h) at
Known kind.Barrier p l g at h = AtMost (barrier p h) at
Known kind.CodeBarrier p l g at h = AtMost (barrier p h) at × AtMost (code_barrier p h) at
Known kind.WriteBarrier p l g at h = at ≡ Absent
Known kind.Signal p l g at h = AtMost (turns h) at
Known kind.Console p l g at h = AtMost (turns h) at
Known kind.Poll p l g at h = AtMost (turns h) at

pub record KnownItem (h : List Record) (u : NumberedAccess) : Type 0 where
  pub number : u.number ≤ length (accesses h)
  pub parts : u.parts ≤ (buffer (cpu_of u) h).age
  pub inside : IsInLine u.access.address u.access.size
  pub known : Known u.access.kind (cpu_of u) (line_of u.access.address) u.parts u.access.place h

-- what holds of the entries of a processor
pub record SoundBuffer (b : Buffer) (turn : ℕ → Option ℕ) : Type 0 where
  pub waiting : (n : ℕ) → has_number n b.waiting ≡ true → (turn n ≡ None) × (n ≤ b.made)
  pub above : (n : ℕ) → b.made < n → turn n ≡ None
  pub single : (n l g k f : ℕ) → waits n l g b.waiting ≡ true → waits n k f b.waiting ≡ true → (l ≡ k) × (g ≡ f)
  pub unique : (m n l g : ℕ) → waits m l g b.waiting ≡ true → waits n l g b.waiting ≡ true → m ≡ n

pub record PairOk (t : Times) (u v : NumberedAccess) : Type 0 where
  pub first : u.number < v.number
  pub parts : cpu_of u ≡ cpu_of v → u.parts ≤ v.parts
  pub issue : issue_demands u v ≡ true → before t u v ≡ true
  pub barrier : barrier_demands u v ≡ true → before t u v ≡ true

-- what every history of records that fit keeps
pub record RunFacts (h : List Record) : Type 0 where
  pub sound : (p : ℕ) → SoundBuffer (buffer p h) (drained h p)
  pub age : (p : ℕ) → write_barriers_in p (accesses h) ≡ (buffer p h).age
  pub items : AllByRecursion (KnownItem h) (accesses h)
  pub pairs : AllPairs (PairOk (times h)) (accesses h)
