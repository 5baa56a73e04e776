-- What late pairs and copies keep along a run.
use Rattle.std.specs.Prelude.{◌≡◌, ℕ, ◌+◌, ◌==◌, ◌<◌, ◌≤◌, Bool, true, false, List, [], ◌∷◌, ◌++◌, length, drop, Some}
use Rattle.std.specs.List.{AllByRecursion, list_any}
use Rattle.axp_base.specs.Lines.{line_number, data_bank, in_bank}
use Rattle.axp_base.specs.declared.lines.Bank.{Bank}
use Rattle.axp_base.specs.declared.lines.Line.{Line}
use Rattle.axp_base.specs.LatePairs.{AreAscending, has_later}
use Rattle.axp_access.specs.declared.Record.{Record}
use Rattle.axp_model.specs.Records.{is_of, line_of_turn, fences}
use Rattle.axp_model.specs.Turns.{turns, stamp}
use Rattle.axp_model.specs.Late.{late, held}
use Rattle.axp_laws.specs.Counts.{last_other, others_since, takes_since}

-- a copy of the line that is older than a turn of another processor on it has something late that
-- reaches it
abbrev pub IsReached : ℕ → ℕ → List Record → Type 0
IsReached p l h = held p l h ≡ true → stamp p l h < last_other p l h → has_later l (stamp p l h) (late p (data_bank l) h) ≡ true

-- the newest record is an MB or IMB of processor p
pub record HasJustFenced (p : ℕ) (r : Record) : Type 0 where
  pub own : is_of p r ≡ true
  pub fence : fences r.outcome ≡ true

-- the late pairs are the turns of other processors since the last MB or IMB, without as many of the
-- first as were taken since then
pub record IsCounted (p : ℕ) (b : Bank) (h : List Record) : Type 0 where
  pub rest : late p b h ≡ drop (takes_since p b h) (others_since p b h)
  pub within : takes_since p b h ≤ length (others_since p b h)

-- the turn was made by another processor than p, on the line: it is the next after the turns before its
-- record
pub record IsOthersTurn (p : ℕ) (line : Line) (turn : ℕ) (h : List Record) : Type 0 where
  -- the records since it, its own, and those before it
  pub since : List Record
  pub making : Record
  pub before : List Record
  pub split : h ≡ since ++ making ∷ before
  pub other : is_of p making ≡ false
  pub on : line_of_turn making.outcome ≡ Some line
  pub count : turn ≡ turns before + 1

-- the late pairs of data bank b are such turns on lines of the bank, none of them above the turn count,
-- each less than those behind it
pub record AreTurns (p : ℕ) (b : Bank) (h : List Record) : Type 0 where
  pub banked : AllByRecursion (λ pair. in_bank b (line_number pair.0) ≡ true) (late p b h)
  pub made : AllByRecursion (λ pair. IsOthersTurn p pair.0 pair.1 h) (late p b h)
  pub bounded : AllByRecursion (λ pair. pair.1 ≤ turns h) (late p b h)
  pub ascending : AreAscending (late p b h)

-- a number is one of a list
abbrev pub is_among : ℕ → List ℕ → Bool
is_among l ks = list_any (λ k. k == l) ks

-- each number is less than all that stand behind it
abbrev pub IsAscending : List ℕ → Type 0
IsAscending [] = Unit {0}
IsAscending (k ∷ ks) = AllByRecursion (λ n. k < n) ks × IsAscending ks

-- exactly the numbers that pass a test are listed, in ascending order, each once
pub record ListsExactly (test : ℕ → Bool) (ks : List ℕ) : Type 0 where
  pub members : (l : ℕ) → is_among l ks ≡ test l
  pub ascending : IsAscending ks
