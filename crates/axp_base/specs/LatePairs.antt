-- Invalidations that come late, oldest first. Each is a pair: the line, and the number of the turn that
-- wrote it.
use Rattle.std.specs.Prelude.{◌≡◌, ℕ, ◌<◌, Bool, ◌==◌, ◌&&◌, nat_lt, List, [], ◌∷◌, Option, Some, None, slice_get, if◌then◌else◌, ◌++◌}
use Rattle.std.specs.List.{list_any}
use Rattle.axp_base.specs.Lines.{line_number, in_bank}
use Rattle.axp_base.specs.declared.lines.Line.{Line}
use Rattle.axp_base.specs.declared.lines.Bank.{Bank}

-- every turn is less than this one
abbrev pub AreBefore : ℕ → List (Line × ℕ) → Type 0
AreBefore turn [] = Unit {0}
AreBefore turn (p ∷ pairs) = (p.1 < turn) × AreBefore turn pairs

-- every turn is greater than this one
abbrev pub AreBeyond : ℕ → List (Line × ℕ) → Type 0
AreBeyond turn [] = Unit {0}
AreBeyond turn (p ∷ pairs) = (turn < p.1) × AreBeyond turn pairs

-- every turn is less than all that stand behind it
abbrev pub AreAscending : List (Line × ℕ) → Type 0
AreAscending [] = Unit {0}
AreAscending (p ∷ pairs) = AreBeyond p.1 pairs × AreAscending pairs

-- the pairs but for the oldest
abbrev pub others : List (Line × ℕ) → List (Line × ℕ)
others [] = []
others (p ∷ pairs) = pairs

-- a pair is of this line, and its turn is greater than the stamp
abbrev pub is_later : ℕ → ℕ → Line × ℕ → Bool
is_later line stamp p = (line_number p.0 == line) && nat_lt stamp p.1

-- some pair is
abbrev pub has_later : ℕ → ℕ → List (Line × ℕ) → Bool
has_later line stamp pairs = list_any (is_later line stamp) pairs

-- some pair of the line has a turn greater than the stamp
pub record Later (line stamp : ℕ) (pairs : List (Line × ℕ)) : Type 0 where
  pub place : ℕ
  pub pair : Line × ℕ
  pub kept : slice_get pairs place ≡ Some pair
  pub same : line_number pair.0 ≡ line
  pub greater : stamp < pair.1

-- another's turn on a line of the bank is late
abbrev pub late_by_other : Bank → Option Line → ℕ → List (Line × ℕ) → List (Line × ℕ)
late_by_other b None turn pairs = pairs
late_by_other b (Some line) turn pairs = if in_bank b (line_number line) then pairs ++ (line, turn) ∷ [] else pairs
