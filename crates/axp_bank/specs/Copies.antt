-- The copies of a bank: a list in ascending order of lines.
use Rattle.std.specs.Prelude.{ℕ, ◌/◌, ◌%◌, ◌<◌, ◌≤◌, ◌==◌, ◌||◌, nat_lt, Bool, false, not, if◌then◌else◌, List, [], ◌∷◌, map, length, Some, None, ⊤}
use Rattle.std.specs.Option.{option_map}
use Rattle.std.specs.declared.option.Option.{Option}
use Rattle.std.specs.List.{find, filter, list_any, AllByRecursion}
use Rattle.axp_base.specs.Lines.{line_number}
use Rattle.axp_base.specs.declared.lines.Line.{Line}
use Rattle.axp_line.specs.declared.contents.LineData.{LineData}
use Rattle.axp_bank.specs.declared.copies.LineCopy.{LineCopy}
use Rattle.axp_base.specs.declared.limits.TheConstants.{BANK_COPIES}

-- the copy of this line with this stamp and these data
abbrev pub copy_of : Line → ℕ → LineData → LineCopy
copy_of l s b = record { line = l; stamp = s; bytes = b }

-- the number of a copy's line, and whether it is this one
abbrev pub line_of : LineCopy → ℕ
line_of c = line_number c.line

abbrev pub is_of : ℕ → LineCopy → Bool
is_of n c = line_of c == n

-- each copy is of a line of a greater number
abbrev pub Above : ℕ → List LineCopy → Type 0
Above n cs = AllByRecursion (λ c. n < line_of c) cs

-- the lines ascend, so that no two copies are of one line
unfoldable pub Ascending : List LineCopy → Type 0
Ascending [] = ⊤
Ascending (c ∷ cs) = Above (line_of c) cs × Ascending cs

-- what a bank's copies are: in ascending order, and no more than fit
pub record Whole (cs : List LineCopy) : Type 0 where
  pub up : Ascending cs
  pub few : length cs ≤ BANK_COPIES

-- some copy is of this line
unfoldable pub is_held : ℕ → List LineCopy → Bool
is_held n cs = list_any (is_of n) cs

-- what a copy shows: its stamp and its data
abbrev pub shown : LineCopy → ℕ × LineData
shown c = (c.stamp, c.bytes)

-- what the copy of this line shows, if there is one
unfoldable pub get_of : ℕ → List LineCopy → Option (ℕ × LineData)
get_of n cs = option_map shown (find (is_of n) cs)

-- the copy of this line is held, or one more fits
abbrev pub has_room : ℕ → List LineCopy → Bool
has_room n cs = is_held n cs || nat_lt (length cs) BANK_COPIES

-- with this copy in place of the one of its line, where there is one
unfoldable pub refreshed : LineCopy → List LineCopy → List LineCopy
refreshed c cs = map (λ d. if is_of (line_of c) d then c else d) cs

-- with this copy in front of those of greater lines
unfoldable pub inserted : LineCopy → List LineCopy → List LineCopy
inserted c [] = c ∷ []
inserted c (d ∷ ds) = if nat_lt (line_of c) (line_of d) then c ∷ d ∷ ds else d ∷ inserted c ds

-- with this copy, in place of the one of its line or beside the others; as it was where there is no room
unfoldable pub put : LineCopy → List LineCopy → List LineCopy
put c cs = if is_held (line_of c) cs then refreshed c cs else (if nat_lt (length cs) BANK_COPIES then inserted c cs else cs)

-- without the copy of this line
unfoldable pub dropped : ℕ → List LineCopy → List LineCopy
dropped n cs = filter (λ c. not (is_of n c)) cs

-- there is a copy, and its stamp is less than the turn
abbrev pub is_older : ℕ → Option (ℕ × LineData) → Bool
is_older turn None = false
is_older turn (Some c) = nat_lt c.0 turn

-- the copy of this line is held, and older than the turn
abbrev pub has_older : ℕ → ℕ → List LineCopy → Bool
has_older n turn cs = is_older turn (get_of n cs)

-- without the copy of this line, where that is older than the turn
unfoldable pub invalidated : ℕ → ℕ → List LineCopy → List LineCopy
invalidated n turn cs = if has_older n turn cs then dropped n cs else cs

-- without the copies whose bit is 1, the lowest bit for the first copy
unfoldable pub spared : ℕ → List LineCopy → List LineCopy
spared gone [] = []
spared gone (c ∷ cs) = if gone % 2 == 1 then spared (gone / 2) cs else c ∷ spared (gone / 2) cs

-- the lines that are held, each with its copy's stamp, in the order of the copies
abbrev pub held_lines : List LineCopy → List (Line × ℕ)
held_lines cs = map (λ c. (c.line, c.stamp)) cs

-- a list of lines with stamps has this line, and the stamp that it has beside it
abbrev pub has_line : ℕ → List (Line × ℕ) → Bool
has_line n ls = list_any (λ l. line_number l.0 == n) ls

abbrev pub stamp_beside : ℕ → List (Line × ℕ) → Option ℕ
stamp_beside n ls = option_map (λ l. l.1) (find (λ l. line_number l.0 == n) ls)

-- the stamp of the copy of this line, if there is one
abbrev pub stamp_of : ℕ → List LineCopy → Option ℕ
stamp_of n cs = option_map (λ s. s.0) (get_of n cs)
