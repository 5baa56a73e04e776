-- What the code bank gives of its copies.
use Rattle.std.specs.Prelude.{ℕ, ◌==◌, Bool, List, map}
use Rattle.std.specs.Option.{option_map}
use Rattle.std.specs.List.{list_any}
use Rattle.std.specs.declared.option.Option.{Option}
use Rattle.axp_base.specs.Lines.{line_number}
use Rattle.axp_base.specs.declared.lines.Line.{Line}
use Rattle.axp_line.specs.declared.contents.LineData.{LineData}
use Rattle.axp_bank.specs.declared.copies.LineCopy.{LineCopy}
use Rattle.axp_bank.specs.Copies.{get_of}

-- the data of the copy of this line, if there is one
abbrev pub bytes_of : ℕ → List LineCopy → Option LineData
bytes_of n cs = option_map (λ s. s.1) (get_of n cs)

-- the lines that are held, in the order of the copies
unfoldable pub code_lines : List LineCopy → List Line
code_lines cs = map (λ c. c.line) cs

-- the lines of a list of lines with stamps
abbrev pub lines_beside : List (Line × ℕ) → List Line
lines_beside ls = map (λ l. l.0) ls

-- a list of lines has this one
abbrev pub names_line : ℕ → List Line → Bool
names_line n ls = list_any (λ l. line_number l == n) ls
