-- The line at a place of a file.
use Rattle.std.specs.Prelude.{ℕ, List, Option, Some, None}
use Rattle.axp_explain.specs.declared.line_faults.LineAt.{LineAt}
use Rattle.axp_explain.specs.declared.line_faults.LineAt.TheVariants as line

-- as the list of a file's lines has it
abbrev pub file_line : LineAt → Option (Option (List ℕ))
file_line line.Missing = None
file_line line.Unended = Some None
file_line (line.Whole bytes) = Some (Some bytes.now)
