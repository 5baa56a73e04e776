-- A source as its lines, each a statement or none.
use Rattle.std.specs.Prelude.{ℕ, ◌+◌, List, [], ◌∷◌, map, Option, Some, None, option_and_then}
use Rattle.std.specs.Borrow.{Bor}
use Rattle.axp_trace.specs.Files.{lines_of}
use Rattle.axp_source.specs.Items.{Item, Directs}
use Rattle.axp_source.specs.Reading.{item_of}
use Rattle.axp_source.specs.declared.statements.Directive.{Directive}

abbrev pub Lines : Type 0
Lines = List (Option Item)

-- the statement of a line, if it is one
abbrev pub said_on : Option (List ℕ) → Option Item
said_on line = option_and_then item_of line

-- the statements of a text, line by line
unfoldable pub said_in : List ℕ → Lines
said_in text = map said_on (lines_of text)

-- the number of the first line that is no statement
abbrev pub first_formless : ℕ → Lines → Option ℕ
first_formless line [] = None
first_formless line (None ∷ rest) = Some line
first_formless line (Some item ∷ rest) = first_formless (line + 1) rest

-- a value of the first line, and the lines behind it
abbrev pub Split : Type 0 → Type 0
Split A = Option (A × Lines)

abbrev pub directive_first : Lines → Split Directive
directive_first (Some (Directs d) ∷ rest) = Some (d, rest)
directive_first _ = None

-- a value and the text behind it
abbrev pub split : {A : Type 0} → Option (A × Bor (List ℕ)) → Split A
split None = None
split (Some p) = Some (p.0, said_in p.1.now)
