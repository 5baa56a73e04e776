-- The image that a source gives, or the number of its line at fault: the first line that is no statement, or else the first
-- that does not fit behind those before it.
use Rattle.std.specs.Prelude.{◌≡◌, ℕ, ◌+◌, List, [], ◌∷◌, Option, Some, None, Result, Ok, Err, ⊤}
use Rattle.axp_image.specs.Contents.{Contents}
use Rattle.axp_asm.specs.declared.faults.AsmError.{AsmError}
use Rattle.axp_asm.specs.declared.faults.AsmError.TheVariants as error
use Rattle.axp_asm.specs.declared.layout.TheConstants.{BODY_LINE}
use Rattle.axp_asm.specs.Labels.{Named, labels_of}
use Rattle.axp_asm.specs.Drafts.{Draft, draft, closed, with_item}
use Rattle.axp_asm.specs.Lines.{Lines, said_in, first_formless}
use Rattle.axp_asm.specs.Heads.{Head, head_of}

abbrev pub go_on : {A B : Type 0} → Option A → (A → Result B ℕ) → ℕ → Result B ℕ
go_on None f line = Err line
go_on (Some x) f line = f x

-- the image of a draft and the lines behind it, the first of which has a number
abbrev pub image_behind : List Named → ℕ → Draft → Lines → Result Contents ℕ
image_behind labels line d [] = Ok (closed d)
image_behind labels line d (None ∷ rest) = Err line
image_behind labels line d (Some item ∷ rest) = go_on (with_item labels line rest d item) (λ e. image_behind labels (line + 1) e rest) line

abbrev pub of_head : List Named → Head → Result Contents ℕ
of_head labels (Err line) = Err line
of_head labels (Ok p) = image_behind labels BODY_LINE (draft p.0 None) p.1

abbrev pub of_lines : Option ℕ → Lines → Result Contents ℕ
of_lines (Some line) lines = Err line
of_lines None lines = of_head (labels_of 1 0 lines) (head_of lines)

unfoldable pub assembled : List ℕ → Result Contents ℕ
assembled text = of_lines (first_formless 1 (said_in text)) (said_in text)

-- an error names the line at fault; want of memory may come at any time
abbrev pub Names : Result Contents ℕ → AsmError → Type 0
Names answer (error.Bad line) = answer ≡ Err line
Names answer error.Memory = ⊤

-- an error in the first four lines
abbrev pub HeadNames : Head → AsmError → Type 0
HeadNames head (error.Bad line) = head ≡ Err line
HeadNames head error.Memory = ⊤
