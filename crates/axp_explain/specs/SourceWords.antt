-- What is wrong with a line of an assembler source, in a person's words.
use Rattle.std.specs.Prelude.{ℕ, nat_le, ◌==◌, if◌then◌else◌, List, codes, Option, Some, None}
use Rattle.axp_asm.specs.declared.layout.TheConstants.{MEMORY_LINE, ENTRY_LINE, STACK_LINE, TABLE_LINE}
use Rattle.axp_source.specs.Items.{Item, Directs, Label, Instruction, BranchTo}
use Rattle.axp_source.specs.Reading.{item_of}
use Rattle.axp_source.specs.declared.statements.Directive.{Directive}
use Rattle.axp_source.specs.declared.statements.Directive.TheVariants as directive
use Rattle.axp_top.specs.Replays.{FileLine}

-- one of the first four lines
unfoldable pub head_words : ℕ → List ℕ
head_words n =
    if n == MEMORY_LINE then codes ".memory and the size of memory stand here, a multiple of 8192 up to 16777216"
    else if n == ENTRY_LINE then codes ".entry and the entry address stand here, a multiple of 4 in memory, which begins at FFFFFC0000000000"
    else if n == STACK_LINE then codes ".stack and the stack word stand here"
    else codes ".table and the page of the page table stand here, which is below the number of pages of 8192 bytes"

unfoldable pub bytes_words : List ℕ
bytes_words = codes "there is no .at line in front of these bytes, or they end behind memory"

abbrev pub directive_words : Directive → List ℕ
directive_words (directive.At x) = codes "a segment begins in memory, behind the segment before it, and has bytes; there are at most 64"
directive_words (directive.Byte b) = bytes_words
directive_words (directive.Word w) = bytes_words
directive_words _ = codes "this directive has its place in the first four lines"

unfoldable pub statement_words : Item → List ℕ
statement_words (Directs d) = directive_words d
statement_words (Label name) = codes "there is no .at line in front of this label, or a line before has the same label"
statement_words (Instruction i) = bytes_words
statement_words (BranchTo op a label) = codes "there is no .at line in front of this branch, it ends behind memory, or its label stands nowhere, too far away, or no whole number of words away"

unfoldable pub no_statement_words : List ℕ
no_statement_words = codes "the line is no directive, label or instruction; one blank stands between two words, and there are no other blanks and no comments"

abbrev pub said_words : ℕ → Option Item → List ℕ
said_words n None = no_statement_words
said_words n (Some item) = if nat_le n TABLE_LINE then head_words n else statement_words item

-- of the line of a number, which the file may lack
abbrev pub source_words : ℕ → Option FileLine → List ℕ
source_words n None = head_words n
source_words n (Some None) = codes "the line has no line feed at its end"
source_words n (Some (Some line)) = said_words n (item_of line)
