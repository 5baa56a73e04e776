-- The first four lines of a source: the size of memory, the entry address, the stack word, and the page of the page table.
use Rattle.std.specs.Prelude.{ℕ, ◌/◌, nat_lt, if◌then◌else◌, [], Some, None, Result, Ok, Err}
use Rattle.axp_image.specs.declared.limits.TheConstants.{PAGE_BYTES}
use Rattle.axp_image.specs.Contents.{Contents, contents}
use Rattle.axp_image.specs.Grammar.{is_memory_size, is_entry}
use Rattle.axp_source.specs.declared.statements.Directive.{Directive}
use Rattle.axp_source.specs.declared.statements.Directive.TheVariants as directive
use Rattle.axp_asm.specs.Lines.{Lines, Split, directive_first}
use Rattle.axp_asm.specs.declared.layout.TheConstants.{MEMORY_LINE, ENTRY_LINE, STACK_LINE, TABLE_LINE}

abbrev pub memory_in : Split Directive → Split ℕ
memory_in (Some (directive.Memory size, rest)) = if is_memory_size size then Some (size, rest) else None
memory_in _ = None

abbrev pub entry_in : ℕ → Split Directive → Split ℕ
entry_in size (Some (directive.Entry address, rest)) = if is_entry size address then Some (address, rest) else None
entry_in size _ = None

abbrev pub stack_in : Split Directive → Split ℕ
stack_in (Some (directive.Stack word, rest)) = Some (word, rest)
stack_in _ = None

abbrev pub table_in : ℕ → Split Directive → Split ℕ
table_in size (Some (directive.Table page, rest)) = if nat_lt page (size / PAGE_BYTES) then Some (page, rest) else None
table_in size _ = None

-- an image without segments and the lines behind the first four, or the number of the line at fault
abbrev pub Head : Type 0
Head = Result (Contents × Lines) ℕ

abbrev pub of_table : ℕ → ℕ → ℕ → Split ℕ → Head
of_table size entry stack None = Err TABLE_LINE
of_table size entry stack (Some p) = Ok (contents size entry stack p.0 [], p.1)

abbrev pub of_stack : ℕ → ℕ → Split ℕ → Head
of_stack size entry None = Err STACK_LINE
of_stack size entry (Some p) = of_table size entry p.0 (table_in size (directive_first p.1))

abbrev pub of_entry : ℕ → Split ℕ → Head
of_entry size None = Err ENTRY_LINE
of_entry size (Some p) = of_stack size p.0 (stack_in (directive_first p.1))

abbrev pub of_memory : Split ℕ → Head
of_memory None = Err MEMORY_LINE
of_memory (Some p) = of_entry p.0 (entry_in p.0 (directive_first p.1))

unfoldable pub head_of : Lines → Head
head_of lines = of_memory (memory_in (directive_first lines))
