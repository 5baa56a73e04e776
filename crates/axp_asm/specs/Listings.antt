-- The listing of an image: the source that gives it, with no labels.
use Rattle.std.specs.Prelude.{ℕ, ◌%◌, ◌==◌, ◌&&◌, if◌then◌else◌, List, [], ◌∷◌, ◌++◌, map, length}
use Rattle.std.specs.Int.{w32, from_le_bytes}
use Rattle.std.specs.List.{flat_map}
use Rattle.axp_image.specs.declared.limits.TheConstants.{INSTRUCTION_BYTES}
use Rattle.axp_image.specs.Contents.{Contents, Segment}
use Rattle.axp_trace.specs.declared.files.TheConstants.{LINE_FEED}
use Rattle.axp_decode.specs.Format.{instr_of}
use Rattle.axp_source.specs.Items.{Item, Directs, Instruction, is_written}
use Rattle.axp_source.specs.Texts.{item_text}
use Rattle.axp_source.specs.declared.statements.Directive.TheVariants as directive

abbrev pub byte_listed : ℕ → Item
byte_listed b = Directs (directive.Byte b)

-- a word as its instruction, or as a number where that has no line
abbrev pub word_listed : ℕ → Item
word_listed w = if is_written (instr_of w) then Instruction (instr_of w) else Directs (directive.Word w)

-- bytes as words
abbrev pub words_listed : List ℕ → List Item
words_listed (a ∷ b ∷ c ∷ d ∷ rest) = word_listed (from_le_bytes w32 (a ∷ b ∷ c ∷ d ∷ [])) ∷ words_listed rest
words_listed _ = []

abbrev pub content_listed : Segment → List Item
content_listed s =
    if (s.address % INSTRUCTION_BYTES == 0) && (length s.bytes % INSTRUCTION_BYTES == 0) then words_listed s.bytes else map byte_listed s.bytes

abbrev pub segment_listed : Segment → List Item
segment_listed s = Directs (directive.At s.address) ∷ content_listed s

abbrev pub head_listed : Contents → List Item
head_listed c = Directs (directive.Memory c.size) ∷ Directs (directive.Entry c.entry) ∷ Directs (directive.Stack c.stack) ∷ Directs (directive.Table c.table) ∷ []

abbrev pub items_of : Contents → List Item
items_of c = head_listed c ++ flat_map segment_listed c.segments

-- a statement's line, with its line feed
abbrev pub line_of : Item → List ℕ
line_of item = item_text item ++ LINE_FEED ∷ []

unfoldable pub listing : Contents → List ℕ
listing c = flat_map line_of (items_of c)
