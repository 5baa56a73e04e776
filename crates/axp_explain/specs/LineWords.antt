-- What is wrong with a line of an event list or a trace that is outside the grammar, in a person's words.
use Rattle.std.specs.Prelude.{ℕ, ◌-◌, ◌==◌, nat_le, nat_lt, Bool, false, ◌&&◌, ◌||◌, if◌then◌else◌, List, ◌∷◌, length, slice_index, codes, Option, Some, None}
use Rattle.axp_explain.specs.declared.line_faults.LineFault.{LineFault}
use Rattle.axp_explain.specs.declared.line_faults.LineFault.TheVariants as fault

-- the last byte is this one
abbrev pub ends_with : ℕ → List ℕ → Bool
ends_with byte line = nat_lt 0 (length line) && (slice_index line (length line - 1) == byte)

-- a decimal digit
abbrev pub is_digit : ℕ → Bool
is_digit byte = nat_le 48 byte && nat_le byte 57

-- the line begins with the number of a processor that is not one of so many: a digit and a blank, or a number of more digits
abbrev pub names_other : ℕ → List ℕ → Bool
names_other cpus (a ∷ b ∷ rest) = is_digit a && (((b == 32) && nat_le cpus (a - 48)) || (nat_lt 48 a && is_digit b))
names_other cpus _ = false

-- of a line; the number of processors is None for the first line of a file, which has to say it
abbrev pub other_fault : Option ℕ → List ℕ → LineFault
other_fault None line = fault.NoHeader
other_fault (Some cpus) line = if names_other cpus line then fault.NoSuchProcessor else fault.OutOfForm

abbrev pub text_fault : Option ℕ → List ℕ → LineFault
text_fault cpus line = if ends_with 13 line then fault.CarriageReturn else (if ends_with 32 line then fault.TrailingBlank else other_fault cpus line)

-- of the line at a place; None: the file ends before it, Some None: it has no line feed
abbrev pub line_fault : Option ℕ → Option (Option (List ℕ)) → LineFault
line_fault cpus None = fault.Missing
line_fault cpus (Some None) = fault.NoLineFeed
line_fault cpus (Some (Some line)) = text_fault cpus line

unfoldable pub fault_words : LineFault → List ℕ
fault_words fault.Missing = codes "the file ends before this line, which it must have"
fault_words fault.NoLineFeed = codes "the last line does not end with a line feed"
fault_words fault.CarriageReturn = codes "the line ends with a carriage return: lines end with a line feed alone"
fault_words fault.TrailingBlank = codes "a space stands at the end of the line"
fault_words fault.NoHeader = codes "the first line is no header: an event list begins with axp-events 1 cpus N budget B, a trace with axp-trace 1 cpus N budget B memory M"
fault_words fault.NoSuchProcessor = codes "the first line has fewer processors than this: they are numbered from 0"
fault_words fault.OutOfForm = codes "this is no line of the form (docs/FORMATS.md), or none that may stand here"
