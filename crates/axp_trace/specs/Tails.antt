-- What the lines of a trace's tail mean.
use Rattle.std.specs.Prelude.{◌≡◌, ℕ, ◌%◌, ◌^◌, ◌<◌, ◌≤◌, nat_lt, nat_le, ◌&&◌, ◌||◌, Bool, true, false, if◌then◌else◌, List, [], ◌∷◌, Option, Some, None}
use Rattle.std.specs.Str.{bytes_eq}
use Rattle.std.specs.List.{All}
use Rattle.axp_base.specs.Cpus.{cpu_number}
use Rattle.axp_base.specs.declared.parts.TheConstants.{QUADWORD_BYTES}
use Rattle.axp_base.specs.declared.processors.Cpu.{Cpu}
use Rattle.axp_access.specs.declared.tail_items.TailItem.{TailItem}
use Rattle.axp_access.specs.declared.tail_items.TailItem.TheVariants.{Cpu as Ended, Reg, Mem, Console, End}
use Rattle.axp_trace.specs.Digits.{number_of, hex_number_of, number_within, pairs_value}
use Rattle.axp_trace.specs.Fields.{words_of, cut_at, cpu_in, moved_in}
use Rattle.axp_trace.specs.Lines.{console_text, console_line, tail_line}
use Rattle.axp_trace.specs.declared.digits.TheConstants.{ADDRESS_DIGITS, VALUE_DIGITS}
use Rattle.axp_trace.specs.declared.fields.Moved.{Moved}
use Rattle.axp_trace.specs.declared.fields.TheConstants.{BLANK, MOST_NUMBER}
use Rattle.axp_trace.specs.declared.tails.TheConstants.{MOST_HALT, MOST_REGISTER}

-- how a processor ended
abbrev pub ended_by : Option Cpu → Option ℕ → Option ℕ → Option ℕ → Option TailItem
ended_by None halt steps pc = None
ended_by (Some cpu) None steps pc = None
ended_by (Some cpu) (Some halt) None pc = None
ended_by (Some cpu) (Some halt) (Some steps) None = None
ended_by (Some cpu) (Some halt) (Some steps) (Some pc) = Some (Ended cpu halt steps pc)

-- a register of a processor
abbrev pub register_by : Option Cpu → Option ℕ → Option ℕ → Option TailItem
register_by None n value = None
register_by (Some cpu) None value = None
register_by (Some cpu) (Some n) None = None
register_by (Some cpu) (Some n) (Some value) = Some (Reg cpu n value)

abbrev pub register_in : List ℕ → List ℕ → List ℕ → Option TailItem
register_in cpu n value = register_by (cpu_in (number_of cpu)) (number_within 0 MOST_REGISTER n) (hex_number_of VALUE_DIGITS value)

-- a quadword of memory
abbrev pub quadword_by : Option Moved → Option TailItem
quadword_by None = None
quadword_by (Some m) = Some (Mem m.address m.value)

-- the number of events
abbrev pub end_by : Option ℕ → Option TailItem
end_by None = None
end_by (Some events) = Some (End events)

-- how the processor of a word ended, after the steps of a word, at the address of a word
abbrev pub ended_in : List ℕ → Option ℕ → List ℕ → List ℕ → Option TailItem
ended_in cpu halt steps pc = ended_by (cpu_in (number_of cpu)) halt (number_within 0 MOST_NUMBER steps) (hex_number_of VALUE_DIGITS pc)

abbrev pub halted_in : List ℕ → List ℕ → List ℕ → List ℕ → Option TailItem
halted_in cpu halt steps pc = ended_in cpu (number_within 1 MOST_HALT halt) steps pc

-- the quadword and the number of events that words name
abbrev pub quadword_in : List ℕ → List ℕ → Option TailItem
quadword_in address value = quadword_by (moved_in (hex_number_of ADDRESS_DIGITS address) (Some QUADWORD_BYTES) value)

abbrev pub end_in : List ℕ → Option TailItem
end_in events = end_by (number_within 0 MOST_NUMBER events)

-- what the words behind a processor's number mean
abbrev pub processor_in : List ℕ → List (List ℕ) → Option TailItem
processor_in cpu (a ∷ b ∷ steps ∷ c ∷ pc ∷ []) = ended_in cpu (Some 0) steps pc
processor_in cpu (a ∷ halt ∷ b ∷ steps ∷ c ∷ pc ∷ []) = halted_in cpu halt steps pc
processor_in cpu _ = None

-- what the words of a line mean that is not the console's, by their number
abbrev pub item_in : List (List ℕ) → Option TailItem
item_in (a ∷ events ∷ []) = end_in events
item_in (a ∷ address ∷ value ∷ []) = quadword_in address value
item_in (a ∷ cpu ∷ n ∷ value ∷ []) = register_in cpu n value
item_in (a ∷ cpu ∷ words) = processor_in cpu words
item_in _ = None

-- the console's bytes, if the line is their text
abbrev pub console_if : List ℕ → List ℕ → Option TailItem
console_if line bytes = if bytes_eq (console_line bytes) line then Some (Console bytes) else None

-- what a line means that is cut at its first blank, if it is the console's: the second part is its digits
abbrev pub console_in : List ℕ → Option (List ℕ × List ℕ) → Option TailItem
console_in line None = None
console_in line (Some p) = console_if line (pairs_value p.1)

-- the processor that the item names, if any, is below the count
abbrev pub is_cpu_below : ℕ → TailItem → Bool
is_cpu_below cpus (Ended cpu halt steps pc) = nat_lt (cpu_number cpu) cpus
is_cpu_below cpus (Reg cpu n value) = nat_lt (cpu_number cpu) cpus
is_cpu_below cpus _ = true

-- the item, if the processor that it names is below the count and the line is its text
abbrev pub tail_if : ℕ → List ℕ → Option TailItem → Option TailItem
tail_if cpus line None = None
tail_if cpus line (Some i) = if is_cpu_below cpus i && bytes_eq (tail_line i) line then Some i else None

-- the item, or else the other
abbrev pub item_or : Option TailItem → Option TailItem → Option TailItem
item_or None other = other
item_or (Some i) other = Some i

-- the item of the tail that a line spells, where there are so many processors
unfoldable pub tail_of : ℕ → List ℕ → Option TailItem
tail_of cpus line = item_or (console_in line (cut_at BLANK line)) (tail_if cpus line (item_in (words_of line)))

-- there is one
abbrev pub is_item : Option TailItem → Bool
is_item None = false
is_item (Some i) = true

-- the item is the console's
abbrev pub is_console : TailItem → Bool
is_console (Console bytes) = true
is_console _ = false

-- a hexadecimal digit in upper case
abbrev pub is_hex_digit : ℕ → Bool
is_hex_digit c = (nat_le 48 c && nat_le c 57) || (nat_le 65 c && nat_le c 70)

-- two hexadecimal digits for each of some bytes
abbrev pub is_pairs : List ℕ → Bool
is_pairs [] = true
is_pairs (c ∷ []) = false
is_pairs (c ∷ d ∷ cs) = (is_hex_digit c && is_hex_digit d) && is_pairs cs

-- the digits of the console's bytes, or the sign for none
abbrev pub is_console_word : List ℕ → Bool
is_console_word word = bytes_eq (console_text (pairs_value word)) word

-- the item's numbers are such as are printed
abbrev pub IsPrinted : TailItem → Type 0
IsPrinted (Ended cpu halt steps pc) = (halt ≤ MOST_HALT) × ((steps < 2 ^ 32) × (pc < 2 ^ 64))
IsPrinted (Reg cpu n value) = (n ≤ MOST_REGISTER) × (value < 2 ^ 64)
IsPrinted (Mem address value) = (address % QUADWORD_BYTES ≡ 0) × ((address < 2 ^ 32) × (value < 2 ^ 64))
IsPrinted (Console bytes) = All (λ b. b < 2 ^ 8) bytes
IsPrinted (End events) = events < 2 ^ 32

-- an item that a line of a trace for so many processors spells
pub record IsItem (cpus : ℕ) (i : TailItem) : Type 0 where
  pub printed : IsPrinted i
  pub cpu : is_cpu_below cpus i ≡ true
