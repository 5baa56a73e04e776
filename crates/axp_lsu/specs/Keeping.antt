-- What a processor keeps of memory: its write buffer, its banks, and counts.
use Rattle.std.specs.Prelude.{ℕ, ◌*◌, Bool, true, false, List, [], ◌++◌, map, slice_get, Option}
use Rattle.axp_base.specs.Lines.{data_bank, line_number}
use Rattle.axp_base.specs.declared.lines.Bank.{Bank}
use Rattle.axp_base.specs.declared.lines.Bank.TheVariants.{Even, Odd, Code}
use Rattle.axp_base.specs.declared.lines.Line.{Line}
use Rattle.axp_base.specs.declared.lines.TheConstants.{LINE_BYTES}
use Rattle.axp_bank.specs.Copies.{line_of}
use Rattle.axp_bank.specs.declared.copies.LineCopy.{LineCopy}
use Rattle.axp_wbuf.specs.Drains.{oldest_group}
use Rattle.axp_wbuf.specs.Pending.{Buffer, Pending, no_entries}
use Rattle.axp_lsu.specs.declared.since.Since.{Since}

pub record LocalMemory : Type 0 where
  pub buffer : Buffer
  -- the copies of the data banks and of the code bank
  pub even : List LineCopy
  pub odd : List LineCopy
  pub code : List LineCopy
  -- the turn count at the last MB or IMB
  pub barrier : ℕ
  -- what was done since the last Step
  pub since : Since

-- nothing was done
abbrev pub nothing : Since
nothing = record { filled = false; dropped_even = false; dropped_odd = false; dropped_code = false; polled = false; ticked = false }

-- at the start
abbrev pub empty_memory : LocalMemory
empty_memory = record { buffer = no_entries; even = []; odd = []; code = []; barrier = 0; since = nothing }

-- a bank's copies
abbrev pub copies_of : Bank → LocalMemory → List LineCopy
copies_of Even u = u.even
copies_of Odd u = u.odd
copies_of Code u = u.code

-- what is kept, with other copies in a bank
abbrev pub with_copies : Bank → List LineCopy → LocalMemory → LocalMemory
with_copies Even cs u = record u { even = cs }
with_copies Odd cs u = record u { odd = cs }
with_copies Code cs u = record u { code = cs }

-- the copies of the data bank that a line belongs to
abbrev pub data_copies : ℕ → LocalMemory → List LineCopy
data_copies l u = copies_of (data_bank l) u

-- lines with stamps, by their addresses
abbrev pub addressed : List (Line × ℕ) → List (ℕ × ℕ)
addressed ls = map (λ l. (line_number l.0 * LINE_BYTES, l.1)) ls

-- the data lines held, by their addresses, each with its copy's stamp
abbrev pub held_pairs : LocalMemory → List (ℕ × ℕ)
held_pairs u = map (λ c. (line_of c * LINE_BYTES, c.stamp)) (u.even ++ u.odd)

-- a Drop from this bank since the last Step
abbrev pub has_dropped : Bank → Since → Bool
has_dropped Even s = s.dropped_even
has_dropped Odd s = s.dropped_odd
has_dropped Code s = s.dropped_code

abbrev pub with_drop : Bank → Since → Since
with_drop Even s = record s { dropped_even = true }
with_drop Odd s = record s { dropped_odd = true }
with_drop Code s = record s { dropped_code = true }

-- what is kept, with other copies in the data bank that a line belongs to
abbrev pub with_data_copies : ℕ → List LineCopy → LocalMemory → LocalMemory
with_data_copies l cs u = with_copies (data_bank l) cs u

-- the entry of this number in the oldest group
abbrev pub entry_at : ℕ → LocalMemory → Option Pending
entry_at k u = slice_get (oldest_group u.buffer.kept) k

-- a Fill since the last Step
abbrev pub with_fill : Since → Since
with_fill s = record s { filled = true }
