-- The marks of the aligned quadwords of memory that were written.
use Rattle.std.specs.Prelude.{◌≡◌, ℕ, ◌+◌, ◌*◌, ◌/◌, ◌%◌, ◌^◌, ◌<◌, ◌≤◌, ◌==◌, Bool, false, not, ◌||◌, List, length, get_or, Option}
use Rattle.axp_base.specs.declared.lines.TheConstants.{LINE_BYTES}
use Rattle.axp_base.specs.declared.parts.TheConstants.{QUADWORD_BYTES}
use Rattle.axp_line.specs.BusCalls.{BusCall, Written, reaches_quadword, is_touched}

-- how many quadwords a line has
abbrev pub LINE_QUADWORDS : ℕ
LINE_QUADWORDS = LINE_BYTES / QUADWORD_BYTES

-- a mask has one of the first n bytes of quadword k of its line
abbrev pub has_first : ℕ → ℕ → ℕ → Bool
has_first bits k n = not (bits / 2 ^ (k * QUADWORD_BYTES) % 2 ^ n == 0)

-- a mask has a byte of quadword k of its line
abbrev pub has_part : ℕ → ℕ → Bool
has_part bits k = has_first bits k QUADWORD_BYTES

-- the marks after a write: those that it reaches are set, the others as they were
pub record Marked (w : Option Written) (old new : List Bool) : Type 0 where
  pub size : length new ≡ length old
  pub each : (q : ℕ) → q < length old → get_or new q false ≡ (reaches_quadword q w || get_or old q false)

-- the marks of the first n quadwords of a line are done, the others as they were
pub record MarkedBelow (n line bits : ℕ) (old new : List Bool) : Type 0 where
  pub size : length new ≡ length old
  pub done : (k : ℕ) → k < n → get_or new (line * LINE_QUADWORDS + k) false ≡ (has_part bits k || get_or old (line * LINE_QUADWORDS + k) false)
  pub before : (q : ℕ) → q < line * LINE_QUADWORDS → get_or new q false ≡ get_or old q false
  pub past : (q : ℕ) → line * LINE_QUADWORDS + n ≤ q → get_or new q false ≡ get_or old q false

-- each mark says whether a call of the list wrote a byte of its quadword
abbrev pub AreMarks : List Bool → List BusCall → Type 0
AreMarks marks cs = (q : ℕ) → q < length marks → get_or marks q false ≡ is_touched q cs
