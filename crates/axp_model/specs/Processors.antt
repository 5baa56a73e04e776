-- The processors of a run, as far as the model asks: how many there are, and what each is about to do.
use Rattle.std.specs.Prelude.{ℕ, ◌+◌, ◌%◌, ◌^◌, ◌<◌, ◌≤◌, List, Option, Some, None}
use Rattle.axp_base.specs.declared.lines.TheConstants.{LINE_BYTES}
use Rattle.axp_base.specs.declared.parts.TheConstants.{QUADWORD_BYTES}
use Rattle.axp_access.specs.declared.Intent.{Intent}
use Rattle.axp_access.specs.declared.Record.{Record}
use Rattle.axp_access.specs.declared.Wanted.{Wanted}

pub record Processors : Type 0 where
  -- how many there are
  pub count : ℕ
  -- what the processor of a number is about to do after a history
  pub intent : ℕ → List Record → Intent

-- the bytes of an access have addresses, and lie in one aligned quadword and so in one line
pub record IsInLine (address size : ℕ) : Type 0 where
  pub quadword : address % QUADWORD_BYTES + size ≤ QUADWORD_BYTES
  pub within : address % LINE_BYTES + size ≤ LINE_BYTES
  pub addressed : address < 2 ^ 64

-- so do those of a wanted access, if there is one
abbrev pub WantsInLine : Option Wanted → Type 0
WantsInLine None = Unit {0}
WantsInLine (Some w) = IsInLine w.address w.size

-- of every processor, whatever the history
abbrev pub AreInLine : Processors → Type 0
AreInLine ps = (p : ℕ) (h : List Record) → WantsInLine (ps.intent p h).wanted
