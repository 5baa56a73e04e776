-- The desk over files.
use Rattle.std.specs.Prelude.{ℕ, List, []}
use Rattle.axp_io.specs.Causes.{Ask}

-- what the desk over files is seen as
pub record FilesView : Type 0 where
  pub faults : ℕ
  pub given : ℕ
  pub asks : List Ask

-- nothing was asked for yet
abbrev pub fresh_files : FilesView
fresh_files = record { faults = 0; given = 0; asks = [] }
