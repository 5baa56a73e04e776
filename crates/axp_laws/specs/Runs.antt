-- A run, with all that the laws of runs ask.
use Rattle.std.specs.Prelude.{ℕ, List}
use Rattle.axp_access.specs.declared.Record.{Record}
use Rattle.axp_model.specs.Outcomes.{IsRun}
use Rattle.axp_model.specs.Processors.{AreInLine, Processors}

-- the history is the run of its own events over an image, and what its processors want lies in lines
pub record Run (h : List Record) : Type 0 where
  pub image : ℕ → ℕ
  pub processors : Processors
  pub inside : AreInLine processors
  pub legal : IsRun image processors h
