-- What the laws of played histories speak of.
use Rattle.std.specs.Prelude.{◌≡◌, ℕ, Bool, true, false, List, Option, Some, Result, Ok, Err}
use Rattle.axp_access.specs.declared.Act.{Act}
use Rattle.axp_access.specs.declared.Act.TheVariants as act
use Rattle.axp_access.specs.declared.Outcome.{Outcome}
use Rattle.axp_access.specs.declared.Record.{Record}
use Rattle.axp_base.specs.Cpus.{cpu_number}
use Rattle.axp_cpu.specs.declared.refusals.NotLegal.{NotLegal}
use Rattle.axp_access.specs.declared.Event.{Event}
use Rattle.axp_access.specs.declared.Intent.{Intent}
use Rattle.axp_base.specs.declared.lines.Bank.{Bank}
use Rattle.axp_base.specs.declared.processors.Cpu.{Cpu}
use Rattle.axp_cpu.specs.Following.{processors}
use Rattle.axp_image.specs.Contents.{Contents, IsValid}
use Rattle.axp_model.specs.Legal.{legal}
use Rattle.axp_model.specs.Processors.{Processors}
use Rattle.axp_world.specs.Worlds.{IsPlayed, World, image_bytes, world}

-- an event is refused
abbrev pub is_not_legal : Result Outcome NotLegal → Bool
is_not_legal (Ok o) = false
is_not_legal (Err e) = true

-- an act by which a processor comes nearer to its end: it steps, or makes way for a Step
abbrev pub is_progress : Act → Bool
is_progress act.Step = true
is_progress act.Fill = true
is_progress (act.Drain k) = true
is_progress (act.Drop b line) = true
is_progress _ = false

-- a drop of progress gives up a copy of the full bank that the wanted access waits for
abbrev pub MakesRoom : Option Bank → Act → Type 0
MakesRoom needs (act.Drop b line) = needs ≡ Some b
MakesRoom needs _ = Unit {0}

-- a history that so many processors played over a valid image, each with a budget of steps
pub record Played : Type 0 where
  pub image : Contents
  pub cpus : ℕ
  pub budget : ℕ
  pub history : List Record
  pub valid : IsValid image
  pub plays : IsPlayed image cpus budget history

-- the image's bytes, the world after the history, and the processors as the memory model asks of them
abbrev pub bytes_in : Played → ℕ → ℕ
bytes_in g at = image_bytes g.image at

abbrev pub world_in : Played → World
world_in g = world g.image g.cpus g.budget g.history

abbrev pub processors_in : Played → Processors
processors_in g = processors g.image g.cpus g.budget

-- what a processor is about to do after it
abbrev pub intent_in : Played → Cpu → Intent
intent_in g c = (processors_in g).intent (cpu_number c) g.history

-- an event is legal after it, by the memory model
abbrev pub is_legal_in : Played → Event → Bool
is_legal_in g e = legal (processors_in g) g.history e
