-- How a processor of the code stands for one of the definitions.
use Rattle.std.specs.Prelude.{◌≡◌, ◌≤◌, Bool, true, false, ◌||◌, Option, Some, Ok}
use Rattle.axp_access.specs.Acts.{is_poll_act, is_tick}
use Rattle.axp_access.specs.declared.Act.{Act}
use Rattle.axp_access.specs.declared.Act.TheVariants.{Step}
use Rattle.axp_access.specs.declared.Intent.{Intent}
use Rattle.axp_base.specs.declared.processors.TheConstants.{MAX_BUDGET}
use Rattle.axp_line.specs.declared.messages.Reply.{Reply}
use Rattle.axp_lsu.specs.Fitting.{ReplyFits}
use Rattle.axp_lsu.specs.Within.{IsKeptWithin}
use Rattle.axp_lsu.specs.declared.asks.Ask2.{Ask2}
use Rattle.axp_cpu.specs.Actors.{Actor, actor_intent, request_of}
use Rattle.axp_cpu.specs.Seats.{is_at_boundary, is_finished}
use Rattle.axp_cpu.specs.Stands.{Stands}
use Rattle.axp_cpu.specs.declared.processors.Processor.{Processor}

-- the processor is this one: its parts are, what it keeps lies in memory, and its steps are in budget
pub record IsAt (p : Processor) (a : Actor) : Type 0 where
  pub cpu : p.cpu ≡ a.cpu
  pub seat : Stands p.sequencer a.seat
  pub kept : p.unit ≡ a.kept
  pub within : IsKeptWithin a.seat.size a.kept
  pub made : a.kept.buffer.made ≤ a.seat.steps
  pub steps : a.seat.steps ≤ a.seat.budget
  pub budget : a.seat.budget ≤ MAX_BUDGET

-- it is some one
pub record IsSeated (p : Processor) : Type 0 where
  pub actor : Actor
  pub at : IsAt p actor

-- it asked for an act, and the answer fits
pub record IsAnswered (p : Processor) (act : Act) (reply : Option Reply) : Type 0 where
  pub actor : Actor
  pub at : IsAt p actor
  pub ask : Ask2
  pub asked : request_of actor act ≡ Ok ask
  pub fits : ReplyFits (Some ask) reply

-- the act may begin an interrupt's entry
abbrev pub is_interrupt : Act → Bool
is_interrupt act = is_poll_act act || is_tick act

-- an act is legal, where this is what the processor is about to do: a step is not made by a finished processor,
-- and an interrupt comes at a boundary
pub record IsMovable (p : Processor) (act : Act) (intent : Intent) : Type 0 where
  pub actor : Actor
  pub at : IsAt p actor
  pub intends : (a : Actor) → IsAt p a → intent ≡ actor_intent a
  pub unfinished : act ≡ Step → is_finished actor.seat ≡ false
  pub boundary : is_interrupt act ≡ true → is_at_boundary actor.seat ≡ true
