-- One processor by itself: what it becomes by its own acts and by the bus's answers to them.
use Rattle.std.specs.Prelude.{ℕ, not, Bool, true, if◌then◌else◌, List, [], ◌∷◌, Option}
use Rattle.axp_access.specs.declared.Act.{Act}
use Rattle.axp_access.specs.declared.Act.TheVariants as act
use Rattle.axp_access.specs.declared.Record.{Record}
use Rattle.axp_base.specs.Cpus.{cpu_of}
use Rattle.axp_base.specs.Lists.{is_empty}
use Rattle.axp_cpu.specs.Actors.{Actor, advanced, first_actor, request_of}
use Rattle.axp_image.specs.Contents.{Contents}
use Rattle.axp_line.specs.BusCalls as calls
use Rattle.axp_line.specs.BusCalls.{BusCall}
use Rattle.axp_line.specs.declared.messages.Reply.{Reply}
use Rattle.axp_model.specs.Records.{is_of}
use Rattle.axp_world.specs.Worlds.{cpu_or_first, image_bytes, reply_at, reply_for, world}

-- an act, with the bus's answer where it asked
pub record Deed : Type 0 where
  pub act : Act
  pub answer : Option Reply

-- a processor led through its deeds, the newest first
abbrev pub led : Actor → List Deed → Actor
led a [] = a
led a (d ∷ ds) = advanced (led a ds) d.act d.answer

-- the deeds of processor p in a history
abbrev pub deeds : Contents → ℕ → ℕ → ℕ → List Record → List Deed
deeds image cpus budget p [] = []
deeds image cpus budget p (r ∷ h) =
    if is_of p r
    then record { act = r.event.act; answer = reply_at image (world image cpus budget h) r.event } ∷ deeds image cpus budget p h
    else deeds image cpus budget p h

-- the processor as these alone make it
abbrev pub alone : Contents → ℕ → ℕ → ℕ → List Record → Actor
alone image cpus budget p h = led (first_actor image cpus budget (cpu_or_first (cpu_of p))) (deeds image cpus budget p h)

-- what the bus answers to an act of it, by the list of all calls
abbrev pub answer_alone : Contents → ℕ → ℕ → ℕ → List Record → Act → Option Reply
answer_alone image cpus budget p h a = reply_for (image_bytes image) (world image cpus budget h).calls p (request_of (alone image cpus budget p h) a)

-- something is late where an act takes it
abbrev pub has_late : Act → List BusCall → ℕ → Bool
has_late (act.Take b) cs p = not (is_empty (calls.late p b cs))
has_late _ cs p = true
