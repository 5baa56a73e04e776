-- That a bus stands for its calls, and that this is a proposition, so that it can be a fact of a
-- type.
use Rattle.std.proofs.Common.{◌≡◌, ℕ, List, [], ◌∷◌, reverse}
use Rattle.std.proofs.Props.{props}
use mathlib.Core.HLevel.{×_prop, Unit-prop}
use Rattle.axp_base.specs.Cpus.{cpu_number}
use Rattle.axp_bus.specs.BusStands.{Stands}
use Rattle.axp_bus.specs.Buses.{State}
use Rattle.axp_bus.specs.CallLists.{Calls}
use Rattle.axp_image.specs.Contents.{Contents, byte_in}
use Rattle.axp_line.specs.BusCalls.{BusCall}
use Rattle.axp_line.specs.BusReply.{AreReplied, bus_reply}
use Rattle.axp_line.specs.declared.messages.Reply.{Reply}

-- two proofs that a reply is the bus's are one
one_answer : (a b : Reply) → IsProp (a ≡ b)
one_answer a b = hlevel props

pub AreReplied-prop : (image : ℕ → ℕ) (calls : List BusCall) → IsProp (AreReplied image calls)
AreReplied-prop image [] = Unit-prop
AreReplied-prop image (c ∷ cs) =
    ×_prop (one_answer c.answer (bus_reply image cs (cpu_number c.cpu) c.ask))
    (AreReplied-prop image cs)

-- the bus is what these calls made of the image, the earliest first
abbrev pub StandsFor : State → Contents → Calls → Type 0
StandsFor bus image calls = Stands bus (byte_in image.segments) (reverse calls.items)

pub StandsFor-prop : (bus : State) (image : Contents) (calls : Calls)
    → IsProp (StandsFor bus image calls)
StandsFor-prop bus image calls = hlevel (props, AreReplied-prop)
