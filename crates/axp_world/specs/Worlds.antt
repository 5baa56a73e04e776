-- Processors over the bus: each processor goes by its own events and by the bus's answers to its own
-- requests, and the bus answers by the list of all calls.
use Rattle.std.specs.Prelude.{◌≡◌, ℕ, ◌==◌, nat_lt, if◌then◌else◌, List, [], ◌∷◌, Option, Some, None, Result, Ok, Err, refl}
use Rattle.axp_access.specs.declared.Event.{Event}
use Rattle.axp_access.specs.declared.Outcome.{Outcome}
use Rattle.axp_access.specs.declared.Record.{Record}
use Rattle.axp_base.specs.Cpus.{cpu_number, cpu_of}
use Rattle.axp_base.specs.declared.processors.Cpu.{Cpu}
use Rattle.axp_cpu.specs.declared.refusals.NotLegal.{NotLegal}
use Rattle.axp_cpu.specs.Actors.{Actor, first_actor, request_of, advanced, outcome_of}
use Rattle.axp_image.specs.Contents.{Contents, byte_in}
use Rattle.axp_line.specs.declared.messages.Reply.{Reply}
use Rattle.axp_line.specs.declared.messages.Reply.TheVariants as reply
use Rattle.axp_lsu.specs.declared.asks.Ask2.{Ask2}
use Rattle.axp_lsu.specs.declared.asks.Ask2.TheVariants as ask
use Rattle.axp_line.specs.BusCalls.{BusCall}
use Rattle.axp_line.specs.BusReply.{bus_reply}

pub record World : Type 0 where
  pub actors : ℕ → Actor
  pub calls : List BusCall

-- the image's bytes
abbrev pub image_bytes : Contents → ℕ → ℕ
image_bytes image at = byte_in image.segments at

-- what the event's processor asks, or that it is not legal
abbrev pub asked : World → Event → Result Ask2 NotLegal
asked w e = request_of (w.actors (cpu_number e.cpu)) e.act

-- the bus's answer, where it is asked
abbrev pub reply_for : (ℕ → ℕ) → List BusCall → ℕ → Result Ask2 NotLegal → Option Reply
reply_for image cs p (Ok (ask.Bus q)) = Some (bus_reply image cs p q)
reply_for image cs p _ = None

abbrev pub reply_at : Contents → World → Event → Option Reply
reply_at image w e = reply_for (image_bytes image) w.calls (cpu_number e.cpu) (asked w e)

-- the call that is made
abbrev pub calls_for : (ℕ → ℕ) → List BusCall → Cpu → Result Ask2 NotLegal → List BusCall
calls_for image cs cpu (Ok (ask.Bus q)) = record { cpu = cpu; ask = q; answer = bus_reply image cs (cpu_number cpu) q } ∷ cs
calls_for image cs cpu _ = cs

-- a Take is not legal where nothing is late, which the bus alone knows
abbrev pub answer_by : Result Ask2 NotLegal → Option Reply → Outcome → Result Outcome NotLegal
answer_by (Err e) r o = Err e
answer_by (Ok q) (Some reply.Nothing) o = Err (record {})
answer_by (Ok q) r o = Ok o

-- what an event gives, in a world of so many processors, or that it is not legal
unfoldable pub answer_of : Contents → ℕ → World → Event → Result Outcome NotLegal
answer_of image cpus w e =
    if nat_lt (cpu_number e.cpu) cpus
    then answer_by (asked w e) (reply_at image w e) (outcome_of (w.actors (cpu_number e.cpu)) e.act (reply_at image w e))
    else Err (record {})

-- the world after a legal event
unfoldable pub after_event : Contents → World → Event → World
after_event image w e = record {
  actors = λ p. if cpu_number e.cpu == p then advanced (w.actors p) e.act (reply_at image w e) else w.actors p;
  calls = calls_for (image_bytes image) w.calls e.cpu (asked w e);
}

-- the processor of a number; 0 where no processor has the number
abbrev pub cpu_or_first : Option Cpu → Cpu
cpu_or_first None = record { number = 0; below = refl }
cpu_or_first (Some cpu) = cpu

-- the world at the start, and after the events of a history
abbrev pub first_world : Contents → ℕ → ℕ → World
first_world image cpus budget = record { actors = λ p. first_actor image cpus budget (cpu_or_first (cpu_of p)); calls = [] }

abbrev pub world : Contents → ℕ → ℕ → List Record → World
world image cpus budget [] = first_world image cpus budget
world image cpus budget (r ∷ h) = after_event image (world image cpus budget h) r.event

-- each record was given by its event, after those before it
abbrev pub IsPlayed : Contents → ℕ → ℕ → List Record → Type 0
IsPlayed image cpus budget [] = Unit {0}
IsPlayed image cpus budget (r ∷ h) = (answer_of image cpus (world image cpus budget h) r.event ≡ Ok r.outcome) × IsPlayed image cpus budget h
