-- What a seat may ask of the bus, and which answer is right.
use Rattle.std.specs.Prelude.{◌≡◌, ℕ, ◌+◌, ◌^◌, ◌<◌, List, length, reverse}
use Rattle.axp_bus.specs.Buses.{MayAsk}
use Rattle.axp_image.specs.Contents.{Contents, byte_in}
use Rattle.axp_line.specs.BusCalls.{BusCall}
use Rattle.axp_line.specs.BusReply.{bus_reply}
use Rattle.axp_line.specs.declared.messages.Reply.{Reply}
use Rattle.axp_line.specs.declared.messages.Request.{Request}
use Rattle.axp_shared.specs.declared.logs.BusStart.{BusStart}

-- the start with this image and so many processors
abbrev pub start_of : Contents → ℕ → BusStart
start_of image cpus = record { image = image; cpus = cpus }

-- memory at the start, a byte at each address
abbrev pub start_memory : BusStart → ℕ → ℕ
start_memory start = byte_in start.image.segments

-- what the bus may be asked at this start
abbrev pub MayAskBus : BusStart → Request → Type 0
MayAskBus start request = MayAsk start.image.size start.cpus request

-- the seat is that of a processor, and the bus may be asked so
abbrev pub BusFits : BusStart → ℕ → Request → Type 0
BusFits start seat request = (seat < start.cpus) × MayAskBus start request

-- The answer is the bus's after these calls, the earliest first.
pub record IsBusAnswer (start : BusStart) (before : List BusCall) (cpu : ℕ) (request : Request)
    (answer : Reply) : Type 0 where
  -- the reply is taken over the newest first
  pub reply : answer ≡ bus_reply (start_memory start) (reverse before) cpu request
  -- the turn that the call may make has a number of 32 bits
  pub small : length before + 1 < 2 ^ 32
