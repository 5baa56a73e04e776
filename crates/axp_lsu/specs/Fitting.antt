-- Which answers fit what was asked, and conditions under which all of it fits its numbers.
use Rattle.std.specs.Prelude.{ℕ, ◌*◌, ◌^◌, ◌<◌, ◌≤◌, Option, Some, None}
use Rattle.axp_line.specs.declared.messages.Reply.{Reply}
use Rattle.axp_line.specs.declared.messages.Reply.TheVariants as reply
use Rattle.axp_line.specs.declared.messages.Request.{Request}
use Rattle.axp_line.specs.declared.messages.Request.TheVariants as request
use Rattle.axp_regs.specs.declared.asks.Kind.{Kind}
use Rattle.axp_regs.specs.declared.asks.Kind.TheVariants as kind
use Rattle.axp_access.specs.declared.Outcome.{Outcome}
use Rattle.axp_access.specs.declared.Outcome.TheVariants as outcome
use Rattle.axp_access.specs.declared.Wanted.{Wanted}
use Rattle.axp_lsu.specs.declared.asks.Ask2.{Ask2}
use Rattle.axp_lsu.specs.declared.asks.Ask2.TheVariants as ask
use Rattle.axp_lsu.specs.Keeping.{LocalMemory}
use Rattle.axp_lsu.specs.Within.{IsKeptWithin, IsWantedWithin}

-- the number of a turn
abbrev pub IsTurn : ℕ → Type 0
IsTurn turn = turn < 2 ^ 32

-- the answer is of the request's kind, which is never that nothing was late, and its turn is a number of
-- 32 bits
abbrev pub FitsRequest : Request → Reply → Type 0
FitsRequest (request.Fill line) (reply.Line turn bytes) = IsTurn turn
FitsRequest (request.FillCode line) (reply.Line turn bytes) = IsTurn turn
FitsRequest (request.Drain line mask written) (reply.Stored turn bytes) = IsTurn turn
FitsRequest (request.Locked address) (reply.Line turn bytes) = IsTurn turn
FitsRequest (request.Conditional address size value armed) (reply.Stored turn bytes) = IsTurn turn
FitsRequest (request.Conditional address size value armed) (reply.Refused turn) = IsTurn turn
FitsRequest (request.Barrier held) (reply.Barrier turn gone) = IsTurn turn
FitsRequest (request.CodeBarrier held) (reply.Barrier turn gone) = IsTurn turn
FitsRequest (request.Take bank) (reply.Late line turn) = IsTurn turn
FitsRequest (request.Poll low) (reply.Polled pending turn) = IsTurn turn
FitsRequest (request.Signal target) (reply.Signalled turn) = IsTurn turn
FitsRequest (request.Console byte) (reply.Printed turn) = IsTurn turn
FitsRequest _ _ = ⊥

-- the act is allowed, and the answer fits what it asked; one that asks nothing has none
abbrev pub ReplyFits : Option Ask2 → Option Reply → Type 0
ReplyFits (Some ask.Private) None = Unit {0}
ReplyFits (Some (ask.Bus q)) (Some r) = FitsRequest q r
ReplyFits _ _ = ⊥

-- what is kept lies in some memory whose addresses are numbers of 32 bits
pub record IsWithinSome (u : LocalMemory) : Type 0 where
  pub size : ℕ
  pub most : size ≤ 2 ^ 32
  pub within : IsKeptWithin size u

-- a wanted access lies in some memory
pub record IsWantedInSome (w : Option Wanted) : Type 0 where
  pub size : ℕ
  pub within : IsWantedWithin size w

-- the value of an access to memory fits its size
abbrev pub FitsSize : Kind → ℕ → ℕ → Type 0
FitsSize kind.Fetch size value = value < 2 ^ (8 * size)
FitsSize kind.Read size value = value < 2 ^ (8 * size)
FitsSize kind.Write size value = value < 2 ^ (8 * size)
FitsSize kind.Locked size value = value < 2 ^ (8 * size)
FitsSize kind.Conditional size value = value < 2 ^ (8 * size)
FitsSize _ size value = Unit {0}

-- so does what is wanted of one, and what is shown of one
abbrev pub WantsFitting : Option Wanted → Type 0
WantsFitting None = Unit {0}
WantsFitting (Some w) = FitsSize w.kind w.size w.value

abbrev pub ShowsFitting : Outcome → Type 0
ShowsFitting (outcome.Access a) = FitsSize a.kind a.size a.value
ShowsFitting _ = Unit {0}
