-- What follows where an answer fits what was asked.
use Rattle.std.proofs.Common.{ℕ, zero, suc, ◌<◌, Bool, true, false, cond, List, [], ◌∷◌, length, Some, None, arith}
use Rattle.std.specs.Prelude.{Option, slice_get}
use Rattle.axp_line.specs.declared.messages.Reply.{Reply}
use Rattle.axp_line.specs.declared.messages.Reply.TheVariants as reply
use Rattle.axp_line.specs.declared.messages.Request.{Request}
use Rattle.axp_line.specs.declared.messages.Request.TheVariants as request
use Rattle.axp_wbuf.specs.Pending.{Pending}
use Rattle.axp_access.specs.declared.Act.{Act}
use Rattle.axp_access.specs.declared.Intent.{Intent}
use Rattle.axp_model.specs.Legal.{is_timely}
use Rattle.axp_lsu.specs.declared.asks.Ask2.{Ask2}
use Rattle.axp_lsu.specs.declared.asks.Ask2.TheVariants as ask
use Rattle.axp_lsu.specs.Asking.{act_ask, ask_of, drain_ask}
use Rattle.axp_lsu.specs.Fitting.{ReplyFits, FitsRequest, IsTurn}
use Rattle.axp_lsu.specs.Going.{turn_in}
use Rattle.axp_lsu.specs.Keeping.{LocalMemory}

pub none_fits : (r : Option Reply) → ReplyFits None r → ⊥
none_fits None h = h
none_fits (Some r) h = h

pub fits_if : (b : Bool) (o : Option Ask2) (r : Option Reply) → ReplyFits (cond b o None) r → ReplyFits o r
fits_if true o r h = h
fits_if false o r h = absurd (none_fits r h)

-- an act that is allowed now is allowed
pub act_fits : (a : Act) (i : Intent) (u : LocalMemory) (r : Option Reply) → ReplyFits (ask_of a i u) r → ReplyFits (act_ask a i u) r
unfolding ask_of
act_fits a i u r h = fits_if (is_timely a i.finished u.since.filled) (act_ask a i u) r h

pub drain_fits : (es : List Pending) (k : ℕ) (r : Option Reply) → ReplyFits (drain_ask (slice_get es k)) r → k < length es
drain_fits [] k r h = absurd (none_fits r h)
drain_fits (e ∷ es) zero r h = omega arith
drain_fits (e ∷ es) (suc k) r h = let inside = drain_fits es k r h in omega arith

-- the turn that a fitting answer names is a number of 32 bits
request_turn : (q : Request) (r : Reply) → FitsRequest q r → IsTurn (turn_in (Some r))
request_turn (request.Fill line) (reply.Line turn bytes) h = h
request_turn (request.FillCode line) (reply.Line turn bytes) h = h
request_turn (request.Drain line mask written) (reply.Stored turn bytes) h = h
request_turn (request.Locked address) (reply.Line turn bytes) h = h
request_turn (request.Conditional address size value armed) (reply.Stored turn bytes) h = h
request_turn (request.Conditional address size value armed) (reply.Refused turn) h = h
request_turn (request.Barrier held) (reply.Barrier turn gone) h = h
request_turn (request.CodeBarrier held) (reply.Barrier turn gone) h = h
request_turn (request.Take bank) (reply.Late line turn) h = h
request_turn (request.Poll low) (reply.Polled pending turn) h = h
request_turn (request.Signal target) (reply.Signalled turn) h = h
request_turn (request.Console byte) (reply.Printed turn) h = h
request_turn _ _ h = absurd h

pub fits_turn : (o : Option Ask2) (r : Option Reply) → ReplyFits o r → IsTurn (turn_in r)
fits_turn (Some ask.Private) None h = omega arith
fits_turn (Some (ask.Bus q)) (Some r) h = request_turn q r h
fits_turn _ _ h = absurd h
