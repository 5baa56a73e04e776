-- What an act that is asked for shows: what allowed it, and what its answer cannot be.
use Rattle.std.proofs.Common.{◌≡◌, ℕ, ◌<◌, Bool, true, false, not, ◌&&◌, cond, Option, Some, None, refl}
use Rattle.std.specs.Prelude.{Ok}
use Rattle.std.proofs.lemmas.Bool.{and_parts, not-true}
use Rattle.axp_line.specs.declared.messages.Request.TheVariants as request
use Rattle.axp_access.specs.declared.Act.{Act}
use Rattle.axp_access.specs.declared.Act.TheVariants as act
use Rattle.axp_model.specs.Legal.{is_timely}
use Rattle.axp_lsu.specs.Asking.{act_ask, ask_of}
use Rattle.axp_lsu.specs.Keeping.{has_dropped}
use Rattle.axp_lsu.specs.declared.asks.Ask2.{Ask2}
use Rattle.axp_lsu.specs.declared.asks.Ask2.TheVariants as ask
use Rattle.axp_lsu.specs.declared.since.Since.{Since}
use Rattle.axp_cpu.proofs.ActorLemmas.{asked_ok, steps_left}
use Rattle.axp_cpu.specs.Actors.{Actor, actor_intent, request_of}
use Rattle.axp_cpu.specs.Seats.{Seat, is_finished}

pub some_if : (b : Bool) (x : Option Ask2) (q : Ask2) → cond b x None ≡ Some q → (b ≡ true) × (x ≡ Some q)
some_if true x q h = (refl, h)
some_if false x q h = cc

-- what is asked for may be made now, and has its own condition
pub record IsAsked (a : Actor) (e : Act) (q : Ask2) : Type 0 where
  pub now : is_timely e (is_finished a.seat) a.kept.since.filled ≡ true
  pub asks : act_ask e (actor_intent a) a.kept ≡ Some q

pub is_asked : (a : Actor) (e : Act) (q : Ask2) → request_of a e ≡ Ok q → IsAsked a e q
unfolding request_of ask_of
is_asked a e q h =
    let asks : cond (is_timely e (is_finished a.seat) a.kept.since.filled) (act_ask e (actor_intent a) a.kept) None ≡ Some q = asked_ok (cond (is_timely e (is_finished a.seat) a.kept.since.filled) (act_ask e (actor_intent a) a.kept) None) q h in
    let parts = some_if (is_timely e (is_finished a.seat) a.kept.since.filled) (act_ask e (actor_intent a) a.kept) q asks in
    record { now = parts.0; asks = parts.1 }

-- the bounds that allow an act to a processor with so many steps made: but for a Drain or a Take it has a
-- step left, and did not do the same since its last Step
abbrev pub IsAllowed : Act → ℕ → ℕ → Since → Type 0
IsAllowed act.Step most steps s = steps < most
IsAllowed act.Fill most steps s = (steps < most) × (s.filled ≡ false)
IsAllowed (act.Drain k) most steps s = Unit {0}
IsAllowed (act.Take b) most steps s = Unit {0}
IsAllowed (act.Drop b line) most steps s = (steps < most) × (has_dropped b s ≡ false)
IsAllowed act.Poll most steps s = (steps < most) × (s.polled ≡ false)
IsAllowed act.Tick most steps s = (steps < most) × (s.ticked ≡ false)

now_left : (s : Seat) (filled : Bool) → (not (is_finished s) && not filled) ≡ true → (s.steps < s.budget) × (filled ≡ false)
now_left s filled h =
    let both = and_parts (not (is_finished s)) (not filled) h in
    (steps_left s (not-true (is_finished s) both.0), not-true filled both.1)

pub allowed : (a : Actor) (e : Act) (q : Ask2) → IsAsked a e q → IsAllowed e a.seat.budget a.seat.steps a.kept.since
allowed a act.Step q h = steps_left a.seat (not-true (is_finished a.seat) h.now)
allowed a act.Fill q h = now_left a.seat a.kept.since.filled h.now
allowed a (act.Drain k) q h = tt
allowed a (act.Take b) q h = tt
allowed a (act.Drop b line) q h =
    let asks = some_if _ (Some ask.Private) q h.asks in
    ((now_left a.seat a.kept.since.filled h.now).0, not-true (has_dropped b a.kept.since) (and_parts _ (not (has_dropped b a.kept.since)) asks.0).1)
allowed a act.Poll q h =
    let asks = some_if _ (Some (ask.Bus (request.Poll (actor_intent a).takes_interrupts))) q h.asks in
    ((now_left a.seat a.kept.since.filled h.now).0, not-true a.kept.since.polled (and_parts _ (not a.kept.since.polled) asks.0).1)
allowed a act.Tick q h =
    let asks = some_if _ (Some ask.Private) q h.asks in
    ((now_left a.seat a.kept.since.filled h.now).0, not-true a.kept.since.ticked (and_parts (actor_intent a).takes_interrupts (not a.kept.since.ticked) (and_parts _ ((actor_intent a).takes_interrupts && not a.kept.since.ticked) asks.0).1).1)
