-- What the spelling of an event and its outcome says of their parts.
use Rattle.std.proofs.Common.{◌≡◌, ℕ, ◌^◌, ◌<◌, refl, subst}
use Rattle.axp_access.specs.Spelling.{IsPlaced, IsBuffered, IsSpelledAs, IsSpelled, IsOutcomeOf, Spells}
use Rattle.axp_access.specs.declared.Access.{Access}
use Rattle.axp_access.specs.declared.Act.{Act}
use Rattle.axp_access.specs.declared.Act.TheVariants as act
use Rattle.axp_access.specs.declared.Event.{Event}
use Rattle.axp_access.specs.declared.Outcome.TheVariants as outcome
use Rattle.axp_access.specs.declared.Place.{Place}
use Rattle.axp_access.specs.declared.Place.TheVariants.{At}
use Rattle.axp_regs.specs.declared.asks.Kind.{Kind}
use Rattle.axp_regs.specs.declared.asks.Kind.TheVariants as kind

placed : (p : Place) (turn : ℕ) → IsPlaced p → p ≡ At turn → turn < 2 ^ 32
placed p turn h e = subst IsPlaced e h

buffered : (p : Place) (turn : ℕ) → IsBuffered p → p ≡ At turn → turn < 2 ^ 32
buffered p turn h e = absurd (subst IsBuffered e h)

short_turn : (k : Kind) (a : Access) (turn : ℕ) → IsSpelledAs k a → a.place ≡ At turn → turn < 2 ^ 32
short_turn kind.Fetch a turn h e = placed a.place turn h.1.1 e
short_turn kind.Read a turn h e = placed a.place turn h.1.1 e
short_turn kind.Write a turn h e = buffered a.place turn h.1.1 e
short_turn kind.Locked a turn h e = placed a.place turn h.1.1 e
short_turn kind.Conditional a turn h e = placed a.place turn h.1 e
short_turn kind.Barrier a turn h e = placed a.place turn h.1.1.1 e
short_turn kind.WriteBarrier a turn h e = let none = h.1.1.1 in cc
short_turn kind.CodeBarrier a turn h e = placed a.place turn h.1.1.1 e
short_turn kind.Signal a turn h e = placed a.place turn h.1.1.1 e
short_turn kind.Console a turn h e = placed a.place turn h.1.1.1 e
short_turn kind.Poll a turn h e = absurd h

-- the turn at which an access stands is printed whole
pub turn_of_access : (a : Access) (turn : ℕ) → IsSpelled a → a.place ≡ At turn → turn < 2 ^ 32
turn_of_access a turn h e = short_turn a.kind a turn h e

access_is_step : (does : Act) (e : Event) (a : Access) → IsOutcomeOf does e (outcome.Access a) → does ≡ act.Step
access_is_step act.Step e a h = refl
access_is_step act.Fill e a h = absurd h
access_is_step (act.Drain k) e a h = absurd h
access_is_step (act.Take b) e a h = absurd h
access_is_step (act.Drop b l) e a h = absurd h
access_is_step act.Poll e a h = absurd h
access_is_step act.Tick e a h = absurd h

-- an access comes of a step
pub step_of_access : (e : Event) (a : Access) → Spells e (outcome.Access a) → e.act ≡ act.Step
step_of_access e a h = access_is_step e.act e a h.1
