-- What an outcome shows of an access is what its instruction goes on with.
use Rattle.std.proofs.Common.{◌≡◌, Bool, Option, Some, None, refl, sym, ap, ◌∙◌}
use Rattle.axp_access.specs.declared.Act.{Act}
use Rattle.axp_access.specs.declared.Act.TheVariants as act
use Rattle.axp_access.specs.declared.Intent.{Intent}
use Rattle.axp_access.specs.declared.Outcome.{Outcome}
use Rattle.axp_access.specs.declared.Place.{Place}
use Rattle.axp_access.specs.declared.Wanted.{Wanted}
use Rattle.axp_base.specs.Lines.{line_of}
use Rattle.axp_base.specs.declared.processors.Cpu.{Cpu}
use Rattle.axp_line.specs.declared.messages.Reply.{Reply}
use Rattle.axp_line.specs.declared.messages.Reply.TheVariants as reply
use Rattle.axp_lsu.specs.Going as going
use Rattle.axp_lsu.specs.Going.{shown_by, success_by}
use Rattle.axp_lsu.specs.Keeping.{LocalMemory}
use Rattle.axp_regs.specs.declared.asks.Kind.{Kind}
use Rattle.axp_regs.specs.declared.asks.Kind.TheVariants as kind
use Rattle.axp_cpu.specs.ActorStands.{IsAt}
use Rattle.axp_cpu.specs.declared.processors.Processor.{Processor}
use Rattle.axp_cpu.specs.Actors as actors
use Rattle.axp_cpu.specs.Actors.{Actor, actor_intent, advanced, outcome_of}
use Rattle.axp_cpu.specs.Following as following
use Rattle.axp_cpu.specs.Seats.{Seat, seat_after_value}

-- what a record shows of an access is what its instruction got
value_same : (k : Kind) (c : Cpu) (w : Wanted) (u : LocalMemory) (r : Option Reply) (at : Place)
    → following.value_by k (record { cpu = c; kind = k; address = w.address; size = w.size; value = shown_by k w u r; yes = success_by k r; place = at }) ≡ going.value_by k w u r
value_same kind.Fetch c w u r at = refl
value_same kind.Read c w u r at = refl
value_same kind.Locked c w u r at = refl
value_same kind.Conditional c w u r at = refl
value_same _ c w u r at = refl

step_same : (o : Option Wanted) (c : Cpu) (r : Option Reply) (a : Actor) → following.seat_after_step (going.step_outcome c o a.kept r) a.seat ≡ actors.moved_by o r a
unfolding going.value_of
step_same None c r a = refl
step_same (Some w) c r a = ap (seat_after_value a.seat) (value_same w.kind c w a.kept r (going.place_by w.kind (line_of w.address) a.kept r))

polled_same : (low : Bool) (r : Option Reply) (s : Seat) → following.seat_after_poll (going.poll_outcome low r) s ≡ following.seat_entered (going.is_entered low r) s
polled_same low (Some (reply.Polled pending turn)) s = refl
polled_same low _ s = refl

act_same : (e : Act) (c : Cpu) (r : Option Reply) (a : Actor) → following.seat_after e (going.outcome_by e c (actor_intent a) a.kept r) a.seat ≡ actors.seat_after e r a
act_same act.Step c r a = step_same (actor_intent a).wanted c r a
act_same act.Poll c r a = polled_same (actor_intent a).takes_interrupts r a.seat
act_same act.Tick c r a = refl
act_same _ c r a = refl

-- so a processor goes on as its outcome shows
pub goes_as_shown : (a : Actor) (e : Act) (r : Option Reply) → (advanced a e r).seat ≡ following.seat_after e (outcome_of a e r) a.seat
unfolding advanced outcome_of going.outcome_of
goes_as_shown a e r = sym (act_same e a.cpu r a)

-- and the processor of the code as the outcome that it tells
pub outcome_shows : (p : Processor) (a : Actor) (e : Act) (r : Option Reply) (i : Intent) (o : Outcome) → IsAt p a → i ≡ actor_intent a → o ≡ going.outcome_of e p.cpu i p.unit r → (advanced a e r).seat ≡ following.seat_after e o a.seat
unfolding outcome_of
outcome_shows p a e r i o at is gives =
    let told : o ≡ outcome_of a e r = gives ∙ ap (λ c. going.outcome_of e c i p.unit r) at.cpu ∙ ap (λ j. going.outcome_of e a.cpu j p.unit r) is ∙ ap (λ u. going.outcome_of e a.cpu (actor_intent a) u r) at.kept in
    goes_as_shown a e r ∙ ap (λ x. following.seat_after e x a.seat) (sym told)
