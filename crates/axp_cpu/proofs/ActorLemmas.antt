-- A processor is its sequencer and what it keeps: both go on together.
use Rattle.std.proofs.Common.{◌≡◌, ℕ, ◌+◌, ◌<◌, ◌≤◌, ◌&&◌, Bool, true, false, not, cond, leb, List, [], ◌∷◌, ◌++◌, Option, Some, None, refl, sym, ap, ◌∙◌, subst, arith}
use Rattle.std.proofs.lemmas.Bool.{leb-false, or_parts}
use Rattle.std.specs.Prelude.{IfSome, Ok, is_some, Result, IfOk}
use Rattle.std.specs.Option.{ok_or}
use Rattle.axp_cpu.specs.declared.refusals.NotLegal.{NotLegal}
use Rattle.axp_access.specs.declared.Act.{Act}
use Rattle.axp_access.specs.declared.Act.TheVariants as act
use Rattle.axp_access.specs.declared.Intent.{Intent}
use Rattle.axp_base.specs.declared.processors.Cpu.{Cpu}
use Rattle.axp_base.specs.declared.processors.TheConstants.{MAX_BUDGET}
use Rattle.axp_base.specs.Cpus.{cpu_number}
use Rattle.axp_image.specs.Contents.{Contents}
use Rattle.axp_line.specs.declared.messages.Reply.{Reply}
use Rattle.axp_lsu.proofs.EntryCountLemmas.{advanced-made, most_made}
use Rattle.axp_lsu.specs.Asking.{ask_of, step_ask}
use Rattle.axp_lsu.specs.Fitting.{ReplyFits, FitsSize, IsWantedInSome, WantsFitting}
use Rattle.axp_lsu.specs.Going.{is_entered, value_of}
use Rattle.axp_lsu.specs.Going as going
use Rattle.axp_lsu.specs.Keeping.{LocalMemory, empty_memory}
use Rattle.axp_lsu.specs.Within.{IsAskWithin, IsKeptWithin, IsWantedBy, IsWantedWithin}
use Rattle.axp_lsu.specs.declared.asks.Ask2.{Ask2}
use Rattle.axp_cpu.specs.declared.sequencers.Sequencer.{Sequencer}
use Rattle.axp_cpu.specs.declared.processors.Processor.{Processor}
use Rattle.axp_cpu.specs.Actors.{Actor, actor_intent, advanced, asked_or_refused, first_actor, moved_by, request_of, seat_after}
use Rattle.axp_cpu.specs.ActorStands.{IsAnswered, IsAt, IsMovable, is_interrupt}
use Rattle.axp_cpu.specs.Following.{seat_entered}
use Rattle.axp_model.specs.Legal.{is_timely}
use Rattle.axp_cpu.specs.Plans.{Plan, End, Want, along}
use Rattle.axp_cpu.specs.Rows.{group}
use Rattle.axp_cpu.specs.Seats.{Seat, first_seat, is_at_boundary, is_finished, plan_now, wanted, seat_at_plan}
use Rattle.axp_cpu.specs.Seats as seats
use Rattle.axp_cpu.specs.Stands.{IsMakeable, Stands}
use Rattle.axp_cpu.specs.Phases.{FitsKind}
use Rattle.axp_cpu.specs.Soundness.{IsSound, IsSoundAs}
use Rattle.axp_cpu.proofs.SeatLemmas.{finished_is, seat_sound}
use Rattle.axp_access.specs.declared.Wanted.{Wanted}
use Rattle.axp_regs.specs.declared.asks.Kind.{Kind}
use Rattle.axp_regs.specs.declared.asks.Kind.TheVariants as kind

-- an access of the instruction table lies in memory, if it is one of memory
wanted_by : (size cpus : ℕ) (k : Kind) (w : Wanted) → IsSoundAs size cpus k w → IsWantedBy size k w
wanted_by size cpus kind.Fetch w sound = sound.inside
wanted_by size cpus kind.Read w sound = sound
wanted_by size cpus kind.Write w sound = sound
wanted_by size cpus kind.Locked w sound = sound
wanted_by size cpus kind.Conditional w sound = sound
wanted_by size cpus _ w sound = tt

pub wanted_within : (size cpus : ℕ) (o : Option Wanted) → IfSome o (IsMakeable size cpus) → IsWantedWithin size o
wanted_within size cpus None can = tt
wanted_within size cpus (Some w) can = wanted_by size cpus w.kind w can.inside

-- and its value fits its size
small_fits : (k : Kind) (size value : ℕ) → FitsKind k size value → FitsSize k size value
small_fits kind.Fetch size value small = small
small_fits kind.Read size value small = small
small_fits kind.Write size value small = small
small_fits kind.Locked size value small = small
small_fits kind.Conditional size value small = small
small_fits _ size value small = tt

pub wanted_fits : (size cpus : ℕ) (o : Option Wanted) → IfSome o (IsMakeable size cpus) → WantsFitting o
wanted_fits size cpus None can = tt
wanted_fits size cpus (Some w) can = small_fits w.kind w.size w.value can.small

-- the access that a processor wants is its plan's
wanted_parts : (s : Seat) (w : Wanted) (finished : Bool) → cond finished None (seats.wanted_by (plan_now s)) ≡ Some w → seats.wanted_by (plan_now s) ≡ Some w
wanted_parts s w true e = cc
wanted_parts s w false e = e

plan_sound : (size cpus : ℕ) (p : Plan) (w : Wanted) → seats.wanted_by p ≡ Some w → IsSound size cpus p → IsSoundAs size cpus w.kind w
plan_sound size cpus (End t) w e sound = cc
plan_sound size cpus (Want t x k) w e sound = let same : x ≡ w = cc in subst (λ (y : Wanted). IsSoundAs size cpus y.kind y) same sound.0

pub wanted_sound : (q : Sequencer) (s : Seat) (w : Wanted) → Stands q s → wanted s ≡ Some w → IsSoundAs s.size s.cpus w.kind w
wanted_sound q s w stands e = plan_sound s.size s.cpus (plan_now s) w (wanted_parts s w (is_finished s) e) (seat_sound q s stands)

-- and then it is not finished
pub unfinished : (s : Seat) (w : Wanted) → wanted s ≡ Some w → is_finished s ≡ false
unfinished s w e = by (is_finished s) e where
  by : (finished : Bool) → cond finished None (seats.wanted_by (plan_now s)) ≡ Some w → finished ≡ false
  by true e = cc
  by false e = refl

-- a wanted access lies in the memory of the processor's seat
pub wanted_in_some : (p : Processor) (e : Act) (i : Intent) → IsMovable p e i → (w : Wanted) → i.wanted ≡ Some w → IsWantedInSome (Some w)
wanted_in_some p e i can w is = record {
  size = can.actor.seat.size;
  within = wanted_by can.actor.seat.size can.actor.seat.cpus w.kind w (wanted_sound p.sequencer can.actor.seat w can.at.seat (sym (ap (λ (j : Intent). j.wanted) (can.intends can.actor can.at)) ∙ is));
}

-- what was asked for is legal
pub asked_ok : (o : Option Ask2) (q : Ask2) → asked_or_refused o ≡ Ok q → o ≡ Some q
asked_ok None q e = cc
asked_ok (Some x) q e = let same : x ≡ q = cc in ap (λ y. Some y) same

pub was_asked : (a : Actor) (e : Act) (q : Ask2) → request_of a e ≡ Ok q → ask_of e (actor_intent a) a.kept ≡ Some q
unfolding request_of
was_asked a e q asked = asked_ok (ask_of e (actor_intent a) a.kept) q asked

-- and what a legal act asks lies in memory
pub asked_within : (size : ℕ) (o : Option Ask2) (e : NotLegal) (r : Result Ask2 NotLegal) → r ≡ ok_or o e → IfSome o (IsAskWithin size) → IfOk r (IsAskWithin size)
asked_within size None e r is within = rw is tt
asked_within size (Some q) e r is within = rw is within

-- a step that was asked for is not made by a finished processor
asked_going : (finished : Bool) (o : Option Ask2) (q : Ask2) → cond (not finished) o None ≡ Some q → finished ≡ false
asked_going true o q e = cc
asked_going false o q e = refl

step_going : (i : Intent) (u : LocalMemory) (q : Ask2) → ask_of act.Step i u ≡ Some q → i.finished ≡ false
unfolding ask_of
step_going i u q e = asked_going i.finished (step_ask i.boundary i.wanted i.lock_flag u) q e

pub was_going : (a : Actor) (e : Act) (q : Ask2) → request_of a e ≡ Ok q → e ≡ act.Step → is_finished a.seat ≡ false
was_going a e q asked is = step_going (actor_intent a) a.kept q (ap (λ x. ask_of x (actor_intent a) a.kept) (sym is) ∙ was_asked a e q asked)

-- an interrupt that was asked for comes at a boundary
at_boundary : (timely boundary more : Bool) (o : Option Ask2) (q : Ask2) → cond timely (cond (boundary && more) o None) None ≡ Some q → boundary ≡ true
at_boundary true true more o q e = refl
at_boundary true false more o q e = cc
at_boundary false boundary more o q e = cc

interrupts_at_boundary : (e : Act) (i : Intent) (u : LocalMemory) (q : Ask2) → is_interrupt e ≡ true → ask_of e i u ≡ Some q → i.boundary ≡ true
unfolding ask_of
interrupts_at_boundary act.Poll i u q is asked = at_boundary (is_timely act.Poll i.finished u.since.filled) i.boundary (not u.since.polled) _ q asked
interrupts_at_boundary act.Tick i u q is asked = at_boundary (is_timely act.Tick i.finished u.since.filled) i.boundary (i.takes_interrupts && not u.since.ticked) _ q asked
interrupts_at_boundary _ i u q is asked = cc

pub was_at_boundary : (a : Actor) (e : Act) (q : Ask2) → request_of a e ≡ Ok q → is_interrupt e ≡ true → is_at_boundary a.seat ≡ true
was_at_boundary a e q asked is = interrupts_at_boundary e (actor_intent a) a.kept q is (was_asked a e q asked)

-- the processor can be moved by what was asked for
pub movable : (p : Processor) (e : Act) (r : Option Reply) (i : Intent) → IsAnswered p e r → ((a : Actor) → IsAt p a → i ≡ actor_intent a) → IsMovable p e i
movable p e r i x intends = record {
  actor = x.actor;
  at = x.at;
  intends = intends;
  unfinished = was_going x.actor e x.ask x.asked;
  boundary = was_at_boundary x.actor e x.ask x.asked;
}

-- whichever seat the processor stands at
pub was_going_at : (p : Processor) (e : Act) (r : Option Reply) (a : Actor) → IsAnswered p e r → IsAt p a → e ≡ act.Step → is_finished a.seat ≡ false
was_going_at p e r a x at is = sym (finished_is p.sequencer a.seat at.seat) ∙ finished_is p.sequencer x.actor.seat x.at.seat ∙ was_going x.actor e x.ask x.asked is

pub fits_is : (p : Processor) (e : Act) (r : Option Reply) (i : Intent) → (x : IsAnswered p e r) → i ≡ actor_intent x.actor → ReplyFits (ask_of e i p.unit) r
fits_is p e r i x is =
    let asked : ask_of e i p.unit ≡ Some x.ask = ap (λ j. ask_of e j p.unit) is ∙ ap (ask_of e (actor_intent x.actor)) x.at.kept ∙ was_asked x.actor e x.ask x.asked in
    subst (λ o. ReplyFits o r) (sym asked) x.fits

-- a processor at the start
pub first_at : (image : Contents) (cpus budget : ℕ) (cpu : Cpu) (q : Sequencer) (u : LocalMemory) → Stands q (first_seat image cpus budget (cpu_number cpu)) → u ≡ empty_memory → budget ≤ MAX_BUDGET
    → IsAt (record { cpu = cpu; sequencer = q; unit = u }) (first_actor image cpus budget cpu)
first_at image cpus budget cpu q u stands none few = record {
  cpu = refl;
  seat = stands;
  kept = none;
  within = record { entries = tt; even = tt; odd = tt; code = tt; barrier = omega arith };
  made = omega arith;
  steps = omega arith;
  budget = few;
}

-- a seat's memory and budget stay, and each step is counted
moved_parts : (s : Seat) (vs : List ℕ) (p : Plan) → ((seat_at_plan s vs p).size ≡ s.size) × ((seat_at_plan s vs p).budget ≡ s.budget) × ((seat_at_plan s vs p).steps ≡ s.steps + 1)
moved_parts s vs (End t) = (refl, refl, refl)
moved_parts s vs (Want t w k) = (refl, refl, refl)

stepped_parts : (o : Option Wanted) (r : Option Reply) (a : Actor) → ((moved_by o r a).size ≡ a.seat.size) × ((moved_by o r a).budget ≡ a.seat.budget) × ((moved_by o r a).steps ≡ a.seat.steps + 1)
stepped_parts None r a = moved_parts a.seat a.seat.values (plan_now a.seat)
stepped_parts (Some w) r a =
    let vs = a.seat.values ++ value_of w a.kept r ∷ [] in
    moved_parts a.seat vs (along vs (group a.seat.size a.seat.cpus a.seat.start))

-- an entry is no step
entered_parts : (entered : Bool) (s : Seat) → ((seat_entered entered s).size ≡ s.size) × (((seat_entered entered s).budget ≡ s.budget) × ((seat_entered entered s).steps ≡ s.steps))
entered_parts true s = (refl, (refl, refl))
entered_parts false s = (refl, (refl, refl))

seat_size : (e : Act) (r : Option Reply) (a : Actor) → ((seat_after e r a).size ≡ a.seat.size) × ((seat_after e r a).budget ≡ a.seat.budget)
seat_size act.Poll r a = let parts = entered_parts (is_entered (actor_intent a).takes_interrupts r) a.seat in (parts.0, parts.1.0)
seat_size act.Tick r a = (refl, refl)
seat_size act.Step r a = let parts = stepped_parts (actor_intent a).wanted r a in (parts.0, parts.1)
seat_size _ r a = (refl, refl)

-- a step of a processor that is not finished stays in the budget
pub steps_left : (s : Seat) → is_finished s ≡ false → s.steps < s.budget
steps_left s e = leb-false s.budget s.steps (or_parts (is_some s.start.halted) (leb s.budget s.steps) e).1

seat_steps : (e : Act) (r : Option Reply) (a : Actor) → (e ≡ act.Step → is_finished a.seat ≡ false) → a.seat.steps ≤ a.seat.budget → (seat_after e r a).steps ≤ (seat_after e r a).budget
seat_steps e r a going few = rw (seat_size e r a).1 (by_act e going) where
  by_act : (e : Act) → (e ≡ act.Step → is_finished a.seat ≡ false) → (seat_after e r a).steps ≤ a.seat.budget
  by_act act.Step going = omega (arith, (stepped_parts (actor_intent a).wanted r a).2, steps_left a.seat (going refl))
  by_act act.Poll going = rw (entered_parts (is_entered (actor_intent a).takes_interrupts r) a.seat).1.1 few
  by_act act.Tick going = few
  by_act _ going = few

-- at most one entry is made by a step
stepped_count : (o : Option Wanted) (r : Option Reply) (a : Actor) → a.seat.steps + cond (is_some o) 1 0 ≤ (moved_by o r a).steps
stepped_count None r a = omega (arith, (stepped_parts None r a).2)
stepped_count (Some w) r a = omega (arith, (stepped_parts (Some w) r a).2)

steps_after : (e : Act) (r : Option Reply) (a : Actor) → a.seat.steps + most_made e (actor_intent a).wanted ≤ (seat_after e r a).steps
steps_after act.Step r a = stepped_count (actor_intent a).wanted r a
steps_after act.Poll r a = omega (arith, (entered_parts (is_entered (actor_intent a).takes_interrupts r) a.seat).1.1)
steps_after act.Tick r a = omega arith
steps_after _ r a = omega arith

made_after : (e : Act) (r : Option Reply) (a : Actor) → a.kept.buffer.made ≤ a.seat.steps → (going.advanced e (actor_intent a) r a.kept).buffer.made ≤ (seat_after e r a).steps
made_after e r a made = omega (arith, made, advanced-made e (actor_intent a) r a.kept, steps_after e r a)

-- the processor after an act is the one that the definitions have
pub at_after : (p q : Processor) (e : Act) (r : Option Reply) (i : Intent) (a : Actor) → IsAnswered p e r → IsAt p a → i ≡ actor_intent a → q.cpu ≡ p.cpu → Stands q.sequencer (seat_after e r a) → q.unit ≡ going.advanced e i r p.unit → IsKeptWithin a.seat.size q.unit → IsAt q (advanced a e r)
unfolding advanced
at_after p q e r i a answered at is cpu stands unit within =
    let same : q.unit ≡ going.advanced e (actor_intent a) r a.kept = unit ∙ ap (λ j. going.advanced e j r p.unit) is ∙ ap (going.advanced e (actor_intent a) r) at.kept in
    record {
      cpu = cpu ∙ at.cpu;
      seat = stands;
      kept = same;
      within = subst (λ n. IsKeptWithin n (going.advanced e (actor_intent a) r a.kept)) (sym (seat_size e r a).0) (subst (IsKeptWithin a.seat.size) same within);
      made = made_after e r a at.made;
      steps = seat_steps e r a (was_going_at p e r a answered at) at.steps;
      budget = rw (seat_size e r a).1 at.budget;
    }

pub kept_within : (p : Processor) (a : Actor) → IsAt p a → IsKeptWithin a.seat.size p.unit
kept_within p a at = subst (IsKeptWithin a.seat.size) (sym at.kept) at.within
