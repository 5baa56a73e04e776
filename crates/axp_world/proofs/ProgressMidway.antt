-- Within a group, and before an entry to the operating system, an access is wanted.
use Rattle.std.proofs.Common.{◌≡◌, ⊎_elim, ℕ, Bool, true, false, ◌&&◌, is_none, List, [], ◌∷◌, ◌++◌, Option, Some, None, is_some, refl, sym, ap, ◌∙◌}
use Rattle.axp_access.specs.declared.Act.{Act}
use Rattle.axp_access.specs.declared.Act.TheVariants as act
use Rattle.axp_access.specs.declared.Wanted.{Wanted}
use Rattle.axp_cpu.specs.Actors.{Actor, actor_intent, advanced, moved_by}
use Rattle.axp_cpu.specs.Plans.{Plan, End, Want, along}
use Rattle.axp_cpu.specs.Rows.{arrived, group}
use Rattle.axp_cpu.specs.Seats.{Seat, is_at_boundary, seat_at_plan, seat_interrupted, plan_now, wanted_by}
use Rattle.axp_cpu.proofs.EnteringLemmas.{arrives}
use Rattle.axp_line.specs.declared.messages.Reply.{Reply}
use Rattle.axp_lsu.specs.Going.{is_entered, value_of}
use Rattle.axp_cpu.specs.Following.{seat_entered}
use Rattle.axp_cpu.specs.declared.cpu_states.CpuState.{CpuState}

abbrev pub WantsWithin : Seat → Type 0
WantsWithin s = is_at_boundary s ≡ false → is_some (wanted_by (plan_now s)) ≡ true

-- a group ends
ended_wants : (s : Seat) (vs : List ℕ) (t : CpuState) → WantsWithin (seat_at_plan s vs (End t))
ended_wants s vs t = λ within. ⊎_elim
    (λ (made : (arrived s.size t).pending ≡ None). let never : true ≡ false = sym (ap (λ o. true && is_none o) made) ∙ within in cc)
    (λ (wants : is_some (wanted_by (group s.size s.cpus (arrived s.size t))) ≡ true). wants)
    (arrives s.size s.cpus t)

-- an interrupt's entry begins
interrupted_wants : (code : ℕ) (s : Seat) → WantsWithin (seat_interrupted code s)
interrupted_wants code s = ended_wants s [] _

entered_wants : (entered : Bool) (s : Seat) → WantsWithin s → WantsWithin (seat_entered entered s)
entered_wants true s was = interrupted_wants _ s
entered_wants false s was = was

-- a plan goes on
moved_wants : (s : Seat) (vs : List ℕ) (p : Plan) → along vs (group s.size s.cpus s.start) ≡ p → WantsWithin (seat_at_plan s vs p)
moved_wants s vs (End t) is = ended_wants s vs t
moved_wants s vs (Want t w k) is = λ within. ap (λ (x : Plan). is_some (wanted_by x)) is

moved_by_wants : (o : Option Wanted) (a : Actor) (t : Option Reply) → WantsWithin (moved_by o t a)
moved_by_wants None a t = moved_wants a.seat a.seat.values (plan_now a.seat) refl
moved_by_wants (Some w) a t =
    let vs : List ℕ = a.seat.values ++ value_of w a.kept t ∷ [] in moved_wants a.seat vs (along vs (group a.seat.size a.seat.cpus a.seat.start)) refl

pub act_wants : (e : Act) (a : Actor) (t : Option Reply) → WantsWithin a.seat → WantsWithin (advanced a e t).seat
unfolding advanced
act_wants act.Step a t was = moved_by_wants (actor_intent a).wanted a t
act_wants act.Fill a t was = was
act_wants (act.Drain k) a t was = was
act_wants (act.Take b) a t was = was
act_wants (act.Drop b line) a t was = was
act_wants act.Poll a t was = entered_wants (is_entered (actor_intent a).takes_interrupts t) a.seat was
act_wants act.Tick a t was = interrupted_wants _ a.seat
