-- A history leaves room: the calls' turns, the console's bytes and the records are few.
use Rattle.std.proofs.Common.{◌≡◌, ℕ, ◌+◌, ◌≤◌, Bool, true, false, cond, eqb, List, [], ◌∷◌, ◌++◌, length, Option, Some, None, arith, refl, sym, subst, ⊎_elim, length-append}
use Rattle.std.specs.Prelude.{Result, Ok, Err}
use Rattle.std.proofs.Math.Nat.{min-le_left}
use Rattle.std.proofs.lemmas.Bool.{cases_Bool}
use Rattle.axp_access.specs.declared.Act.{Act}
use Rattle.axp_access.specs.declared.Act.TheVariants as act
use Rattle.axp_access.specs.declared.Record.{Record}
use Rattle.axp_access.specs.declared.Wanted.{Wanted}
use Rattle.axp_base.specs.Cpus.{cpu_number}
use Rattle.axp_base.specs.declared.processors.Cpu.{Cpu}
use Rattle.axp_base.specs.declared.processors.TheConstants.{MAX_CPUS}
use Rattle.axp_cpu.specs.Actors.{Actor, actor_intent, advanced, moved_by, seat_after}
use Rattle.axp_cpu.specs.Plans.{Plan, End, Want, along}
use Rattle.axp_cpu.specs.Rows.{group}
use Rattle.axp_cpu.specs.Seats.{Seat, plan_now, seat_at_plan}
use Rattle.axp_cpu.specs.declared.refusals.NotLegal.{NotLegal}
use Rattle.axp_image.specs.Contents.{Contents}
use Rattle.axp_line.specs.declared.messages.Reply.{Reply}
use Rattle.axp_lsu.specs.Going.{is_entered, value_of}
use Rattle.axp_cpu.specs.Following.{seat_entered}
use Rattle.axp_lsu.specs.declared.asks.Ask2.{Ask2}
use Rattle.axp_lsu.specs.declared.asks.Ask2.TheVariants as ask
use Rattle.axp_line.specs.BusCalls.{BusCall, console, printed_by}
use Rattle.axp_access.specs.Acts.{is_step}
use Rattle.axp_world.specs.Lengths.{steps_in}
use Rattle.axp_world.specs.Worlds.{World, after_event, asked, calls_for, image_bytes, reply_at, world}
use Rattle.axp_world.proofs.PlayedRecords.{actor_other, actor_own}
use Rattle.axp_bus.proofs.QueueLemmas.{printed_few}

-- a processor's memory has the image's size, and it knows of no more processors than there are
pub record IsOver (image : Contents) (cpus : ℕ) (s : Seat) : Type 0 where
  pub size : s.size ≡ image.size
  pub few : s.cpus ≤ cpus

over_moved : (image : Contents) (cpus : ℕ) (s : Seat) (vs : List ℕ) (p : Plan) → IsOver image cpus s → IsOver image cpus (seat_at_plan s vs p)
over_moved image cpus s vs (End t) over = record { size = over.size; few = over.few }
over_moved image cpus s vs (Want t w k) over = record { size = over.size; few = over.few }

over_by : (image : Contents) (cpus : ℕ) (o : Option Wanted) (r : Option Reply) (a : Actor) → IsOver image cpus a.seat → IsOver image cpus (moved_by o r a)
over_by image cpus None r a over = over_moved image cpus a.seat a.seat.values (plan_now a.seat) over
over_by image cpus (Some w) r a over =
    let values : List ℕ = a.seat.values ++ value_of w a.kept r ∷ [] in over_moved image cpus a.seat values (along values (group a.seat.size a.seat.cpus a.seat.start)) over

over_entered : (image : Contents) (cpus : ℕ) (entered : Bool) (s : Seat) → IsOver image cpus s → IsOver image cpus (seat_entered entered s)
over_entered image cpus true s over = record { size = over.size; few = over.few }
over_entered image cpus false s over = over

over_after : (image : Contents) (cpus : ℕ) (e : Act) (r : Option Reply) (a : Actor) → IsOver image cpus a.seat → IsOver image cpus (seat_after e r a)
over_after image cpus act.Step r a over = over_by image cpus (actor_intent a).wanted r a over
over_after image cpus act.Fill r a over = over
over_after image cpus (act.Drain k) r a over = over
over_after image cpus (act.Take b) r a over = over
over_after image cpus (act.Drop b line) r a over = over
over_after image cpus act.Poll r a over = over_entered image cpus (is_entered (actor_intent a).takes_interrupts r) a.seat over
over_after image cpus act.Tick r a over = record { size = over.size; few = over.few }

over_advanced : (image : Contents) (cpus : ℕ) (a : Actor) (e : Act) (r : Option Reply) → IsOver image cpus a.seat → IsOver image cpus (advanced a e r).seat
unfolding advanced
over_advanced image cpus a e r over = over_after image cpus e r a over

pub seat_over : (image : Contents) (cpus budget : ℕ) (h : List Record) (p : ℕ) → IsOver image cpus ((world image cpus budget h).actors p).seat
seat_over image cpus budget [] p = record { size = refl; few = min-le_left cpus MAX_CPUS }
seat_over image cpus budget (r ∷ h) p =
    let w : World = world image cpus budget h in
    ⊎_elim
    (λ (own : eqb (cpu_number r.event.cpu) p ≡ true). subst (λ (a : Actor). IsOver image cpus a.seat) (sym (actor_own image w r.event p own)) (over_advanced image cpus (w.actors p) r.event.act (reply_at image w r.event) (seat_over image cpus budget h p)))
    (λ (other : eqb (cpu_number r.event.cpu) p ≡ false). subst (λ (a : Actor). IsOver image cpus a.seat) (sym (actor_other image w r.event p other)) (seat_over image cpus budget h p))
    (cases_Bool (eqb (cpu_number r.event.cpu) p))

-- no more steps than records
step_one : (b : Bool) (n k : ℕ) → n ≤ k → cond b (n + 1) n ≤ k + 1
step_one true n k few = omega (arith, few)
step_one false n k few = omega (arith, few)

pub steps_few : (h : List Record) → steps_in h ≤ length h
steps_few [] = omega arith
steps_few (r ∷ h) = let one = step_one (is_step r.event.act) (steps_in h) (length h) (steps_few h) in omega (arith, one)

-- no more bytes on the console than records
console_by : (image : ℕ → ℕ) (cs : List BusCall) (cpu : Cpu) (a : Result Ask2 NotLegal) (n : ℕ) → length (console cs) ≤ n → length (console (calls_for image cs cpu a)) ≤ n + 1
console_by image cs cpu (Err refusal) n few = omega (arith, few)
console_by image cs cpu (Ok ask.Private) n few = omega (arith, few)
console_by image cs cpu (Ok (ask.Bus q)) n few = let sum = length-append (console cs) (printed_by q) in let one = printed_few q in omega (arith, sum, one, few)

pub console_few : (image : Contents) (cpus budget : ℕ) (h : List Record) → length (console (world image cpus budget h).calls) ≤ length h
unfolding after_event
console_few image cpus budget [] = omega arith
console_few image cpus budget (r ∷ h) =
    let w : World = world image cpus budget h in
    let one = console_by (image_bytes image) w.calls r.event.cpu (asked w r.event) (length h) (console_few image cpus budget h) in omega (arith, one)
