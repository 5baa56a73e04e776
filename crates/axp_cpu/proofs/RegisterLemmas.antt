-- No processor gets or loses a register.
use Rattle.std.proofs.Common.{ℕ, Bool, true, false, List, [], ◌∷◌, ◌++◌, refl}
use Rattle.std.proofs.lemmas.Bool.{cond_both}
use Rattle.axp_access.specs.declared.Act.{Act}
use Rattle.axp_access.specs.declared.Act.TheVariants as act
use Rattle.axp_access.specs.declared.Outcome.{Outcome}
use Rattle.axp_access.specs.declared.Outcome.TheVariants as outcome
use Rattle.axp_access.specs.declared.Record.{Record}
use Rattle.axp_image.specs.Contents.{Contents}
use Rattle.axp_model.specs.Records.{is_of}
use Rattle.axp_regs.specs.States.{first_state, with_register}
use Rattle.axp_regs.specs.declared.states.TheConstants.{REGISTERS}
use Rattle.axp_cpu.specs.Following.{seat_after, seat_after_poll, seat_after_step, seat_entered, seat_in, value_shown}
use Rattle.axp_trap.specs.declared.causes.Cause.TheVariants.{Int}
use Rattle.axp_trap.specs.declared.causes.TheConstants.{CLOCK, INTERPROCESSOR}
use Rattle.axp_cpu.specs.CpuStates.{raising}
use Rattle.axp_cpu.specs.Plans.{Plan, End, Want, along}
use Rattle.axp_cpu.specs.Rows.{group}
use Rattle.axp_cpu.specs.Seats.{Seat, seat_at_plan}
use Rattle.axp_cpu.proofs.KeepingLemmas.{Has, Keeps, along_keeps, arrived_has, group_keeps, written_has}

moved_has : (n : ℕ) (s : Seat) (vs : List ℕ) (p : Plan) → Has n s.start.state → Keeps n p → Has n (seat_at_plan s vs p).start.state
moved_has n s vs (End t) has ends = arrived_has s.size n t ends
moved_has n s vs (Want t w k) has ends = has

stepped_has : (n : ℕ) (s : Seat) (vs : List ℕ) → Has n s.start.state → Has n (seat_at_plan s vs (along vs (group s.size s.cpus s.start))).start.state
stepped_has n s vs has = moved_has n s vs (along vs (group s.size s.cpus s.start)) has (along_keeps n vs (group s.size s.cpus s.start) (group_keeps s.size s.cpus s.start n has))

shown_has : (n : ℕ) (o : Outcome) (s : Seat) → Has n s.start.state → Has n (seat_after_step o s).start.state
shown_has n (outcome.Access a) s has = stepped_has n s (s.values ++ value_shown a ∷ []) has
shown_has n outcome.NoAccess s has = stepped_has n s s.values has
shown_has n _ s has = has

entered_has : (n : ℕ) (entered : Bool) (s : Seat) → Has n s.start.state → Has n (seat_entered entered s).start.state
entered_has n true s has = arrived_has s.size n (raising (Int INTERPROCESSOR) s.start) has
entered_has n false s has = has

polled_has : (n : ℕ) (o : Outcome) (s : Seat) → Has n s.start.state → Has n (seat_after_poll o s).start.state
polled_has n (outcome.Polled pending entered turn) s has = entered_has n entered s has
polled_has n _ s has = has

acted_has : (n : ℕ) (e : Act) (o : Outcome) (s : Seat) → Has n s.start.state → Has n (seat_after e o s).start.state
acted_has n act.Step o s has = shown_has n o s has
acted_has n act.Poll o s has = polled_has n o s has
acted_has n act.Tick o s has = arrived_has s.size n (raising (Int CLOCK) s.start) has
acted_has n _ o s has = has

first_has : (p a b v w : ℕ) → Has REGISTERS (with_register (with_register (first_state p) a v) b w)
first_has p a b v w = written_has (with_register (first_state p) a v) REGISTERS b w (written_has (first_state p) REGISTERS a v refl)

pub seat_in_has : (image : Contents) (cpus budget p : ℕ) (h : List Record) → Has REGISTERS (seat_in image cpus budget p h).start.state
seat_in_has image cpus budget p [] = first_has p 16 30 p image.stack
seat_in_has image cpus budget p (r ∷ h) =
    let before = seat_in_has image cpus budget p h in
    cond_both (is_of p r) (seat_after r.event.act r.outcome (seat_in image cpus budget p h)) (seat_in image cpus budget p h) (λ (s : Seat). Has REGISTERS s.start.state) (λ _. acted_has REGISTERS r.event.act r.outcome (seat_in image cpus budget p h) before) (λ _. before)
