-- One processor by itself, led by the values that its accesses gave.
use Rattle.std.specs.Prelude.{ℕ, ◌+◌, ◌%◌, min, nat_lt, Bool, ◌&&◌, ◌||◌, nat_le, List, [], ◌∷◌, ◌++◌, Option, Some, None, is_none, is_some, if◌then◌else◌}
use Rattle.axp_access.specs.declared.Intent.{Intent}
use Rattle.axp_access.specs.declared.Wanted.{Wanted}
use Rattle.axp_base.specs.Lists.{is_empty}
use Rattle.axp_base.specs.declared.processors.TheConstants.{MAX_CPUS}
use Rattle.axp_image.specs.Contents.{Contents}
use Rattle.axp_regs.specs.States.{first_state, locked_of, ps_of, with_pc, with_ptbr, with_register}
use Rattle.axp_regs.specs.declared.states.State.{State}
use Rattle.axp_trap.specs.declared.causes.Cause.TheVariants.{Int}
use Rattle.axp_cpu.specs.declared.cpu_states.CpuState.{CpuState}
use Rattle.axp_cpu.specs.CpuStates.{raising}
use Rattle.axp_cpu.specs.Plans.{Plan, End, Want, along, table_in}
use Rattle.axp_cpu.specs.Rows.{arrived, group}

-- where a processor stands: the size of memory, how many processors there are, the budget of steps, the
-- table state at the start of its group, the values that the group's accesses gave so far, and the steps
-- made
pub record Seat : Type 0 where
  pub size : ℕ
  pub cpus : ℕ
  pub budget : ℕ
  pub start : CpuState
  pub values : List ℕ
  pub steps : ℕ

-- the table state at the start: R16 is the processor's number, R30 the image's stack word, and no
-- translation is kept
abbrev pub first_table : Contents → ℕ → CpuState
first_table image p = record {
  state = with_ptbr (with_pc (with_register (with_register (first_state p) 16 p) 30 image.stack) image.entry) image.table;
  halted = None;
  pending = None;
  itb = [];
  dtb = [];
}

-- and the seat; there are at most MAX_CPUS processors
abbrev pub first_seat : Contents → ℕ → ℕ → ℕ → Seat
first_seat image cpus budget p = record { size = image.size; cpus = min cpus MAX_CPUS; budget = budget; start = first_table image p; values = []; steps = 0 }

-- what the group still has to do
abbrev pub plan_now : Seat → Plan
plan_now s = along s.values (group s.size s.cpus s.start)

-- the table state as it is now: fetches are counted and translations kept as they are made, all else changes
-- with the group's end
abbrev pub table_now : Seat → CpuState
table_now s = table_in s.start (plan_now s)

-- halted, or with its budget of steps made
abbrev pub is_finished : Seat → Bool
is_finished s = is_some s.start.halted || nat_le s.budget s.steps

-- the access that a plan wants
abbrev pub wanted_by : Plan → Option Wanted
wanted_by (End t) = None
wanted_by (Want t w k) = Some w

-- the access that the processor wants; None: it is finished, or its group ends with no access
abbrev pub wanted : Seat → Option Wanted
wanted s = if is_finished s then None else wanted_by (plan_now s)

-- the access that it would make with a step left; None: it is halted, or its group ends with no access
abbrev pub next_wanted : Seat → Option Wanted
next_wanted s = if is_some s.start.halted then None else wanted_by (plan_now s)

-- after a step that gave the group its values and left this plan
abbrev pub seat_at_plan : Seat → List ℕ → Plan → Seat
seat_at_plan s values (End t) = record { size = s.size; cpus = s.cpus; budget = s.budget; start = arrived s.size t; values = []; steps = s.steps + 1 }
seat_at_plan s values (Want t w k) = record { size = s.size; cpus = s.cpus; budget = s.budget; start = s.start; values = values; steps = s.steps + 1 }

-- after a step whose access gave this value
abbrev pub seat_after_value : Seat → ℕ → Seat
seat_after_value s v = seat_at_plan s (s.values ++ v ∷ []) (along (s.values ++ v ∷ []) (group s.size s.cpus s.start))

-- after a step that made no access
abbrev pub seat_after_none : Seat → Seat
seat_after_none s = seat_at_plan s s.values (plan_now s)

-- after an interrupt with this code, at a boundary: its entry begins at once, and halts the processor where
-- its frame cannot be written; it is no step
abbrev pub seat_interrupted : ℕ → Seat → Seat
seat_interrupted code s = record { size = s.size; cpus = s.cpus; budget = s.budget; start = arrived s.size (raising (Int code) s.start); values = []; steps = s.steps }

-- the interrupt level: the three low bits of PS
abbrev pub interrupt_level : State → ℕ
interrupt_level s = ps_of s % 8

-- at a boundary no access of its group is made yet, and it is not about to enter the operating system
abbrev pub is_at_boundary : Seat → Bool
is_at_boundary s = is_empty s.values && is_none s.start.pending

-- what the processor is about to do: it takes interrupts below level 5
abbrev pub intent_of : Seat → Intent
intent_of s = record {
  finished = is_finished s;
  boundary = is_at_boundary s;
  takes_interrupts = nat_lt (interrupt_level s.start.state) 5;
  lock_flag = locked_of s.start.state;
  wanted = wanted s;
}
