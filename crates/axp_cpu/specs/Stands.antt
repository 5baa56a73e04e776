-- How a processor of the code stands for a seat.
use Rattle.std.specs.Prelude.{is_none, ◌≡◌, ℕ, ◌%◌, ◌≤◌, true, false, Option, Some, None}
use Rattle.axp_access.specs.declared.Wanted.{Wanted}
use Rattle.axp_image.specs.declared.limits.TheConstants.{MAX_MEMORY, PAGE_BYTES}
use Rattle.axp_base.specs.declared.processors.TheConstants.{MAX_CPUS}
use Rattle.axp_regs.specs.States.{with_fetched}
use Rattle.axp_cpu.specs.declared.phases.Stage.{Stage}
use Rattle.axp_cpu.specs.declared.sequencers.Sequencer.{Sequencer}
use Rattle.axp_cpu.specs.declared.cpu_states.CpuState.{CpuState}
use Rattle.axp_base.specs.Lists.{is_empty}
use Rattle.axp_cpu.specs.Phases.{Fits, FitsKind, after}
use Rattle.axp_cpu.specs.Plans.{Plan, Want}
use Rattle.axp_cpu.specs.Rows.{group}
use Rattle.axp_cpu.specs.Seats.{Seat, is_at_boundary, is_finished, plan_now, table_now, wanted}
use Rattle.axp_cpu.specs.Soundness.{IsSettled, IsSoundAs}

-- what a processor's group still has to do
abbrev pub left_by : ℕ → ℕ → CpuState → Option (Wanted × Stage) → Plan
left_by size cpus t None = group size cpus t
left_by size cpus t (Some (w, stage)) = Want t w (after size cpus t stage)

abbrev pub plan_left : Sequencer → Plan
plan_left p = left_by p.size p.cpus p.table p.making

abbrev pub MakesFit : ℕ → CpuState → Option (Wanted × Stage) → Type 0
MakesFit cpus t None = Unit {0}
MakesFit cpus t (Some (w, stage)) = Fits cpus t w stage

-- the same registers but for the count of fetched instructions, the same halt code and entry to be made
pub record HasSameRegisters (t u : CpuState) : Type 0 where
  pub state : with_fetched u.state 0 ≡ with_fetched t.state 0
  pub halted : u.halted ≡ t.halted
  pub pending : u.pending ≡ t.pending

-- the processor is at this seat
pub record Stands (p : Sequencer) (s : Seat) : Type 0 where
  pub size : p.size ≡ s.size
  pub cpus : p.cpus ≡ s.cpus
  pub budget : p.budget ≡ s.budget
  pub table : p.table ≡ table_now s
  pub plan : plan_left p ≡ plan_now s
  pub fits : MakesFit p.cpus p.table p.making
  pub boundary : is_none p.making ≡ is_empty s.values
  pub steps : p.steps ≡ s.steps
  pub pages : s.size % PAGE_BYTES ≡ 0
  pub most : s.size ≤ MAX_MEMORY
  pub settled : IsSettled s.start.state
  pub few : s.cpus ≤ MAX_CPUS

-- the processor is at some seat
pub record Standing (p : Sequencer) : Type 0 where
  pub seat : Seat
  pub stands : Stands p seat

-- it is not finished, and wants an access
pub record IsWanting (p : Sequencer) : Type 0 where
  pub seat : Seat
  pub stands : Stands p seat
  pub unfinished : is_finished seat ≡ false
  pub access : Wanted
  pub wants : wanted seat ≡ Some access

-- it is not finished, and its group ends with no access
pub record IsAtEnd (p : Sequencer) : Type 0 where
  pub seat : Seat
  pub stands : Stands p seat
  pub unfinished : is_finished seat ≡ false
  pub wants : wanted seat ≡ None

-- it is at a boundary
pub record IsAtBoundary (p : Sequencer) : Type 0 where
  pub seat : Seat
  pub stands : Stands p seat
  pub boundary : is_at_boundary seat ≡ true

-- a wanted access lies in memory, and what it stores has its size
pub record IsMakeable (size cpus : ℕ) (w : Wanted) : Type 0 where
  pub inside : IsSoundAs size cpus w.kind w
  pub small : FitsKind w.kind w.size w.value
