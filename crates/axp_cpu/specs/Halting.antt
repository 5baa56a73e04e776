-- What a group that halts its processor leaves.
use Rattle.std.specs.Prelude.{◌≡◌, ℕ, ◌≤◌, ◌==◌, if◌then◌else◌, Some}
use Rattle.axp_base.specs.Numbers.{add}
use Rattle.axp_image.specs.declared.limits.TheConstants.{INSTRUCTION_BYTES}
use Rattle.axp_pal.specs.declared.plans.TheConstants.{HALTED}
use Rattle.axp_regs.specs.States.{pc_of, with_fetched, with_pc}
use Rattle.axp_regs.specs.declared.states.State.{State}
use Rattle.axp_cpu.specs.declared.cpu_states.CpuState.{CpuState}

-- 1 by halt, 2 at a frame, 3 by callsys in kernel mode, 4 beyond memory
abbrev pub IsHaltCode : ℕ → Type 0
IsHaltCode code = (1 ≤ code) × (code ≤ 4)

-- halt leaves the program counter behind itself
abbrev pub pc_after : ℕ → State → ℕ
pc_after code s = if code == HALTED then add (pc_of s) INSTRUCTION_BYTES else pc_of s

-- where a group that began in this state halts, the state is as it was, but for the count of fetched
-- instructions and the program counter
pub record Leaves (s : State) (t : CpuState) : Type 0 where
  pub code : (code : ℕ) → t.halted ≡ Some code → IsHaltCode code
  pub state : (code : ℕ) → t.halted ≡ Some code → with_pc (with_fetched t.state 0) 0 ≡ with_pc (with_fetched s 0) 0
  pub pc : (code : ℕ) → t.halted ≡ Some code → pc_of t.state ≡ pc_after code s
