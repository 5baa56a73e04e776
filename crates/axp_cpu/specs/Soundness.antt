-- What every plan of the instruction table keeps, in a memory of this size with so many processors.
use Rattle.std.specs.Prelude.{◌≡◌, ℕ, ◌%◌, ◌^◌, ◌<◌, None}
use Rattle.axp_access.specs.declared.Wanted.{Wanted}
use Rattle.axp_image.specs.declared.limits.TheConstants.{INSTRUCTION_BYTES}
use Rattle.axp_lsu.specs.Within.{IsConditional, IsInMemory}
use Rattle.axp_base.specs.declared.parts.TheConstants.{QUADWORD_BYTES}
use Rattle.axp_regs.specs.States.{entry_of, pc_of, pcbb_of}
use Rattle.axp_regs.specs.declared.states.State.{State}
use Rattle.axp_regs.specs.declared.asks.Kind.{Kind}
use Rattle.axp_regs.specs.declared.asks.Kind.TheVariants.{Fetch, Read, Write, Locked, Conditional, Barrier, WriteBarrier, CodeBarrier, Signal, Console, Poll}
use Rattle.axp_cpu.specs.declared.cpu_states.CpuState.{CpuState}
use Rattle.axp_cpu.specs.Plans.{Plan, End, Want}

-- a fetch takes an instruction's bytes from memory
pub record IsFetched (size : ℕ) (w : Wanted) : Type 0 where
  pub inside : IsInMemory size w
  pub bytes : w.size ≡ INSTRUCTION_BYTES

-- a barrier, a signal or a byte of the console names no memory
pub record IsBare (w : Wanted) : Type 0 where
  pub address : w.address ≡ 0
  pub size : w.size ≡ 0

-- a barrier has no value, a signal that of a processor, the console that of a byte
pub record IsValued (w : Wanted) (below : ℕ) : Type 0 where
  pub bare : IsBare w
  pub value : w.value < below

-- the accesses that plans want: an access of memory lies in it, at a multiple of its size
abbrev pub IsSoundAs : ℕ → ℕ → Kind → Wanted → Type 0
IsSoundAs size cpus Fetch w = IsFetched size w
IsSoundAs size cpus Read w = IsInMemory size w
IsSoundAs size cpus Write w = IsInMemory size w
IsSoundAs size cpus Locked w = IsInMemory size w
IsSoundAs size cpus Conditional w = IsConditional size w
IsSoundAs size cpus Barrier w = IsValued w 1
IsSoundAs size cpus WriteBarrier w = IsValued w 1
IsSoundAs size cpus CodeBarrier w = IsValued w 1
IsSoundAs size cpus Signal w = IsValued w cpus
IsSoundAs size cpus Console w = IsValued w (2 ^ 8)
IsSoundAs size cpus Poll w = ⊥

-- the program counter and the addresses of entries are multiples of an instruction's size, and the process
-- control block begins at a quadword
pub record IsSettled (s : State) : Type 0 where
  pub pc : pc_of s % INSTRUCTION_BYTES ≡ 0
  pub entries : (n : ℕ) → entry_of s n % INSTRUCTION_BYTES ≡ 0
  pub block : pcbb_of s % QUADWORD_BYTES ≡ 0

-- each access is such, and so is the state at the end
abbrev pub IsSound : ℕ → ℕ → Plan → Type 0
IsSound size cpus (End t) = IsSettled t.state
IsSound size cpus (Want t w k) = IsSoundAs size cpus w.kind w × ((v : ℕ) → IsSound size cpus (k v))

-- the plan is an end
abbrev pub IsEnd : Plan → Type 0
IsEnd (End t) = Unit {0}
IsEnd (Want t w k) = ⊥

-- no entry to the operating system is pending, and the processor is not halted
pub record GoesOn (t : CpuState) : Type 0 where
  pub pending : t.pending ≡ None
  pub halted : t.halted ≡ None

-- the plan ends without an entry to the operating system, and not halted
abbrev pub IsDone : Plan → Type 0
IsDone (End t) = GoesOn t
IsDone (Want t w k) = ⊥
