-- What a group of accesses makes of the table state.
use Rattle.std.specs.Prelude.{ℕ, ◌+◌, ◌%◌, ◌^◌, Bool, List, Some, None}
use Rattle.axp_base.specs.Numbers.{add}
use Rattle.axp_decode.specs.declared.names.PalOp.{PalOp}
use Rattle.axp_image.specs.declared.limits.TheConstants.{INSTRUCTION_BYTES}
use Rattle.axp_pal.specs.Calls.{data_buffer, finished, instruction_buffer}
use Rattle.axp_regs.specs.States.{pc_of, with_pc, with_register, with_locked, fetched_of, with_fetched}
use Rattle.axp_trap.specs.Entering.{entered}
use Rattle.axp_trap.specs.declared.causes.Cause.{Cause}
use Rattle.axp_cpu.specs.declared.cpu_states.CpuState.{CpuState}

-- the address of the next instruction
abbrev pub next_pc : CpuState → ℕ
next_pc t = add (pc_of t.state) INSTRUCTION_BYTES

-- with the program counter at an address
abbrev pub at_pc : CpuState → ℕ → CpuState
at_pc t pc = record t { state = with_pc t.state pc }

-- with a register written
abbrev pub with_value : CpuState → ℕ → ℕ → CpuState
with_value t n v = record t { state = with_register t.state n v }

-- with the lock flag set or cleared
abbrev pub with_lock_flag : CpuState → Bool → CpuState
with_lock_flag t armed = record t { state = with_locked t.state armed }

-- with one instruction more fetched
abbrev pub with_fetch_counted : CpuState → CpuState
with_fetch_counted t = record t { state = with_fetched t.state ((fetched_of t.state + 1) % 2 ^ 32) }

-- behind the instruction
abbrev pub behind : CpuState → CpuState
behind t = at_pc t (next_pc t)

-- halted with a code; it enters nothing any more
abbrev pub halted_by : ℕ → CpuState → CpuState
halted_by code t = record t { halted = Some code; pending = None }

-- about to enter the operating system; the program counter is what its frame saves
abbrev pub raising : Cause → CpuState → CpuState
raising cause t = record t { pending = Some cause }

-- entered, once the frame is saved
abbrev pub entered_in : Cause → CpuState → CpuState
entered_in cause t = record t { state = entered cause t.state; pending = None }

-- behind a PAL call that ends, whose accesses gave these values
abbrev pub called_in : PalOp → List ℕ → CpuState → CpuState
called_in op values t = record t {
  state = finished op (behind t).state values;
  itb = instruction_buffer op (behind t).state t.itb;
  dtb = data_buffer op (behind t).state t.dtb;
}
