-- What an entry makes of the state, once its frame is saved.
use Rattle.std.specs.Prelude.{ℕ, Option, Some, None, false}
use Rattle.axp_pte.specs.declared.faults.Mode.{Mode}
use Rattle.axp_pte.specs.declared.faults.Mode.TheVariants.{Kernel, User}
use Rattle.axp_regs.specs.declared.states.State.{State}
use Rattle.axp_regs.specs.States.{register, with_register, entry_of, with_pc, ps_of, with_ps, with_usp, kgp_of, with_locked}
use Rattle.axp_trap.specs.declared.causes.Cause.{Cause}
use Rattle.axp_trap.specs.declared.entries.EntryRow.{EntryRow}
use Rattle.axp_trap.specs.declared.registers.TheConstants.{A0, A1, A2, GP, SP}
use Rattle.axp_trap.specs.Entries.{row_of}
use Rattle.axp_trap.specs.Frames.{frame_address}
use Rattle.axp_trap.specs.Status.{mode_of, in_kernel_mode, with_level}

-- in user mode the stack pointer is kept as the user's
abbrev pub kept_in : Mode → State → State
kept_in User s = with_usp s (register s SP)
kept_in Kernel s = s

abbrev pub with_user_stack_kept : State → State
with_user_stack_kept s = kept_in (mode_of (ps_of s)) s

-- the stack pointer is the frame's address, and the global pointer the kernel's
abbrev pub on_kernel_stack : State → State
on_kernel_stack s = with_register (with_register (with_user_stack_kept s) SP (frame_address s)) GP (kgp_of s)

-- kernel mode, at the level that the entry sets or at the old one
abbrev pub status_after : Option ℕ → ℕ → ℕ
status_after (Some level) ps = with_level (in_kernel_mode ps) level
status_after None ps = in_kernel_mode ps

-- an argument that changes
abbrev pub with_argument : ℕ → Option ℕ → State → State
with_argument n (Some v) s = with_register s n v
with_argument n None s = s

abbrev pub with_arguments : EntryRow → State → State
with_arguments r s = with_argument A2 r.a2 (with_argument A1 r.a1 (with_argument A0 r.a0 s))

-- the state of the processor when the operating system begins
abbrev pub entered_by : EntryRow → State → State
entered_by r s = with_locked (with_pc (with_arguments r (with_ps (on_kernel_stack s) (status_after r.level (ps_of s)))) (entry_of s r.number)) false

abbrev pub entered : Cause → State → State
entered cause s = entered_by (row_of cause) s
