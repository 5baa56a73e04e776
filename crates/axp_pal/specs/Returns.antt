-- The returns from the operating system: retsys from a call of it, rti from any other entry. The frame
-- lies where the stack pointer is.
use Rattle.std.specs.Prelude.{ℕ, ◌*◌, ◌/◌, ◌%◌, ◌^◌, List, ◌∷◌, [], false, slice_index}
use Rattle.axp_base.specs.Numbers.{add}
use Rattle.axp_base.specs.declared.parts.TheConstants.{QUADWORD_BYTES}
use Rattle.axp_pte.specs.declared.faults.Mode.{Mode}
use Rattle.axp_pte.specs.declared.faults.Mode.TheVariants.{Kernel, User}
use Rattle.axp_regs.specs.declared.asks.Ask.{Ask}
use Rattle.axp_regs.specs.declared.asks.Kind.TheVariants.{Read}
use Rattle.axp_regs.specs.declared.states.State.{State}
use Rattle.axp_regs.specs.States.{register, with_register, with_pc, with_ps, with_ksp, usp_of, with_locked}
use Rattle.axp_trap.specs.declared.frames.TheConstants.{FRAME_BYTES, PS_SLOT, PC_SLOT, GP_SLOT, A0_SLOT, A1_SLOT, A2_SLOT}
use Rattle.axp_trap.specs.declared.registers.TheConstants.{A0, A1, A2, GP, SP}
use Rattle.axp_trap.specs.Status.{mode_of}
use Rattle.axp_pal.specs.declared.returns.TheConstants.{USER_STATUS}

abbrev pub read_at : ℕ → ℕ → Ask
read_at frame slot = record { kind = Read; address = add frame slot; direct = false; size = QUADWORD_BYTES; value = 0 }

abbrev pub system_return_asks : State → List Ask
system_return_asks s =
    read_at (register s SP) PC_SLOT
    ∷ read_at (register s SP) GP_SLOT
    ∷ []

abbrev pub return_asks : State → List Ask
return_asks s =
    read_at (register s SP) PS_SLOT
    ∷ read_at (register s SP) PC_SLOT
    ∷ read_at (register s SP) GP_SLOT
    ∷ read_at (register s SP) A0_SLOT
    ∷ read_at (register s SP) A1_SLOT
    ∷ read_at (register s SP) A2_SLOT
    ∷ []

-- the stack pointer without the frame
abbrev pub without_frame : State → ℕ
without_frame s = add (register s SP) FRAME_BYTES

-- the frame is gone, and user mode has its own stack pointer back
abbrev pub to_user : State → State
to_user s = with_register (with_ksp (with_ps s USER_STATUS) (without_frame s)) SP (usp_of s)

-- the frame is gone, and kernel mode stays
abbrev pub to_kernel : ℕ → State → State
to_kernel status s = with_register (with_ps s (status % 2 ^ 4)) SP (without_frame s)

-- the mode that the saved status has
abbrev pub to_mode : Mode → ℕ → State → State
to_mode User status s = to_user s
to_mode Kernel status s = to_kernel status s

-- back to where the entry was raised, with its global pointer and no lock flag
abbrev pub with_return : ℕ → ℕ → State → State
with_return pc global s = with_locked (with_register (with_pc s (pc / 4 * 4)) GP global) false

abbrev pub system_returned : State → List ℕ → State
system_returned s values = with_return (slice_index values 0) (slice_index values 1) (to_user s)

abbrev pub with_saved_arguments : List ℕ → State → State
with_saved_arguments values s = with_register (with_register (with_register s A0 (slice_index values 3)) A1 (slice_index values 4)) A2 (slice_index values 5)

abbrev pub returned : State → List ℕ → State
returned s values = with_saved_arguments values (with_return (slice_index values 1) (slice_index values 2) (to_mode (mode_of (slice_index values 0)) (slice_index values 0) s))
