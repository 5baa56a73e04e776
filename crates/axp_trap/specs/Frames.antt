-- The frame that an entry saves on the kernel stack.
use Rattle.std.specs.Prelude.{ℕ, List, ◌∷◌, [], false, take}
use Rattle.axp_base.specs.Numbers.{add, sub}
use Rattle.axp_base.specs.declared.parts.TheConstants.{QUADWORD_BYTES}
use Rattle.axp_pte.specs.declared.faults.Mode.{Mode}
use Rattle.axp_pte.specs.declared.faults.Mode.TheVariants.{Kernel, User}
use Rattle.axp_regs.specs.declared.asks.Ask.{Ask}
use Rattle.axp_regs.specs.declared.asks.Kind.TheVariants.{Write}
use Rattle.axp_regs.specs.declared.states.State.{State}
use Rattle.axp_regs.specs.States.{register, pc_of, ps_of, ksp_of}
use Rattle.axp_trap.specs.declared.causes.Cause.{Cause}
use Rattle.axp_trap.specs.declared.frames.TheConstants.{FRAME_BYTES, PS_SLOT, PC_SLOT, GP_SLOT, A0_SLOT, A1_SLOT, A2_SLOT}
use Rattle.axp_trap.specs.declared.registers.TheConstants.{A0, A1, A2, GP, SP}
use Rattle.axp_trap.specs.Entries.{row_of}
use Rattle.axp_trap.specs.Status.{mode_of}

-- the kernel's stack pointer: in kernel mode it is the stack pointer itself
abbrev pub kernel_stack_in : Mode → State → ℕ
kernel_stack_in User s = ksp_of s
kernel_stack_in Kernel s = register s SP

-- where a frame is made: below the kernel's stack pointer
abbrev pub frame_address : State → ℕ
frame_address s = sub (kernel_stack_in (mode_of (ps_of s)) s) FRAME_BYTES

-- the write of one word of a frame
abbrev pub saved_at : ℕ → ℕ → ℕ → Ask
saved_at address slot value = record { kind = Write; address = add address slot; direct = false; size = QUADWORD_BYTES; value = value }

-- the words of a whole frame
abbrev pub whole_frame : ℕ → State → List Ask
whole_frame address s =
    saved_at address PS_SLOT (ps_of s)
    ∷ saved_at address PC_SLOT (pc_of s)
    ∷ saved_at address GP_SLOT (register s GP)
    ∷ saved_at address A0_SLOT (register s A0)
    ∷ saved_at address A1_SLOT (register s A1)
    ∷ saved_at address A2_SLOT (register s A2)
    ∷ []

-- the words that an entry saves
abbrev pub frame_of : Cause → State → List Ask
frame_of cause s = take (row_of cause).words (whole_frame (frame_address s) s)
