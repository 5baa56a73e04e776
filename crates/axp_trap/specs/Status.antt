-- The processor status: bits 2:0 are the interrupt level, bit 3 is the mode.
use Rattle.std.specs.Prelude.{ℕ, ◌+◌, ◌*◌, ◌/◌, ◌%◌, ◌^◌, if◌then◌else◌}
use Rattle.axp_base.specs.Masks.{has_bit}
use Rattle.axp_pte.specs.declared.faults.Mode.{Mode}
use Rattle.axp_pte.specs.declared.faults.Mode.TheVariants.{Kernel, User}
use Rattle.axp_trap.specs.declared.status.TheConstants.{MODE_BIT}

-- the mode that a status has
abbrev pub mode_of : ℕ → Mode
mode_of ps = if has_bit ps MODE_BIT then User else Kernel

-- the interrupt level that it has
abbrev pub interrupt_level : ℕ → ℕ
interrupt_level ps = ps % 2 ^ 3

-- the same status in kernel mode
abbrev pub in_kernel_mode : ℕ → ℕ
in_kernel_mode ps = ps / 2 ^ 4 * 2 ^ 4 + ps % 2 ^ 3

-- the same status with the interrupt level that the low three bits of a number are
abbrev pub with_level : ℕ → ℕ → ℕ
with_level ps level = ps / 2 ^ 3 * 2 ^ 3 + level % 2 ^ 3
