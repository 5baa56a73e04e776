-- What an entry allows, and its faults in their order. w is the entry's quadword.
use Rattle.std.specs.Prelude.{ℕ, Bool, not, if◌then◌else◌, Result, Ok, Err}
use Rattle.axp_base.specs.Masks.{has_bit}
use Rattle.axp_pte.specs.Entries.{is_valid, pfn_of, fault_on_read_bit, fault_on_write_bit, fault_on_execute_bit, kernel_read_enable_bit, user_read_enable_bit, kernel_write_enable_bit, user_write_enable_bit}
use Rattle.axp_pte.specs.declared.faults.MmFault.{MmFault}
use Rattle.axp_pte.specs.declared.faults.MmFault.TheVariants.{Tnv, Acv, For, Foe, Fow}
use Rattle.axp_pte.specs.declared.faults.Mode.{Mode}
use Rattle.axp_pte.specs.declared.faults.Mode.TheVariants.{Kernel, User}
use Rattle.axp_pte.specs.declared.faults.Way.{Way}
use Rattle.axp_pte.specs.declared.faults.Way.TheVariants.{Fetch, Load, Store}

-- the bit that gives the right to an access
abbrev pub right_bit : Mode → Way → ℕ
right_bit Kernel Fetch = kernel_read_enable_bit
right_bit Kernel Load = kernel_read_enable_bit
right_bit Kernel Store = kernel_write_enable_bit
right_bit User Fetch = user_read_enable_bit
right_bit User Load = user_read_enable_bit
right_bit User Store = user_write_enable_bit

-- whether the mode has the right to the access
abbrev pub allows : ℕ → Mode → Way → Bool
allows w mode way = has_bit w (right_bit mode way)

-- the bit that asks for a fault, and the fault
abbrev pub fault_bit : Way → ℕ
fault_bit Fetch = fault_on_execute_bit
fault_bit Load = fault_on_read_bit
fault_bit Store = fault_on_write_bit

abbrev pub fault_of : Way → MmFault
fault_of Fetch = Foe
fault_of Load = For
fault_of Store = Fow

-- at the third level: the page's frame, or the first fault
unfoldable pub rights_of : ℕ → Mode → Way → Result ℕ MmFault
rights_of w mode way =
    if not (allows w mode way) then Err Acv
    else if not (is_valid w) then Err Tnv
    else if has_bit w (fault_bit way) then Err (fault_of way)
    else Ok (pfn_of w)

-- at the first two levels: the frame of the next level's table
unfoldable pub upper_of : ℕ → Result ℕ MmFault
upper_of w = if not (is_valid w) then Err Tnv else Ok (pfn_of w)
