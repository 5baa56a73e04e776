-- The parts of a virtual address, and where it leads.
use Rattle.std.specs.Prelude.{ℕ, ◌+◌, ◌-◌, ◌*◌, ◌/◌, ◌%◌, ◌^◌, Bool, not, if◌then◌else◌, ◌==◌, ◌||◌, ◌&&◌, Result, Ok, Err}
use Rattle.axp_pte.specs.declared.addresses.Parts.{Parts}
use Rattle.axp_pte.specs.declared.addresses.Where.{Where}
use Rattle.axp_pte.specs.declared.addresses.Where.TheVariants.{Direct, Mapped}
use Rattle.axp_pte.specs.declared.faults.MmFault.{MmFault}
use Rattle.axp_pte.specs.declared.faults.MmFault.TheVariants.{Acv}
use Rattle.axp_pte.specs.declared.faults.Mode.{Mode}
use Rattle.axp_pte.specs.declared.faults.Mode.TheVariants.{Kernel, User}

-- bits 63:43 all equal bit 42: the 22 bits from 42 on are all 0 or all 1
abbrev pub is_extended : ℕ → Bool
is_extended va = (va / 2 ^ 42 == 0) || (va / 2 ^ 42 == 2 ^ 22 - 1)

-- bits 42:41 are 10
abbrev pub is_kseg : ℕ → Bool
is_kseg va = va / 2 ^ 41 % 4 == 2

-- the kernel segment, whose physical addresses are the low bits
abbrev pub in_kseg : ℕ → Bool
in_kseg va = is_extended va && is_kseg va

abbrev pub physical : ℕ → ℕ
physical va = va % 2 ^ 41

-- bits 42:33, 32:23, 22:13 and 12:0
abbrev pub parts_of : ℕ → Parts
parts_of va = record { l1 = va / 2 ^ 33 % 2 ^ 10; l2 = va / 2 ^ 23 % 2 ^ 10; l3 = va / 2 ^ 13 % 2 ^ 10; offset = va % 2 ^ 13 }

-- the number of 43 bits that the parts make
abbrev pub address_of : Parts → ℕ
address_of p = p.l1 * 2 ^ 33 + p.l2 * 2 ^ 23 + p.l3 * 2 ^ 13 + p.offset

-- an address of KSEG leads, in kernel mode, to its physical address
abbrev pub direct_of : Mode → ℕ → Result Where MmFault
direct_of User va = Err Acv
direct_of Kernel va = Ok (Direct (physical va))

-- the number of the virtual page: bits 42:13
abbrev pub page_of : Parts → ℕ
page_of p = p.l1 * 2 ^ 20 + p.l2 * 2 ^ 10 + p.l3

unfoldable pub split_of : ℕ → Mode → Result Where MmFault
split_of va mode =
    if not (is_extended va) then Err Acv
    else if is_kseg va then direct_of mode va
    else Ok (Mapped (parts_of va))
