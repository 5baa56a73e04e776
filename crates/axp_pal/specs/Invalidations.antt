-- What tbi invalidates in a translation buffer: a0 says what, a1 has the address of a page.
use Rattle.std.specs.Prelude.{ℕ, ◌/◌, ◌%◌, ◌^◌, List, [], Bool, ◌==◌, ◌||◌, if◌then◌else◌}
use Rattle.axp_regs.specs.declared.states.State.{State}
use Rattle.axp_regs.specs.States.{register, asn_of}
use Rattle.axp_tb.specs.Buffers.{without_page, without_process}
use Rattle.axp_tb.specs.declared.entries.TbEntry.{TbEntry}
use Rattle.axp_trap.specs.declared.registers.TheConstants.{A0, A1}
use Rattle.axp_pal.specs.declared.buffers.TheConstants.{ALL_ENTRIES, PROCESS_ENTRIES, INSTRUCTION_PAGE, DATA_PAGE, PAGE_IN_BOTH}

-- the page of an address: bits 42:13, whatever its other bits hold
abbrev pub page_of : ℕ → ℕ
page_of va = va / 2 ^ 13 % 2 ^ 30

-- whether a page is asked for in the instruction buffer, and in the data buffer
abbrev pub is_instruction_page : State → Bool
is_instruction_page s = (register s A0 == INSTRUCTION_PAGE) || (register s A0 == PAGE_IN_BOTH)

abbrev pub is_data_page : State → Bool
is_data_page s = (register s A0 == DATA_PAGE) || (register s A0 == PAGE_IN_BOTH)

abbrev pub after_invalidate : State → Bool → List TbEntry → List TbEntry
after_invalidate s takes_page entries =
    if register s A0 == ALL_ENTRIES then [] else
    if register s A0 == PROCESS_ENTRIES then without_process entries else
    if takes_page then without_page entries (page_of (register s A1)) (asn_of s) else
    entries
