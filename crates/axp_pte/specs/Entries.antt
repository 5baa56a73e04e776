-- A page table entry is seen as its quadword, and a set of its named bits as the number of these bits.
use Rattle.std.specs.Prelude.{ℕ, ◌/◌, ◌^◌, Bool, ◌==◌, ◌||◌}
use Rattle.axp_base.specs.Masks.{has_bit}
use Rattle.axp_pte.specs.declared.entries.Pte.{Pte}
use Rattle.axp_pte.specs.declared.entries.PteBits.{PteBits}

abbrev pub pte_word : Pte → ℕ
pte_word p = p.0

abbrev pub pte_of : ℕ → Pte
pte_of w = record { 0 = w }

abbrev pub set_bits : PteBits → ℕ
set_bits b = b.0

-- the numbers of the bits that have a name
abbrev pub valid_bit : ℕ
valid_bit = 0

abbrev pub fault_on_read_bit : ℕ
fault_on_read_bit = 1

abbrev pub fault_on_write_bit : ℕ
fault_on_write_bit = 2

abbrev pub fault_on_execute_bit : ℕ
fault_on_execute_bit = 3

abbrev pub address_space_match_bit : ℕ
address_space_match_bit = 4

abbrev pub kernel_read_enable_bit : ℕ
kernel_read_enable_bit = 8

abbrev pub user_read_enable_bit : ℕ
user_read_enable_bit = 9

abbrev pub kernel_write_enable_bit : ℕ
kernel_write_enable_bit = 12

abbrev pub user_write_enable_bit : ℕ
user_write_enable_bit = 13

-- bit n has a name
abbrev pub is_named : ℕ → Bool
is_named n =
    (n == valid_bit) || ((n == fault_on_read_bit) || ((n == fault_on_write_bit) || ((n == fault_on_execute_bit) || ((n == address_space_match_bit)
    || ((n == kernel_read_enable_bit) || ((n == user_read_enable_bit) || ((n == kernel_write_enable_bit) || (n == user_write_enable_bit))))))))

-- the number in which exactly the named bits are 1
abbrev pub named_bits : ℕ
named_bits = 0x331F

-- V is 1, and ASM is 1
abbrev pub is_valid : ℕ → Bool
is_valid w = has_bit w valid_bit

abbrev pub has_asm : ℕ → Bool
has_asm w = has_bit w address_space_match_bit

-- the page frame number, bits 63:32
abbrev pub pfn_of : ℕ → ℕ
pfn_of w = w / 2 ^ 32
