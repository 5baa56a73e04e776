-- The table of entries, and what an entry makes of the state.
use Rattle.std.specs.Prelude.{ℕ, ◌-◌, ◌^◌, Option, Some, None}
use Rattle.axp_pte.specs.declared.faults.MmFault.{MmFault}
use Rattle.axp_pte.specs.declared.faults.MmFault.TheVariants.{Tnv, Acv, For, Foe, Fow}
use Rattle.axp_pte.specs.declared.faults.Way.{Way}
use Rattle.axp_pte.specs.declared.faults.Way.TheVariants.{Fetch, Load, Store}
use Rattle.axp_trap.specs.declared.causes.Cause.{Cause}
use Rattle.axp_trap.specs.declared.causes.Cause.TheVariants.{Int, Arith, Mm, If, Una, Sys}
use Rattle.axp_trap.specs.declared.causes.TheConstants.{INTEGER_OVERFLOW}
use Rattle.axp_trap.specs.declared.entries.EntryRow.{EntryRow}
use Rattle.axp_trap.specs.declared.entries.TheConstants.{INTERRUPT_LEVEL, SYSTEM_CALL_WORDS}
use Rattle.axp_trap.specs.declared.frames.TheConstants.{FRAME_WORDS}

-- how an entry tells a memory management fault
abbrev pub fault_code : MmFault → ℕ
fault_code Tnv = 0
fault_code Acv = 1
fault_code For = 2
fault_code Foe = 3
fault_code Fow = 4

-- how it tells what the access was to do: -1, 0 or 1
abbrev pub way_code : Way → ℕ
way_code Fetch = 2 ^ 64 - 1
way_code Load = 0
way_code Store = 1

abbrev pub row : ℕ → Option ℕ → Option ℕ → Option ℕ → Option ℕ → ℕ → EntryRow
row number a0 a1 a2 level words = record { number = number; a0 = a0; a1 = a1; a2 = a2; level = level; words = words }

-- the entry's number, what a0, a1, a2 and the interrupt level become where they change, and how many
-- words of the frame are saved
unfoldable pub row_of : Cause → EntryRow
row_of (Int code) = row 0 (Some code) (Some 0) (Some 0) (Some INTERRUPT_LEVEL) FRAME_WORDS
row_of (Arith mask) = row 1 (Some INTEGER_OVERFLOW) (Some mask) None None FRAME_WORDS
row_of (Mm va fault way) = row 2 (Some va) (Some (fault_code fault)) (Some (way_code way)) None FRAME_WORDS
row_of (If code) = row 3 (Some code) None None None FRAME_WORDS
row_of (Una va opcode a) = row 4 (Some va) (Some opcode) (Some a) None FRAME_WORDS
row_of Sys = row 5 None None None None SYSTEM_CALL_WORDS
