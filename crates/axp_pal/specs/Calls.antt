-- The calls of PALcode: the accesses of each and its end, what it makes of the registers, and what it
-- makes of the translation buffers.
use Rattle.std.specs.Prelude.{ℕ, ◌*◌, ◌/◌, ◌%◌, ◌^◌, ◌≡◌, List, ◌∷◌, [], Bool, true, nat_lt, ◌==◌, if◌then◌else◌, length}
use Rattle.axp_base.specs.Masks.{has_bit}
use Rattle.axp_decode.specs.Table.{pal_number}
use Rattle.axp_decode.specs.declared.names.PalOp.{PalOp}
use Rattle.axp_decode.specs.declared.names.PalOp.TheVariants.{HALT, DRAINA, CSERVE, WRIPIR, WRFEN, WRVPTPTR, SWPCTX, WRVAL, RDVAL, TBI, WRENT, SWPIPL, RDPS, WRKGP, WRUSP, RDUSP, WHAMI, RETSYS, RTI, BPT, BUGCHK, GENTRAP, CALLSYS, IMB, RDUNIQUE, WRUNIQUE}
use Rattle.axp_pte.specs.declared.faults.Mode.{Mode}
use Rattle.axp_pte.specs.declared.faults.Mode.TheVariants.{Kernel, User}
use Rattle.axp_regs.specs.declared.asks.Ask.{Ask}
use Rattle.axp_regs.specs.declared.asks.Kind.{Kind}
use Rattle.axp_regs.specs.declared.asks.Kind.TheVariants.{CodeBarrier, Console, Signal}
use Rattle.axp_regs.specs.declared.states.State.{State}
use Rattle.axp_regs.specs.declared.states.TheConstants.{ENTRIES}
use Rattle.axp_regs.specs.States.{register, with_register, with_entry, number_of, ps_of, with_ps, usp_of, with_usp, with_kgp, unique_of, with_unique, with_fen, sysvalue_of, with_sysvalue, with_vptptr}
use Rattle.axp_tb.specs.declared.entries.TbEntry.{TbEntry}
use Rattle.axp_trap.specs.declared.causes.Cause.TheVariants.{If, Sys}
use Rattle.axp_trap.specs.declared.causes.TheConstants.{BREAKPOINT, BUGCHECK, GENERATED_TRAP, RESERVED_INSTRUCTION}
use Rattle.axp_trap.specs.declared.registers.TheConstants.{A0, A1, V0}
use Rattle.axp_trap.specs.Status.{interrupt_level, mode_of, with_level}
use Rattle.axp_pal.specs.declared.plans.PalEnd.{PalEnd}
use Rattle.axp_pal.specs.declared.plans.PalEnd.TheVariants.{Ends, Enters, Halts}
use Rattle.axp_pal.specs.declared.plans.TheConstants.{CONSOLE_SERVICE, HALTED, KERNEL_SYSTEM_CALL}
use Rattle.axp_pal.specs.declared.privilege.TheConstants.{FIRST_UNPRIVILEGED}
use Rattle.axp_pal.specs.Contexts.{context_asks, switched}
use Rattle.axp_pal.specs.Invalidations.{after_invalidate, is_data_page, is_instruction_page}
use Rattle.axp_pal.specs.Returns.{return_asks, returned, system_return_asks, system_returned}

-- what a call does: its accesses in order, and its end
pub record Row : Type 0 where
  pub asks : List Ask
  pub end : PalEnd

abbrev pub ends : List Ask → Row
ends asks = record { asks = asks; end = Ends }

abbrev pub at_once : PalEnd → Row
at_once end = record { asks = []; end = end }

abbrev pub faults : ℕ → Row
faults code = at_once (Enters (If code))

-- an access that names no memory, so that there is nothing to translate
abbrev pub bare_ask : Kind → ℕ → Ask
bare_ask kind value = record { kind = kind; address = 0; direct = true; size = 0; value = value }

-- a byte to the console; no other service is there
abbrev pub console_row : State → Row
console_row s =
    if register s A0 == CONSOLE_SERVICE then ends (bare_ask Console (register s A1 % 2 ^ 8) ∷ [])
    else faults RESERVED_INSTRUCTION

-- a signal, where there is a processor of that number
abbrev pub signal_asks : State → ℕ → List Ask
signal_asks s cpus = if nat_lt (register s A0) cpus then bare_ask Signal (register s A0) ∷ [] else []

-- the operating system is called from user mode alone
abbrev pub system_call_end : Mode → PalEnd
system_call_end User = Enters Sys
system_call_end Kernel = Halts KERNEL_SYSTEM_CALL

-- the accesses and the end of a call that its mode may make; cpus is the number of processors
unfoldable pub row_of : PalOp → State → ℕ → Row
row_of HALT s cpus = at_once (Halts HALTED)
row_of DRAINA s cpus = ends []
row_of CSERVE s cpus = console_row s
row_of WRIPIR s cpus = ends (signal_asks s cpus)
row_of WRFEN s cpus = ends []
row_of WRVPTPTR s cpus = ends []
row_of SWPCTX s cpus = ends (context_asks s)
row_of WRVAL s cpus = ends []
row_of RDVAL s cpus = ends []
row_of TBI s cpus = ends []
row_of WRENT s cpus = ends []
row_of SWPIPL s cpus = ends []
row_of RDPS s cpus = ends []
row_of WRKGP s cpus = ends []
row_of WRUSP s cpus = ends []
row_of RDUSP s cpus = ends []
row_of WHAMI s cpus = ends []
row_of RETSYS s cpus = ends (system_return_asks s)
row_of RTI s cpus = ends (return_asks s)
row_of BPT s cpus = faults BREAKPOINT
row_of BUGCHK s cpus = faults BUGCHECK
row_of CALLSYS s cpus = at_once (system_call_end (mode_of (ps_of s)))
row_of IMB s cpus = ends (bare_ask CodeBarrier 0 ∷ [])
row_of RDUNIQUE s cpus = ends []
row_of WRUNIQUE s cpus = ends []
row_of GENTRAP s cpus = faults GENERATED_TRAP

-- a call that kernel mode alone may make
abbrev pub is_privileged : PalOp → Bool
is_privileged op = nat_lt (pal_number op) FIRST_UNPRIVILEGED

-- from user mode a privileged call is a reserved instruction
abbrev pub row_in : Mode → PalOp → State → ℕ → Row
row_in User op s cpus = if is_privileged op then faults RESERVED_INSTRUCTION else row_of op s cpus
row_in Kernel op s cpus = row_of op s cpus

abbrev pub asks_of : PalOp → State → ℕ → List Ask
asks_of op s cpus = (row_in (mode_of (ps_of s)) op s cpus).asks

abbrev pub end_of : PalOp → State → ℕ → PalEnd
end_of op s cpus = (row_in (mode_of (ps_of s)) op s cpus).end

-- the address of an entry, where there is one of this number, with its two low bits cleared
abbrev pub with_entry_address : ℕ → ℕ → State → State
with_entry_address n address s = if nat_lt n ENTRIES then with_entry s n (address / 4 * 4) else s

-- what a call that ends makes of the registers; values are those of its accesses, in order
unfoldable pub finished : PalOp → State → List ℕ → State
finished WRFEN s values = with_fen s (has_bit (register s A0) 0)
finished WRVPTPTR s values = with_vptptr s (register s A0)
finished SWPCTX s values = switched s values
finished WRVAL s values = with_sysvalue s (register s A0)
finished RDVAL s values = with_register s V0 (sysvalue_of s)
finished WRENT s values = with_entry_address (register s A1) (register s A0) s
finished SWPIPL s values = with_ps (with_register s V0 (interrupt_level (ps_of s))) (with_level (ps_of s) (register s A0))
finished RDPS s values = with_register s V0 (ps_of s)
finished WRKGP s values = with_kgp s (register s A0)
finished WRUSP s values = with_usp s (register s A0)
finished RDUSP s values = with_register s V0 (usp_of s)
finished WHAMI s values = with_register s V0 (number_of s)
finished RETSYS s values = system_returned s values
finished RTI s values = returned s values
finished RDUNIQUE s values = with_register s V0 (unique_of s)
finished WRUNIQUE s values = with_unique s (register s A0)
finished _ s values = s

-- what a call makes of the instruction buffer, and of the data buffer
unfoldable pub instruction_buffer : PalOp → State → List TbEntry → List TbEntry
instruction_buffer TBI s entries = after_invalidate s (is_instruction_page s) entries
instruction_buffer _ s entries = entries

unfoldable pub data_buffer : PalOp → State → List TbEntry → List TbEntry
data_buffer TBI s entries = after_invalidate s (is_data_page s) entries
data_buffer _ s entries = entries

-- the call ends, and there is one value for each of its accesses, for some number of processors
pub record IsAnswered (op : PalOp) (s : State) (values : List ℕ) : Type 0 where
  pub cpus : ℕ
  pub ends : end_of op s cpus ≡ Ends
  pub each : length values ≡ length (asks_of op s cpus)
