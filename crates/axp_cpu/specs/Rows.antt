-- The instruction table: the group of accesses that an instruction is, or an entry to the operating system,
-- from the table state at its start. Registers and program counter change at the group's end alone, the
-- count of fetched instructions with the fetch.
use Rattle.std.specs.Prelude.{ℕ, ◌+◌, ◌*◌, ◌/◌, ◌%◌, ◌^◌, ◌==◌, ◌-◌, zero, suc, List, [], ◌∷◌, ◌++◌, length, slice_get, Option, Some, None, Bool, true, false, if◌then◌else◌}
use Rattle.axp_base.specs.Numbers.{add, mul, sign_extended}
use Rattle.axp_base.specs.Sizes.{bytes_of, low_datum}
use Rattle.axp_base.specs.declared.sizes.Size.{Size}
use Rattle.axp_base.specs.declared.sizes.Size.TheVariants.{Byte, Word, Long, Quad}
use Rattle.axp_branch.specs.Branches.{is_taken, target_of}
use Rattle.axp_bytes.specs.Rows as bytes
use Rattle.axp_decode.specs.Format.{instr_of}
use Rattle.axp_decode.specs.Table.{memory_number, operate_opcode}
use Rattle.axp_decode.specs.declared.instructions.Instr.{Instr}
use Rattle.axp_decode.specs.declared.instructions.Instr.TheVariants.{Memory, Branch, Jump, Operate, Misc, Pal, Floating, Reserved}
use Rattle.axp_decode.specs.declared.instructions.Operand.{Operand}
use Rattle.axp_decode.specs.declared.instructions.Operand.TheVariants.{Reg, Literal}
use Rattle.axp_decode.specs.declared.numbers.TheConstants.{BYTE_OPCODE}
use Rattle.axp_decode.specs.declared.names.BranchOp.{BranchOp}
use Rattle.axp_decode.specs.declared.names.BranchOp.TheVariants.{BR, BSR, BLBC, BLBS, BEQ, BNE, BLT, BLE, BGE, BGT}
use Rattle.axp_decode.specs.declared.names.MemOp.{MemOp}
use Rattle.axp_decode.specs.declared.names.MemOp.TheVariants.{LDA, LDAH, LDBU, LDWU, LDL, LDQ, LDQ_U, LDL_L, LDQ_L, STB, STW, STL, STQ, STQ_U, STL_C, STQ_C}
use Rattle.axp_decode.specs.declared.names.MiscOp.{MiscOp}
use Rattle.axp_decode.specs.declared.names.MiscOp.TheVariants.{TRAPB, EXCB, FETCH, FETCH_M, ECB, WH64, MB, WMB, RPCC}
use Rattle.axp_decode.specs.declared.names.Op.{Op}
use Rattle.axp_decode.specs.declared.names.PalOp.{PalOp}
use Rattle.axp_pal.specs.Calls.{asks_of, end_of}
use Rattle.axp_pal.specs.declared.plans.PalEnd.{PalEnd}
use Rattle.axp_pal.specs.declared.plans.PalEnd.TheVariants.{Ends, Enters, Halts}
use Rattle.axp_pal.specs.declared.plans.TheConstants.{HALTED}
use Rattle.axp_image.specs.declared.limits.TheConstants.{INSTRUCTION_BYTES}
use Rattle.axp_integer.specs.Rows as integer
use Rattle.axp_regs.specs.States.{register, pc_of, fetched_of, offset_of}
use Rattle.axp_regs.specs.declared.asks.Ask.{Ask}
use Rattle.axp_regs.specs.declared.asks.Kind.{Kind}
use Rattle.axp_regs.specs.declared.asks.Kind.TheVariants.{Fetch, Read, Write, Locked, Conditional, Barrier, WriteBarrier}
use Rattle.axp_regs.specs.declared.states.TheConstants.{ZERO_REGISTER}
use Rattle.axp_trap.specs.Frames.{frame_of}
use Rattle.axp_trap.specs.declared.causes.Cause.{Cause}
use Rattle.axp_trap.specs.declared.causes.Cause.TheVariants.{Arith, If, Una}
use Rattle.axp_trap.specs.declared.causes.TheConstants.{FLOATING_DISABLED, RESERVED_INSTRUCTION}
use Rattle.axp_cpu.specs.declared.cpu_states.CpuState.{CpuState}
use Rattle.axp_cpu.specs.Translation.{next_plan_of, reach_plan}
use Rattle.axp_cpu.specs.declared.translation.Origin.TheVariants.{Instruction}
use Rattle.axp_cpu.specs.Plans.{Plan, End, Want}
use Rattle.axp_cpu.specs.CpuStates.{at_pc, behind, called_in, entered_in, halted_by, next_pc, raising, with_fetch_counted, with_lock_flag, with_value}

-- the instruction ends
abbrev pub next_plan : CpuState → Plan
next_plan t = End (at_pc t (next_pc t))

-- it writes a register, and goes on here
abbrev pub register_plan_at : CpuState → ℕ → ℕ → ℕ → Plan
register_plan_at t n v pc = End (at_pc (with_value t n v) pc)

-- it writes a register and ends
abbrev pub register_plan : CpuState → ℕ → ℕ → Plan
register_plan t n v = register_plan_at t n v (next_pc t)

-- it goes on elsewhere, and its register holds the updated program counter
abbrev pub link_plan : CpuState → ℕ → ℕ → Plan
link_plan t n target = register_plan_at t n (next_pc t) target

-- a barrier: an access that names no memory
abbrev pub barrier_plan : CpuState → Kind → Plan
barrier_plan t kind = Want t (record { kind = kind; address = 0; size = 0; value = 0 }) (λ v. next_plan t)

-- it enters the operating system, which is told the address of the instruction, or of the next one
abbrev pub raise_plan : CpuState → Cause → Plan
raise_plan t cause = End (raising cause t)

abbrev pub raise_behind : CpuState → Cause → Plan
raise_behind t cause = raise_plan (behind t) cause

-- what an instruction asks for, of a virtual address
abbrev pub virtual_ask : Kind → ℕ → ℕ → ℕ → Ask
virtual_ask kind address bytes value = record { kind = kind; address = address; direct = false; size = bytes; value = value }

-- the access of a datum by an instruction of this name with this Ra; its address must be a multiple of its
-- size
abbrev pub datum_plan : ℕ → CpuState → MemOp → ℕ → Kind → Size → ℕ → ℕ → (CpuState → ℕ → Plan) → Plan
datum_plan size t op a kind what address value k =
    if address % bytes_of what == 0
    then reach_plan size t Instruction (virtual_ask kind address (bytes_of what) value) k
    else raise_behind t (Una address (memory_number op) a)

-- a load: into R31 it does nothing
abbrev pub load_plan : ℕ → CpuState → MemOp → Size → ℕ → ℕ → (CpuState → ℕ → Plan) → Plan
load_plan size t op what a address k = if a == ZERO_REGISTER then next_plan t else datum_plan size t op a Read what address 0 k

-- Ra becomes the value that was read, or the longword sign-extended
abbrev pub as_read : ℕ → CpuState → ℕ → Plan
as_read a t v = register_plan t a v

abbrev pub as_longword : ℕ → CpuState → ℕ → Plan
as_longword a t v = register_plan t a (sign_extended 32 v)

-- the same, and the lock flag becomes so
abbrev pub as_read_with : Bool → ℕ → CpuState → ℕ → Plan
as_read_with flag a t v = as_read a (with_lock_flag t flag) v

abbrev pub as_longword_with : Bool → ℕ → CpuState → ℕ → Plan
as_longword_with flag a t v = as_longword a (with_lock_flag t flag) v

-- the instruction ends with its access
abbrev pub as_made : CpuState → ℕ → Plan
as_made t v = next_plan t

-- a store of the low datum of Ra
abbrev pub store_plan : ℕ → CpuState → MemOp → Size → ℕ → ℕ → Plan
store_plan size t op what a address = datum_plan size t op a Write what address (low_datum what (register t.state a)) as_made

-- a load-locked: also into R31 it makes its access; its end sets the lock flag
abbrev pub load_locked_plan : ℕ → CpuState → MemOp → Size → ℕ → ℕ → (CpuState → ℕ → Plan) → Plan
load_locked_plan size t op what a address k = datum_plan size t op a Locked what address 0 k

-- a store-conditional of the low datum of Ra: Ra becomes 1 where it stored, else 0, and the lock flag is
-- cleared
abbrev pub store_conditional_plan : ℕ → CpuState → MemOp → Size → ℕ → ℕ → Plan
store_conditional_plan size t op what a address = datum_plan size t op a Conditional what address (low_datum what (register t.state a)) (as_read_with false a)

-- the quadword that has the byte at an address
abbrev pub quadword_at : ℕ → ℕ
quadword_at address = address / 8 * 8

-- the address of the memory format
abbrev pub address_of : ℕ → ℕ → ℕ
address_of base disp = add base (sign_extended 16 disp)

-- the same with the displacement moved up by 16 bits
abbrev pub high_address_of : ℕ → ℕ → ℕ
high_address_of base disp = add base (mul (sign_extended 16 disp) 65536)

-- the memory format; base is the value of Rb
abbrev pub memory_row : ℕ → CpuState → MemOp → ℕ → ℕ → ℕ → Plan
memory_row size t LDA a base disp = register_plan t a (address_of base disp)
memory_row size t LDAH a base disp = register_plan t a (high_address_of base disp)
memory_row size t LDBU a base disp = load_plan size t LDBU Byte a (address_of base disp) (as_read a)
memory_row size t LDWU a base disp = load_plan size t LDWU Word a (address_of base disp) (as_read a)
memory_row size t LDL a base disp = load_plan size t LDL Long a (address_of base disp) (as_longword a)
memory_row size t LDQ a base disp = load_plan size t LDQ Quad a (address_of base disp) (as_read a)
memory_row size t LDQ_U a base disp = load_plan size t LDQ_U Quad a (quadword_at (address_of base disp)) (as_read a)
memory_row size t LDL_L a base disp = load_locked_plan size t LDL_L Long a (address_of base disp) (as_longword_with true a)
memory_row size t LDQ_L a base disp = load_locked_plan size t LDQ_L Quad a (address_of base disp) (as_read_with true a)
memory_row size t STB a base disp = store_plan size t STB Byte a (address_of base disp)
memory_row size t STW a base disp = store_plan size t STW Word a (address_of base disp)
memory_row size t STL a base disp = store_plan size t STL Long a (address_of base disp)
memory_row size t STQ a base disp = store_plan size t STQ Quad a (address_of base disp)
memory_row size t STQ_U a base disp = store_plan size t STQ_U Quad a (quadword_at (address_of base disp))
memory_row size t STL_C a base disp = store_conditional_plan size t STL_C Long a (address_of base disp)
memory_row size t STQ_C a base disp = store_conditional_plan size t STQ_C Quad a (address_of base disp)

-- where a branch goes on, and whether it links
abbrev pub branch_target : CpuState → BranchOp → ℕ → ℕ → ℕ
branch_target t op a disp = if is_taken op (register t.state a) then target_of (next_pc t) disp else next_pc t

abbrev pub branch_row : CpuState → BranchOp → ℕ → ℕ → Plan
branch_row t BR a disp = link_plan t a (branch_target t BR a disp)
branch_row t BSR a disp = link_plan t a (branch_target t BSR a disp)
branch_row t BLBC a disp = End (at_pc t (branch_target t BLBC a disp))
branch_row t BLBS a disp = End (at_pc t (branch_target t BLBS a disp))
branch_row t BEQ a disp = End (at_pc t (branch_target t BEQ a disp))
branch_row t BNE a disp = End (at_pc t (branch_target t BNE a disp))
branch_row t BLT a disp = End (at_pc t (branch_target t BLT a disp))
branch_row t BLE a disp = End (at_pc t (branch_target t BLE a disp))
branch_row t BGE a disp = End (at_pc t (branch_target t BGE a disp))
branch_row t BGT a disp = End (at_pc t (branch_target t BGT a disp))

-- a jump goes to Rb with its two low bits cleared, whatever its hint
abbrev pub jump_row : CpuState → ℕ → ℕ → Plan
jump_row t a b = link_plan t a (register t.state b / 4 * 4)

-- the second operand of the operate format
abbrev pub operand : CpuState → Operand → ℕ
operand t (Reg n pad) = register t.state n
operand t (Literal value) = value

-- a trap by an integer overflow tells the register that was written, by a bit of its number
abbrev pub overflow_cause : ℕ → Cause
overflow_cause c = Arith (2 ^ c)

-- the operate format: an overflow is trapped behind the instruction, whose result stands
abbrev pub operate_row : CpuState → Op → ℕ → ℕ → ℕ → Plan
operate_row t op a b c =
    if operate_opcode op == BYTE_OPCODE then register_plan t c (bytes.value_of op a b) else
    if integer.overflow_of op a b then raise_behind (with_value t c (integer.value_of op a b (register t.state c))) (overflow_cause c) else
    register_plan t c (integer.value_of op a b (register t.state c))

-- the counter of fetched instructions, below the offset
abbrev pub cycle_counter : CpuState → ℕ
cycle_counter t = offset_of t.state * 2 ^ 32 + fetched_of t.state

-- opcode 18
abbrev pub misc_row : CpuState → MiscOp → ℕ → Plan
misc_row t TRAPB a = next_plan t
misc_row t EXCB a = next_plan t
misc_row t FETCH a = next_plan t
misc_row t FETCH_M a = next_plan t
misc_row t ECB a = next_plan t
misc_row t WH64 a = next_plan t
misc_row t MB a = barrier_plan t Barrier
misc_row t WMB a = barrier_plan t WriteBarrier
misc_row t RPCC a = register_plan t a (cycle_counter t)

-- a PAL call with so many accesses left, behind those that gave these values: each is fixed by the state, which
-- stays until the end
abbrev pub calls_plan : ℕ → ℕ → PalOp → ℕ → List ℕ → CpuState → Plan
calls_plan size cpus op zero values t = End (called_in op values t)
calls_plan size cpus op (suc left) values t =
    next_plan_of size t (slice_get (asks_of op t.state cpus) (length values)) (λ u v. calls_plan size cpus op left (values ++ v ∷ []) u) (End (called_in op values t))

-- a PAL call: its accesses, or how it ends at once. halt (code 1) leaves the program counter behind it
abbrev pub call_plan : ℕ → ℕ → CpuState → PalOp → PalEnd → Plan
call_plan size cpus t op Ends = calls_plan size cpus op (length (asks_of op t.state cpus)) [] t
call_plan size cpus t op (Enters cause) = raise_behind t cause
call_plan size cpus t op (Halts code) = End (halted_by code (if code == HALTED then behind t else t))

abbrev pub pal_row : ℕ → ℕ → CpuState → PalOp → Plan
pal_row size cpus t op = call_plan size cpus t op (end_of op t.state cpus)

-- what an instruction does once its word is fetched
unfoldable pub row : ℕ → ℕ → CpuState → Instr → Plan
row size cpus t (Memory op a b disp) = memory_row size t op a (register t.state b) disp
row size cpus t (Branch op a disp) = branch_row t op a disp
row size cpus t (Jump kind a b hint) = jump_row t a b
row size cpus t (Operate op a b c) = operate_row t op (register t.state a) (operand t b) c
row size cpus t (Misc op a b) = misc_row t op a
row size cpus t (Pal op) = pal_row size cpus t op
row size cpus t (Floating word) = raise_plan t (If FLOATING_DISABLED)
row size cpus t (Reserved word) = raise_behind t (If RESERVED_INSTRUCTION)

-- what follows the fetch of a word
abbrev pub plan_of_word : ℕ → ℕ → CpuState → ℕ → Plan
plan_of_word size cpus t v = row size cpus (with_fetch_counted t) (instr_of (v % 2 ^ 32))

-- the fetch of the instruction at the program counter
abbrev pub fetch_of : CpuState → Ask
fetch_of t = virtual_ask Fetch (pc_of t.state) INSTRUCTION_BYTES 0

-- the group of an instruction: its fetch, and its row
abbrev pub instruction_plan : ℕ → ℕ → CpuState → Plan
instruction_plan size cpus t = reach_plan size t Instruction (fetch_of t) (plan_of_word size cpus)

-- an entry with so many words of its frame left to be written
abbrev pub saves_plan : ℕ → Cause → ℕ → CpuState → Plan
saves_plan size cause zero t = End (entered_in cause t)
saves_plan size cause (suc left) t =
    next_plan_of size t (slice_get (frame_of cause t.state) (length (frame_of cause t.state) - suc left)) (λ u v. saves_plan size cause left u) (End (entered_in cause t))

-- the group of an entry: the writes of its frame, and then the state in which the operating system begins
abbrev pub entry_group : ℕ → CpuState → Cause → Plan
entry_group size t cause = saves_plan size cause (length (frame_of cause t.state)) t

abbrev pub group_by : ℕ → ℕ → CpuState → Option Cause → Plan
group_by size cpus t None = instruction_plan size cpus t
group_by size cpus t (Some cause) = entry_group size t cause

-- the group that begins at a table state, in a memory of this size with so many processors
unfoldable pub group : ℕ → ℕ → CpuState → Plan
group size cpus t = group_by size cpus t t.pending

-- an entry that is raised follows at once: where its frame cannot be written, the processor halts
abbrev pub arrived_by : CpuState → Plan → CpuState
arrived_by t (End u) = u
arrived_by t (Want u w k) = t

abbrev pub arrived_in : ℕ → CpuState → Option Cause → CpuState
arrived_in size t None = t
arrived_in size t (Some cause) = arrived_by t (entry_group size t cause)

-- where a processor comes to by itself whose group ended in this table state
unfoldable pub arrived : ℕ → CpuState → CpuState
arrived size t = arrived_in size t t.pending
