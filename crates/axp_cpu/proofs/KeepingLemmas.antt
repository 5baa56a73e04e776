-- No plan of the instruction table adds or takes away a register, whatever the memory.
use Rattle.std.proofs.Common.{set, ◌≡◌, ℕ, zero, suc, ◌-◌, ◌*◌, ◌%◌, ◌^◌, Bool, true, false, cond, eqb, List, [], ◌∷◌, ◌++◌, length, rules, ◌∙◌}
use Rattle.axp_base.specs.Numbers.{sign_extended}
use Rattle.axp_base.specs.Sizes.{bytes_of, low_datum}
use Rattle.axp_base.specs.declared.sizes.Size.{Size}
use Rattle.axp_base.specs.declared.sizes.Size.TheVariants.{Byte, Word, Long, Quad}
use Rattle.axp_bytes.specs.Rows as bytes
use Rattle.axp_decode.specs.Format.{instr_of}
use Rattle.axp_decode.specs.Table.{operate_opcode}
use Rattle.axp_decode.specs.declared.numbers.TheConstants.{BYTE_OPCODE}
use Rattle.axp_decode.specs.declared.instructions.Instr.{Instr}
use Rattle.axp_decode.specs.declared.instructions.Instr.TheVariants as instr
use Rattle.axp_decode.specs.declared.names.BranchOp.{BranchOp}
use Rattle.axp_decode.specs.declared.names.BranchOp.TheVariants as branch
use Rattle.axp_decode.specs.declared.names.MemOp.{MemOp}
use Rattle.axp_decode.specs.declared.names.MemOp.TheVariants as memory
use Rattle.axp_decode.specs.declared.names.MiscOp.{MiscOp}
use Rattle.axp_decode.specs.declared.names.MiscOp.TheVariants as misc
use Rattle.axp_decode.specs.declared.names.Op.{Op}
use Rattle.axp_decode.specs.declared.names.PalOp.{PalOp}
use Rattle.axp_decode.specs.declared.names.PalOp.TheVariants as pal
use Rattle.axp_integer.specs.Rows as integer
use Rattle.axp_regs.specs.States.{ps_of, register, with_entry, with_pc, with_register}
use Rattle.axp_regs.specs.declared.states.State.{State}
use Rattle.axp_regs.specs.declared.asks.Ask.{Ask}
use Rattle.axp_regs.specs.declared.asks.Kind.{Kind}
use Rattle.axp_regs.specs.declared.asks.Kind.TheVariants.{Read, Write, Locked, Conditional}
use Rattle.axp_regs.specs.declared.states.TheConstants.{ENTRIES, ZERO_REGISTER}
use Rattle.axp_cpu.specs.declared.cpu_states.CpuState.{CpuState}
use Rattle.axp_cpu.specs.Plans.{Plan, End, Want, given, along}
use Rattle.axp_cpu.specs.Rows.{address_of, as_longword, as_longword_with, as_made, as_read, as_read_with, branch_row, call_plan, calls_plan, cycle_counter, datum_plan, fetch_of, group, group_by, arrived, arrived_by, arrived_in, entry_group, high_address_of, load_plan, memory_row, misc_row, next_plan, operand, operate_row, overflow_cause, plan_of_word, quadword_at, raise_behind, register_plan, row, saves_plan, virtual_ask}
use Rattle.axp_cpu.specs.Translation.{fault_in, next_plan_of, reach_plan}
use Rattle.axp_cpu.specs.declared.translation.Origin.{Origin}
use Rattle.axp_cpu.specs.declared.translation.Origin.TheVariants.{Frame, Instruction}
use Rattle.axp_pte.specs.declared.faults.MmFault.{MmFault}
use Rattle.axp_pal.specs.Calls.{asks_of, end_of, ends, finished}
use Rattle.axp_pal.specs.Returns.{to_mode}
use Rattle.axp_pal.specs.declared.plans.TheConstants.{HALTED}
use Rattle.axp_trap.specs.declared.registers.TheConstants.{A0, A1, A2, GP, SP}
use Rattle.axp_trap.specs.Status.{mode_of}
use Rattle.axp_pte.specs.declared.faults.Mode.{Mode}
use Rattle.axp_pte.specs.declared.faults.Mode.TheVariants as mode
use Rattle.axp_pal.specs.declared.plans.PalEnd.{PalEnd}
use Rattle.axp_pal.specs.declared.plans.PalEnd.TheVariants.{Ends, Enters, Halts}
use Rattle.axp_trap.specs.Entering.{entered}
use Rattle.axp_trap.specs.Entries as trap
use Rattle.axp_trap.specs.Frames.{frame_address, frame_of}
use Rattle.axp_trap.specs.declared.causes.Cause.{Cause}
use Rattle.std.specs.Prelude.{slice_get, slice_index, nat_lt, ◌/◌, Option, Some, None}
use Rattle.axp_cpu.specs.CpuStates.{behind, called_in, entered_in, next_pc, with_fetch_counted, with_lock_flag, with_value}
use Rattle.axp_cpu.proofs.ReachLemmas.{Carries, HasKept, ask_carries, itself, reach_carries}
use Rattle.std.proofs.lemmas.List.{length-set}
use Rattle.axp_regs.specs.States.{kgp_of}
use Rattle.axp_trap.specs.Entering.{kept_in, with_argument}

-- a state has so many registers
abbrev pub Has : ℕ → State → Type 0
Has n s = length s.registers ≡ n

-- each end of a plan has so many registers
abbrev pub Keeps : ℕ → Plan → Type 0
Keeps n (End t) = Has n t.state
Keeps n (Want t w k) = (v : ℕ) → Keeps n (k v)

pub written_has : (s : State) (n a v : ℕ) → Has n s → Has n (with_register s a v)
written_has s n a v has = by (eqb a ZERO_REGISTER) where
  by : (is_zero : Bool) → Has n (cond is_zero s (record s { registers = set s.registers a v }))
  by true = has
  by false = length-set s.registers a v ∙ has

-- a plan behind a test
tested : (b : Bool) (n : ℕ) (p q : Plan) → Keeps n p → Keeps n q → Keeps n (cond b p q)
tested true n p q left right = left
tested false n p q left right = right

-- a state in which a translation is kept has the same registers
kept_has : (n : ℕ) (t u : CpuState) → Has n t.state → HasKept t u → Has n u.state
kept_has n t u has kept = rw kept.state has

fault_has : (origin : Origin) (ask : Ask) (fault : MmFault) (t : CpuState) (n : ℕ) → Has n t.state → Has n (fault_in origin ask fault t).state
fault_has Instruction ask fault t n has = has
fault_has Frame ask fault t n has = has

-- the access by which an address is reached, where what follows keeps registers
reached_keeps : (size n : ℕ) (t : CpuState) (origin : Origin) (ask : Ask) (k : CpuState → ℕ → Plan) → Has n t.state → ((u : CpuState) → HasKept t u → (v : ℕ) → Keeps n (k u v)) → Carries (Keeps n) size t origin ask k
reached_keeps size n t origin ask k has keeps = record {
  fault = λ fault. fault_has origin ask fault t n has;
  beyond = λ u kept. kept_has n t u has kept;
  entry = λ address below whole next follows. follows;
  access = λ u kept address below alike. keeps u kept;
}

datum_keeps : (size : ℕ) (t : CpuState) (op : MemOp) (a : ℕ) (kind : Kind) (what : Size) (address value n : ℕ) (k : CpuState → ℕ → Plan) → Has n t.state → ((u : CpuState) → HasKept t u → (v : ℕ) → Keeps n (k u v)) → Keeps n (datum_plan size t op a kind what address value k)
datum_keeps size t op a kind what address value n k has keeps =
    tested (eqb (address % bytes_of what) 0) n (reach_plan size t Instruction (virtual_ask kind address (bytes_of what) value) k) _
    (reach_carries (Keeps n) size t Instruction (virtual_ask kind address (bytes_of what) value) k (reached_keeps size n t Instruction (virtual_ask kind address (bytes_of what) value) k has keeps)) has

loaded_keeps : (size : ℕ) (t : CpuState) (op : MemOp) (what : Size) (a address n : ℕ) (k : CpuState → ℕ → Plan) → Has n t.state → ((u : CpuState) → HasKept t u → (v : ℕ) → Keeps n (k u v)) → Keeps n (load_plan size t op what a address k)
loaded_keeps size t op what a address n k has keeps = tested (eqb a ZERO_REGISTER) n (next_plan t) _ has (datum_keeps size t op a Read what address 0 n k has keeps)

memory_keeps : (size : ℕ) (t : CpuState) (op : MemOp) (a base disp n : ℕ) → Has n t.state → Keeps n (memory_row size t op a base disp)
memory_keeps size t memory.LDA a base disp n has = written_has t.state n a (address_of base disp) has
memory_keeps size t memory.LDAH a base disp n has = written_has t.state n a (high_address_of base disp) has
memory_keeps size t memory.LDBU a base disp n has = loaded_keeps size t memory.LDBU Byte a (address_of base disp) n (as_read a) has (λ u kept v. written_has u.state n a v (kept_has n t u has kept))
memory_keeps size t memory.LDWU a base disp n has = loaded_keeps size t memory.LDWU Word a (address_of base disp) n (as_read a) has (λ u kept v. written_has u.state n a v (kept_has n t u has kept))
memory_keeps size t memory.LDL a base disp n has = loaded_keeps size t memory.LDL Long a (address_of base disp) n (as_longword a) has (λ u kept v. written_has u.state n a (sign_extended 32 v) (kept_has n t u has kept))
memory_keeps size t memory.LDQ a base disp n has = loaded_keeps size t memory.LDQ Quad a (address_of base disp) n (as_read a) has (λ u kept v. written_has u.state n a v (kept_has n t u has kept))
memory_keeps size t memory.LDQ_U a base disp n has = loaded_keeps size t memory.LDQ_U Quad a (quadword_at (address_of base disp)) n (as_read a) has (λ u kept v. written_has u.state n a v (kept_has n t u has kept))
memory_keeps size t memory.LDL_L a base disp n has = datum_keeps size t memory.LDL_L a Locked Long (address_of base disp) 0 n (as_longword_with true a) has (λ u kept v. written_has (with_lock_flag u true).state n a (sign_extended 32 v) (kept_has n t u has kept))
memory_keeps size t memory.LDQ_L a base disp n has = datum_keeps size t memory.LDQ_L a Locked Quad (address_of base disp) 0 n (as_read_with true a) has (λ u kept v. written_has (with_lock_flag u true).state n a v (kept_has n t u has kept))
memory_keeps size t memory.STB a base disp n has = datum_keeps size t memory.STB a Write Byte (address_of base disp) (low_datum Byte (register t.state a)) n as_made has (λ u kept v. kept_has n t u has kept)
memory_keeps size t memory.STW a base disp n has = datum_keeps size t memory.STW a Write Word (address_of base disp) (low_datum Word (register t.state a)) n as_made has (λ u kept v. kept_has n t u has kept)
memory_keeps size t memory.STL a base disp n has = datum_keeps size t memory.STL a Write Long (address_of base disp) (low_datum Long (register t.state a)) n as_made has (λ u kept v. kept_has n t u has kept)
memory_keeps size t memory.STQ a base disp n has = datum_keeps size t memory.STQ a Write Quad (address_of base disp) (low_datum Quad (register t.state a)) n as_made has (λ u kept v. kept_has n t u has kept)
memory_keeps size t memory.STQ_U a base disp n has = datum_keeps size t memory.STQ_U a Write Quad (quadword_at (address_of base disp)) (low_datum Quad (register t.state a)) n as_made has (λ u kept v. kept_has n t u has kept)
memory_keeps size t memory.STL_C a base disp n has = datum_keeps size t memory.STL_C a Conditional Long (address_of base disp) (low_datum Long (register t.state a)) n (as_read_with false a) has (λ u kept v. written_has (with_lock_flag u false).state n a v (kept_has n t u has kept))
memory_keeps size t memory.STQ_C a base disp n has = datum_keeps size t memory.STQ_C a Conditional Quad (address_of base disp) (low_datum Quad (register t.state a)) n (as_read_with false a) has (λ u kept v. written_has (with_lock_flag u false).state n a v (kept_has n t u has kept))

branch_keeps : (t : CpuState) (op : BranchOp) (a disp n : ℕ) → Has n t.state → Keeps n (branch_row t op a disp)
branch_keeps t branch.BR a disp n has = written_has t.state n a (next_pc t) has
branch_keeps t branch.BSR a disp n has = written_has t.state n a (next_pc t) has
branch_keeps t branch.BLBC a disp n has = has
branch_keeps t branch.BLBS a disp n has = has
branch_keeps t branch.BEQ a disp n has = has
branch_keeps t branch.BNE a disp n has = has
branch_keeps t branch.BLT a disp n has = has
branch_keeps t branch.BLE a disp n has = has
branch_keeps t branch.BGE a disp n has = has
branch_keeps t branch.BGT a disp n has = has

operate_keeps : (t : CpuState) (op : Op) (a b c n : ℕ) → Has n t.state → Keeps n (operate_row t op a b c)
operate_keeps t op a b c n has =
    let computed = integer.value_of op a b (register t.state c) in
    tested (eqb (operate_opcode op) BYTE_OPCODE) n (register_plan t c (bytes.value_of op a b)) _ (written_has t.state n c (bytes.value_of op a b) has)
    (tested (integer.overflow_of op a b) n (raise_behind (with_value t c computed) (overflow_cause c)) (register_plan t c computed) (written_has t.state n c computed has) (written_has t.state n c computed has))

misc_keeps : (t : CpuState) (op : MiscOp) (a n : ℕ) → Has n t.state → Keeps n (misc_row t op a)
misc_keeps t misc.TRAPB a n has = has
misc_keeps t misc.EXCB a n has = has
misc_keeps t misc.FETCH a n has = has
misc_keeps t misc.FETCH_M a n has = has
misc_keeps t misc.ECB a n has = has
misc_keeps t misc.WH64 a n has = has
misc_keeps t misc.MB a n has = λ v. has
misc_keeps t misc.WMB a n has = λ v. has
misc_keeps t misc.RPCC a n has = written_has t.state n a (cycle_counter t) has

-- what an entry and a PAL call make of the state
argument_has : (a : ℕ) (o : Option ℕ) (s : State) (n : ℕ) → Has n s → Has n (with_argument a o s)
argument_has a None s n has = has
argument_has a (Some v) s n has = written_has s n a v has

entered_has : (cause : Cause) (s : State) (n : ℕ) → Has n s → Has n (entered cause s)
entered_has cause s n has =
    let r = trap.row_of cause in
    argument_has A2 r.a2 _ n (argument_has A1 r.a1 _ n (argument_has A0 r.a0 _ n (on_stack_has (mode_of (ps_of s))))) where
      on_stack_has : (m : Mode) → Has n (with_register (with_register (kept_in m s) SP (frame_address s)) GP (kgp_of s))
      on_stack_has mode.User = search rules
      on_stack_has mode.Kernel = search rules

to_mode_has : (m : Mode) (status : ℕ) (s : State) (n : ℕ) → Has n s → Has n (to_mode m status s)
to_mode_has mode.User status s n has = search rules
to_mode_has mode.Kernel status s n has = search rules

with_entry_has : (s : State) (e v n : ℕ) (below : Bool) → Has n s → Has n (cond below (with_entry s e v) s)
with_entry_has s e v n true has = has
with_entry_has s e v n false has = has

finished_has : (op : PalOp) (s : State) (values : List ℕ) (n : ℕ) → Has n s → Has n (finished op s values)
unfolding finished
finished_has pal.WRENT s values n has = with_entry_has s (register s A1) (register s A0 / 4 * 4) n (nat_lt (register s A1) ENTRIES) has
finished_has pal.RETSYS s values n has = let inner = to_mode_has mode.User 0 s n has in search rules
finished_has pal.RTI s values n has = let inner = to_mode_has (mode_of (slice_index values 0)) (slice_index values 0) s n has in search rules
finished_has op s values n has = search rules

-- an access of an entry or a call, and what follows
ask_keeps : (size n : ℕ) (t : CpuState) (o : Option Ask) (k : CpuState → ℕ → Plan) (p : Plan) → Has n t.state → ((u : CpuState) → HasKept t u → (v : ℕ) → Keeps n (k u v)) → Keeps n p → Keeps n (next_plan_of size t o k p)
ask_keeps size n t None k p has keeps ended = ended
ask_keeps size n t (Some ask) k p has keeps ended = ask_carries (Keeps n) size t ask k (record {
  halts = has;
  beyond = has;
  direct = λ direct below. keeps t (itself t);
  framed = λ framed aligned. reached_keeps size n t Frame ask k has keeps;
})

saves_keep : (size : ℕ) (cause : Cause) (left : ℕ) (t : CpuState) (n : ℕ) → Has n t.state → Keeps n (saves_plan size cause left t)
saves_keep size cause zero t n has = entered_has cause t.state n has
saves_keep size cause (suc left) t n has =
    ask_keeps size n t (slice_get (frame_of cause t.state) (length (frame_of cause t.state) - suc left)) (λ u v. saves_plan size cause left u) (End (entered_in cause t)) has (λ u kept v. saves_keep size cause left u n (kept_has n t u has kept)) (entered_has cause t.state n has)

calls_keep : (size cpus : ℕ) (op : PalOp) (left : ℕ) (values : List ℕ) (t : CpuState) (n : ℕ) → Has n t.state → Keeps n (calls_plan size cpus op left values t)
calls_keep size cpus op zero values t n has = finished_has op (with_pc t.state (next_pc t)) values n has
calls_keep size cpus op (suc left) values t n has =
    ask_keeps size n t (slice_get (asks_of op t.state cpus) (length values)) (λ u v. calls_plan size cpus op left (values ++ v ∷ []) u) (End (called_in op values t)) has
    (λ u kept v. calls_keep size cpus op left (values ++ v ∷ []) u n (kept_has n t u has kept)) (finished_has op (with_pc t.state (next_pc t)) values n has)

halt_has : (t : CpuState) (b : Bool) (n : ℕ) → Has n t.state → Has n (cond b (behind t) t).state
halt_has t true n has = has
halt_has t false n has = has

call_keeps : (size cpus : ℕ) (t : CpuState) (op : PalOp) (end : PalEnd) (n : ℕ) → Has n t.state → Keeps n (call_plan size cpus t op end)
call_keeps size cpus t op Ends n has = calls_keep size cpus op (length (asks_of op t.state cpus)) [] t n has
call_keeps size cpus t op (Enters cause) n has = has
call_keeps size cpus t op (Halts code) n has = halt_has t (eqb code HALTED) n has

row_keeps : (size cpus : ℕ) (t : CpuState) (i : Instr) (n : ℕ) → Has n t.state → Keeps n (row size cpus t i)
unfolding row
row_keeps size cpus t (instr.Memory op a b disp) n has = memory_keeps size t op a (register t.state b) disp n has
row_keeps size cpus t (instr.Branch op a disp) n has = branch_keeps t op a disp n has
row_keeps size cpus t (instr.Jump kind a b hint) n has = written_has t.state n a (next_pc t) has
row_keeps size cpus t (instr.Operate op a b c) n has = operate_keeps t op (register t.state a) (operand t b) c n has
row_keeps size cpus t (instr.Misc op a b) n has = misc_keeps t op a n has
row_keeps size cpus t (instr.Pal op) n has = call_keeps size cpus t op (end_of op t.state cpus) n has
row_keeps size cpus t (instr.Floating word) n has = has
row_keeps size cpus t (instr.Reserved word) n has = has

group_by_keeps : (size cpus : ℕ) (t : CpuState) (o : Option Cause) (n : ℕ) → Has n t.state → Keeps n (group_by size cpus t o)
group_by_keeps size cpus t None n has =
    reach_carries (Keeps n) size t Instruction (fetch_of t) (plan_of_word size cpus)
    (reached_keeps size n t Instruction (fetch_of t) (plan_of_word size cpus) has (λ u kept v. row_keeps size cpus (with_fetch_counted u) (instr_of (v % 2 ^ 32)) n (kept_has n t u has kept)))
group_by_keeps size cpus t (Some cause) n has = saves_keep size cause (length (frame_of cause t.state)) t n has

pub group_keeps : (size cpus : ℕ) (t : CpuState) (n : ℕ) → Has n t.state → Keeps n (group size cpus t)
unfolding group
group_keeps size cpus t n has = group_by_keeps size cpus t t.pending n has

given_keeps : (n v : ℕ) (p : Plan) → Keeps n p → Keeps n (given v p)
given_keeps n v (End t) ends = ends
given_keeps n v (Want t w k) ends = ends v

pub along_keeps : (n : ℕ) (vs : List ℕ) (p : Plan) → Keeps n p → Keeps n (along vs p)
along_keeps n [] p ends = ends
along_keeps n (v ∷ vs) p ends = along_keeps n vs (given v p) (given_keeps n v p ends)

-- an entry that follows at once
arrived_by_has : (n : ℕ) (t : CpuState) (p : Plan) → Has n t.state → Keeps n p → Has n (arrived_by t p).state
arrived_by_has n t (End u) has keeps = keeps
arrived_by_has n t (Want u w k) has keeps = has

arrived_in_has : (size n : ℕ) (t : CpuState) (o : Option Cause) → Has n t.state → Has n (arrived_in size t o).state
arrived_in_has size n t None has = has
arrived_in_has size n t (Some cause) has = arrived_by_has n t (entry_group size t cause) has (saves_keep size cause (length (frame_of cause t.state)) t n has)

pub arrived_has : (size n : ℕ) (t : CpuState) → Has n t.state → Has n (arrived size t).state
unfolding arrived
arrived_has size n t has = arrived_in_has size n t t.pending has
