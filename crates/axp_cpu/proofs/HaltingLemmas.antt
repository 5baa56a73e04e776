-- A group that halts its processor leaves the registers as they were, and the program counter, which halt alone
-- leaves behind itself.
use Rattle.std.proofs.Common.{◌≢◌, ap, subst, ◌≡◌, ℕ, zero, suc, ◌-◌, ◌%◌, ◌^◌, Bool, true, false, cond, eqb, List, [], ◌∷◌, ◌++◌, length, arith, refl, sym, ◌∙◌}
use Rattle.axp_base.specs.Sizes.{bytes_of, low_datum}
use Rattle.axp_base.specs.declared.sizes.Size.{Size}
use Rattle.axp_base.specs.declared.sizes.Size.TheVariants.{Byte, Word, Long, Quad}
use Rattle.axp_bytes.specs.Rows as bytes
use Rattle.axp_decode.specs.Format.{instr_of}
use Rattle.axp_decode.specs.Table.{operate_opcode}
use Rattle.axp_decode.specs.declared.numbers.TheConstants.{BYTE_OPCODE}
use Rattle.axp_decode.specs.declared.instructions.Instr.{Instr}
use Rattle.axp_decode.specs.declared.instructions.Instr.TheVariants as instr
use Rattle.axp_decode.specs.declared.names.BranchOp.{BranchOp}
use Rattle.axp_decode.specs.declared.names.BranchOp.TheVariants as branch
use Rattle.axp_decode.specs.declared.names.MemOp.{MemOp}
use Rattle.axp_decode.specs.declared.names.MemOp.TheVariants as memory
use Rattle.axp_decode.specs.declared.names.MiscOp.{MiscOp}
use Rattle.axp_decode.specs.declared.names.MiscOp.TheVariants as misc
use Rattle.axp_decode.specs.declared.names.Op.{Op}
use Rattle.axp_decode.specs.declared.names.PalOp.{PalOp}
use Rattle.axp_decode.specs.declared.names.PalOp.TheVariants as pal
use Rattle.axp_image.specs.declared.limits.TheConstants.{INSTRUCTION_BYTES}
use Rattle.axp_integer.specs.Rows as integer
use Rattle.axp_regs.specs.States.{pc_of, ps_of, register, with_pc}
use Rattle.axp_regs.specs.declared.states.State.{State}
use Rattle.axp_regs.specs.declared.asks.Ask.{Ask}
use Rattle.axp_regs.specs.declared.asks.Kind.{Kind}
use Rattle.axp_regs.specs.declared.asks.Kind.TheVariants.{Read, Write, Locked, Conditional, Console}
use Rattle.axp_regs.specs.declared.states.TheConstants.{ZERO_REGISTER}
use Rattle.axp_cpu.specs.declared.cpu_states.CpuState.{CpuState}
use Rattle.axp_cpu.specs.Plans.{Plan, End, Want, given, along}
use Rattle.axp_cpu.specs.Rows.{address_of, as_longword, as_longword_with, as_made, as_read, as_read_with, branch_row, call_plan, calls_plan, datum_plan, fetch_of, group, group_by, arrived, arrived_by, arrived_in, entry_group, load_plan, memory_row, misc_row, next_plan, operand, operate_row, overflow_cause, plan_of_word, quadword_at, raise_behind, register_plan, row, saves_plan, virtual_ask}
use Rattle.axp_cpu.specs.Translation.{fault_in, next_plan_of, reach_plan}
use Rattle.axp_cpu.specs.declared.translation.Origin.{Origin}
use Rattle.axp_cpu.specs.declared.translation.Origin.TheVariants.{Frame, Instruction}
use Rattle.axp_pte.specs.declared.faults.MmFault.{MmFault}
use Rattle.axp_pal.specs.Calls.{at_once, system_call_end, asks_of, bare_ask, end_of, ends, faults, is_privileged, row_in, row_of}
use Rattle.axp_pal.specs.declared.plans.TheConstants.{CONSOLE_SERVICE, HALTED}
use Rattle.axp_trap.specs.declared.causes.TheConstants.{RESERVED_INSTRUCTION}
use Rattle.axp_trap.specs.declared.registers.TheConstants.{A0, A1}
use Rattle.axp_trap.specs.Status.{mode_of}
use Rattle.axp_pte.specs.declared.faults.Mode.{Mode}
use Rattle.axp_pte.specs.declared.faults.Mode.TheVariants as mode
use Rattle.axp_pal.specs.declared.plans.PalEnd.{PalEnd}
use Rattle.axp_pal.specs.declared.plans.PalEnd.TheVariants.{Ends, Enters, Halts}
use Rattle.axp_trap.specs.Frames.{frame_of}
use Rattle.axp_trap.specs.declared.causes.Cause.{Cause}
use Rattle.std.specs.Prelude.{slice_get, Option, Some, None}
use Rattle.std.proofs.lemmas.Bool.{eqb-true}
use Rattle.axp_base.specs.Numbers.{add}
use Rattle.axp_cpu.specs.CpuStates.{behind, called_in, entered_in, with_fetch_counted, with_value}
use Rattle.axp_cpu.proofs.ReachLemmas.{Carries, HasKept, ask_carries, reach_carries}
use Rattle.std.proofs.lemmas.Bool.{eq-eqb}
use Rattle.axp_pal.specs.declared.plans.TheConstants.{KERNEL_SYSTEM_CALL}
use Rattle.axp_cpu.specs.Halting.{IsHaltCode, Leaves, pc_after}
use Rattle.axp_cpu.specs.declared.cpu_states.TheConstants.{BEYOND_MEMORY, FRAME_FAULT}
use Rattle.axp_cpu.specs.CpuStates.{halted_by}
use Rattle.axp_regs.specs.States.{with_fetched}

-- a group of this state goes on, and so far it has its registers
record Runs (s : State) (t : CpuState) : Type 0 where
  going : t.halted ≡ None
  state : with_fetched t.state 0 ≡ with_fetched s 0

runs_kept : (s : State) (t u : CpuState) → Runs s t → HasKept t u → Runs s u
runs_kept s t u runs kept = record { going = kept.halted ∙ runs.going; state = ap (λ (x : State). with_fetched x 0) kept.state ∙ runs.state }

-- what each end of a plan leaves
abbrev pub LeavesBehind : State → Plan → Type 0
LeavesBehind s (End t) = Leaves s t
LeavesBehind s (Want t w k) = (v : ℕ) → LeavesBehind s (k v)

goes_on : (s : State) (u : CpuState) → u.halted ≡ None → Leaves s u
goes_on s u going = record { code = λ code is. let never : None ≡ Some code = sym going ∙ is in cc; state = λ code is. let never : None ≡ Some code = sym going ∙ is in cc; pc = λ code is. let never : None ≡ Some code = sym going ∙ is in cc }

-- halted where it stands, by another code than halt's
stands_halted : (s : State) (t : CpuState) (code : ℕ) → IsHaltCode code → code ≢ HALTED → Runs s t → Leaves s (halted_by code t)
stands_halted s t code known other runs = record {
  code = λ c is. let same : code ≡ c = cc in subst IsHaltCode same known;
  state = λ c is. ap (λ (x : State). with_pc x 0) runs.state;
  pc = λ c is. let same : code ≡ c = cc in subst (λ m. pc_of t.state ≡ pc_after m s) same (by (eqb code HALTED) refl);
} where
  by : (halts : Bool) → eqb code HALTED ≡ halts → pc_of t.state ≡ cond halts (add (pc_of s) INSTRUCTION_BYTES) (pc_of s)
  by true is = absurd (other (eqb-true code HALTED is))
  by false is = ap pc_of runs.state

-- halted by halt
halts_behind : (s : State) (t : CpuState) → Runs s t → Leaves s (halted_by HALTED (behind t))
halts_behind s t runs = record {
  code = λ c is. let same : HALTED ≡ c = cc in subst IsHaltCode same (omega arith, omega arith);
  state = λ c is. ap (λ (x : State). with_pc x 0) runs.state;
  pc = λ c is. let same : HALTED ≡ c = cc in subst (λ m. add (pc_of t.state) INSTRUCTION_BYTES ≡ pc_after m s) same (ap (λ (x : State). add (pc_of x) INSTRUCTION_BYTES) runs.state);
}

-- the codes by which a call halts
row_codes : (op : PalOp) (s : State) (cpus code : ℕ) → (row_of op s cpus).end ≡ Halts code → IsHaltCode code
unfolding row_of
row_codes pal.HALT s cpus code is = let same : HALTED ≡ code = cc in subst IsHaltCode same (omega arith, omega arith)
row_codes pal.CALLSYS s cpus code is = call_by (mode_of (ps_of s)) is where
  call_by : (m : Mode) → (at_once (system_call_end m)).end ≡ Halts code → IsHaltCode code
  call_by mode.Kernel is = let same : KERNEL_SYSTEM_CALL ≡ code = cc in subst IsHaltCode same (omega arith, omega arith)
  call_by mode.User is = cc
row_codes pal.CSERVE s cpus code is = served (eqb (register s A0) CONSOLE_SERVICE) is where
  served : (b : Bool) → (cond b (ends (bare_ask Console (register s A1 % 2 ^ 8) ∷ [])) (faults RESERVED_INSTRUCTION)).end ≡ Halts code → IsHaltCode code
  served true is = cc
  served false is = cc
row_codes op s cpus code is = cc

halt_codes : (op : PalOp) (s : State) (cpus code : ℕ) → end_of op s cpus ≡ Halts code → IsHaltCode code
halt_codes op s cpus code is = by (mode_of (ps_of s)) is where
  by : (m : Mode) → (row_in m op s cpus).end ≡ Halts code → IsHaltCode code
  by mode.Kernel is = row_codes op s cpus code is
  by mode.User is = reserved (is_privileged op) is where
    reserved : (b : Bool) → (cond b (faults RESERVED_INSTRUCTION) (row_of op s cpus)).end ≡ Halts code → IsHaltCode code
    reserved true is = cc
    reserved false is = row_codes op s cpus code is

-- a plan behind a test
tested : (b : Bool) (s : State) (p q : Plan) → LeavesBehind s p → LeavesBehind s q → LeavesBehind s (cond b p q)
tested true s p q left right = left
tested false s p q left right = right

frame_halts : (s : State) (t : CpuState) → Runs s t → Leaves s (halted_by FRAME_FAULT t)
frame_halts s t runs = stands_halted s t FRAME_FAULT (omega arith, omega arith) (λ is. cc) runs

beyond_halts : (s : State) (t : CpuState) → Runs s t → Leaves s (halted_by BEYOND_MEMORY t)
beyond_halts s t runs = stands_halted s t BEYOND_MEMORY (omega arith, omega arith) (λ is. cc) runs

fault_leaves : (origin : Origin) (ask : Ask) (fault : MmFault) (s : State) (t : CpuState) → Runs s t → Leaves s (fault_in origin ask fault t)
fault_leaves Instruction ask fault s t runs = goes_on s _ runs.going
fault_leaves Frame ask fault s t runs = frame_halts s t runs

-- the access by which an address is reached
reached_leaves : (size : ℕ) (s : State) (t : CpuState) (origin : Origin) (ask : Ask) (k : CpuState → ℕ → Plan) → Runs s t → ((u : CpuState) → Runs s u → (v : ℕ) → LeavesBehind s (k u v)) → Carries (LeavesBehind s) size t origin ask k
reached_leaves size s t origin ask k runs leaves = record {
  fault = λ fault. fault_leaves origin ask fault s t runs;
  beyond = λ u kept. beyond_halts s u (runs_kept s t u runs kept);
  entry = λ address below whole next follows. follows;
  access = λ u kept address below alike. leaves u (runs_kept s t u runs kept);
}

datum_leaves : (size : ℕ) (s : State) (t : CpuState) (op : MemOp) (a : ℕ) (kind : Kind) (what : Size) (address value : ℕ) (k : CpuState → ℕ → Plan) → Runs s t → ((u : CpuState) → Runs s u → (v : ℕ) → LeavesBehind s (k u v)) → LeavesBehind s (datum_plan size t op a kind what address value k)
datum_leaves size s t op a kind what address value k runs leaves =
    tested (eqb (address % bytes_of what) 0) s (reach_plan size t Instruction (virtual_ask kind address (bytes_of what) value) k) _
    (reach_carries (LeavesBehind s) size t Instruction (virtual_ask kind address (bytes_of what) value) k (reached_leaves size s t Instruction (virtual_ask kind address (bytes_of what) value) k runs leaves)) (goes_on s _ runs.going)

loaded_leaves : (size : ℕ) (s : State) (t : CpuState) (op : MemOp) (what : Size) (a address : ℕ) (k : CpuState → ℕ → Plan) → Runs s t → ((u : CpuState) → Runs s u → (v : ℕ) → LeavesBehind s (k u v)) → LeavesBehind s (load_plan size t op what a address k)
loaded_leaves size s t op what a address k runs leaves = tested (eqb a ZERO_REGISTER) s (next_plan t) _ (goes_on s _ runs.going) (datum_leaves size s t op a Read what address 0 k runs leaves)

memory_leaves : (size : ℕ) (s : State) (t : CpuState) (op : MemOp) (a base disp : ℕ) → Runs s t → LeavesBehind s (memory_row size t op a base disp)
memory_leaves size s t memory.LDA a base disp runs = goes_on s _ runs.going
memory_leaves size s t memory.LDAH a base disp runs = goes_on s _ runs.going
memory_leaves size s t memory.LDBU a base disp runs = loaded_leaves size s t memory.LDBU Byte a (address_of base disp) (as_read a) runs (λ u on v. goes_on s _ on.going)
memory_leaves size s t memory.LDWU a base disp runs = loaded_leaves size s t memory.LDWU Word a (address_of base disp) (as_read a) runs (λ u on v. goes_on s _ on.going)
memory_leaves size s t memory.LDL a base disp runs = loaded_leaves size s t memory.LDL Long a (address_of base disp) (as_longword a) runs (λ u on v. goes_on s _ on.going)
memory_leaves size s t memory.LDQ a base disp runs = loaded_leaves size s t memory.LDQ Quad a (address_of base disp) (as_read a) runs (λ u on v. goes_on s _ on.going)
memory_leaves size s t memory.LDQ_U a base disp runs = loaded_leaves size s t memory.LDQ_U Quad a (quadword_at (address_of base disp)) (as_read a) runs (λ u on v. goes_on s _ on.going)
memory_leaves size s t memory.LDL_L a base disp runs = datum_leaves size s t memory.LDL_L a Locked Long (address_of base disp) 0 (as_longword_with true a) runs (λ u on v. goes_on s _ on.going)
memory_leaves size s t memory.LDQ_L a base disp runs = datum_leaves size s t memory.LDQ_L a Locked Quad (address_of base disp) 0 (as_read_with true a) runs (λ u on v. goes_on s _ on.going)
memory_leaves size s t memory.STB a base disp runs = datum_leaves size s t memory.STB a Write Byte (address_of base disp) (low_datum Byte (register t.state a)) as_made runs (λ u on v. goes_on s _ on.going)
memory_leaves size s t memory.STW a base disp runs = datum_leaves size s t memory.STW a Write Word (address_of base disp) (low_datum Word (register t.state a)) as_made runs (λ u on v. goes_on s _ on.going)
memory_leaves size s t memory.STL a base disp runs = datum_leaves size s t memory.STL a Write Long (address_of base disp) (low_datum Long (register t.state a)) as_made runs (λ u on v. goes_on s _ on.going)
memory_leaves size s t memory.STQ a base disp runs = datum_leaves size s t memory.STQ a Write Quad (address_of base disp) (low_datum Quad (register t.state a)) as_made runs (λ u on v. goes_on s _ on.going)
memory_leaves size s t memory.STQ_U a base disp runs = datum_leaves size s t memory.STQ_U a Write Quad (quadword_at (address_of base disp)) (low_datum Quad (register t.state a)) as_made runs (λ u on v. goes_on s _ on.going)
memory_leaves size s t memory.STL_C a base disp runs = datum_leaves size s t memory.STL_C a Conditional Long (address_of base disp) (low_datum Long (register t.state a)) (as_read_with false a) runs (λ u on v. goes_on s _ on.going)
memory_leaves size s t memory.STQ_C a base disp runs = datum_leaves size s t memory.STQ_C a Conditional Quad (address_of base disp) (low_datum Quad (register t.state a)) (as_read_with false a) runs (λ u on v. goes_on s _ on.going)

branch_leaves : (s : State) (t : CpuState) (op : BranchOp) (a disp : ℕ) → Runs s t → LeavesBehind s (branch_row t op a disp)
branch_leaves s t branch.BR a disp runs = goes_on s _ runs.going
branch_leaves s t branch.BSR a disp runs = goes_on s _ runs.going
branch_leaves s t branch.BLBC a disp runs = goes_on s _ runs.going
branch_leaves s t branch.BLBS a disp runs = goes_on s _ runs.going
branch_leaves s t branch.BEQ a disp runs = goes_on s _ runs.going
branch_leaves s t branch.BNE a disp runs = goes_on s _ runs.going
branch_leaves s t branch.BLT a disp runs = goes_on s _ runs.going
branch_leaves s t branch.BLE a disp runs = goes_on s _ runs.going
branch_leaves s t branch.BGE a disp runs = goes_on s _ runs.going
branch_leaves s t branch.BGT a disp runs = goes_on s _ runs.going

operate_leaves : (s : State) (t : CpuState) (op : Op) (a b c : ℕ) → Runs s t → LeavesBehind s (operate_row t op a b c)
operate_leaves s t op a b c runs =
    let computed = integer.value_of op a b (register t.state c) in
    tested (eqb (operate_opcode op) BYTE_OPCODE) s (register_plan t c (bytes.value_of op a b)) _ (goes_on s _ runs.going)
    (tested (integer.overflow_of op a b) s (raise_behind (with_value t c computed) (overflow_cause c)) (register_plan t c computed) (goes_on s _ runs.going) (goes_on s _ runs.going))

misc_leaves : (s : State) (t : CpuState) (op : MiscOp) (a : ℕ) → Runs s t → LeavesBehind s (misc_row t op a)
misc_leaves s t misc.MB a runs = λ v. goes_on s _ runs.going
misc_leaves s t misc.WMB a runs = λ v. goes_on s _ runs.going
misc_leaves s t misc.TRAPB a runs = goes_on s _ runs.going
misc_leaves s t misc.EXCB a runs = goes_on s _ runs.going
misc_leaves s t misc.FETCH a runs = goes_on s _ runs.going
misc_leaves s t misc.FETCH_M a runs = goes_on s _ runs.going
misc_leaves s t misc.ECB a runs = goes_on s _ runs.going
misc_leaves s t misc.WH64 a runs = goes_on s _ runs.going
misc_leaves s t misc.RPCC a runs = goes_on s _ runs.going

-- an access of an entry or a call, and what follows
ask_leaves : (size : ℕ) (s : State) (t : CpuState) (o : Option Ask) (k : CpuState → ℕ → Plan) (p : Plan) → Runs s t → ((u : CpuState) → Runs s u → (v : ℕ) → LeavesBehind s (k u v)) → LeavesBehind s p → LeavesBehind s (next_plan_of size t o k p)
ask_leaves size s t None k p runs leaves ended = ended
ask_leaves size s t (Some ask) k p runs leaves ended = ask_carries (LeavesBehind s) size t ask k (record {
  halts = frame_halts s t runs;
  beyond = beyond_halts s t runs;
  direct = λ direct below. leaves t runs;
  framed = λ framed aligned. reached_leaves size s t Frame ask k runs leaves;
})

saves_leave : (size : ℕ) (cause : Cause) (left : ℕ) (s : State) (t : CpuState) → Runs s t → LeavesBehind s (saves_plan size cause left t)
saves_leave size cause zero s t runs = goes_on s _ runs.going
saves_leave size cause (suc left) s t runs =
    ask_leaves size s t (slice_get (frame_of cause t.state) (length (frame_of cause t.state) - suc left)) (λ u v. saves_plan size cause left u) (End (entered_in cause t)) runs (λ u on v. saves_leave size cause left s u on) (goes_on s _ runs.going)

calls_leave : (size cpus : ℕ) (op : PalOp) (left : ℕ) (values : List ℕ) (s : State) (t : CpuState) → Runs s t → LeavesBehind s (calls_plan size cpus op left values t)
calls_leave size cpus op zero values s t runs = goes_on s _ runs.going
calls_leave size cpus op (suc left) values s t runs =
    ask_leaves size s t (slice_get (asks_of op t.state cpus) (length values)) (λ u v. calls_plan size cpus op left (values ++ v ∷ []) u) (End (called_in op values t)) runs
    (λ u on v. calls_leave size cpus op left (values ++ v ∷ []) s u on) (goes_on s _ runs.going)

call_leaves : (size cpus : ℕ) (s : State) (t : CpuState) (op : PalOp) (end : PalEnd) → end_of op t.state cpus ≡ end → Runs s t → LeavesBehind s (call_plan size cpus t op end)
call_leaves size cpus s t op Ends is runs = calls_leave size cpus op (length (asks_of op t.state cpus)) [] s t runs
call_leaves size cpus s t op (Enters cause) is runs = goes_on s _ runs.going
call_leaves size cpus s t op (Halts code) is runs = by (eqb code HALTED) refl where
  by : (halts : Bool) → eqb code HALTED ≡ halts → Leaves s (halted_by code (cond halts (behind t) t))
  by true same = subst (λ n. Leaves s (halted_by n (behind t))) (sym (eqb-true code HALTED same)) (halts_behind s t runs)
  by false same = stands_halted s t code (halt_codes op t.state cpus code is) (λ it. let never : true ≡ false = sym (eq-eqb code HALTED it) ∙ same in cc) runs

row_leaves : (size cpus : ℕ) (s : State) (t : CpuState) (i : Instr) → Runs s t → LeavesBehind s (row size cpus t i)
unfolding row
row_leaves size cpus s t (instr.Memory op a b disp) runs = memory_leaves size s t op a (register t.state b) disp runs
row_leaves size cpus s t (instr.Branch op a disp) runs = branch_leaves s t op a disp runs
row_leaves size cpus s t (instr.Jump kind a b hint) runs = goes_on s _ runs.going
row_leaves size cpus s t (instr.Operate op a b c) runs = operate_leaves s t op (register t.state a) (operand t b) c runs
row_leaves size cpus s t (instr.Misc op a b) runs = misc_leaves s t op a runs
row_leaves size cpus s t (instr.Pal op) runs = call_leaves size cpus s t op (end_of op t.state cpus) refl runs
row_leaves size cpus s t (instr.Floating word) runs = goes_on s _ runs.going
row_leaves size cpus s t (instr.Reserved word) runs = goes_on s _ runs.going

runs_fetched : (s : State) (u : CpuState) → Runs s u → Runs s (with_fetch_counted u)
runs_fetched s u runs = record { going = runs.going; state = runs.state }

group_by_leaves : (size cpus : ℕ) (s : State) (t : CpuState) (o : Option Cause) → Runs s t → LeavesBehind s (group_by size cpus t o)
group_by_leaves size cpus s t None runs =
    reach_carries (LeavesBehind s) size t Instruction (fetch_of t) (plan_of_word size cpus)
    (reached_leaves size s t Instruction (fetch_of t) (plan_of_word size cpus) runs (λ u on v. row_leaves size cpus s (with_fetch_counted u) (instr_of (v % 2 ^ 32)) (runs_fetched s u on)))
group_by_leaves size cpus s t (Some cause) runs = saves_leave size cause (length (frame_of cause t.state)) s t runs

group_leaves : (size cpus : ℕ) (t : CpuState) → t.halted ≡ None → LeavesBehind t.state (group size cpus t)
unfolding group
group_leaves size cpus t going = group_by_leaves size cpus t.state t t.pending (record { going = going; state = refl })

given_leaves : (s : State) (v : ℕ) (p : Plan) → LeavesBehind s p → LeavesBehind s (given v p)
given_leaves s v (End t) leaves = leaves
given_leaves s v (Want t w k) leaves = leaves v

along_leaves : (s : State) (vs : List ℕ) (p : Plan) → LeavesBehind s p → LeavesBehind s (along vs p)
along_leaves s [] p leaves = leaves
along_leaves s (v ∷ vs) p leaves = along_leaves s vs (given v p) (given_leaves s v p leaves)

pub ended_leaves : (size cpus : ℕ) (t : CpuState) (vs : List ℕ) (u : CpuState) → t.halted ≡ None → along vs (group size cpus t) ≡ End u → Leaves t.state u
ended_leaves size cpus t vs u going is = subst (LeavesBehind t.state) is (along_leaves t.state vs (group size cpus t) (group_leaves size cpus t going))

-- an entry that follows at once
arrived_by_leaves : (t : CpuState) (p : Plan) → t.halted ≡ None → LeavesBehind t.state p → Leaves t.state (arrived_by t p)
arrived_by_leaves t (End u) going leaves = leaves
arrived_by_leaves t (Want u w k) going leaves = goes_on t.state t going

arrived_in_leaves : (size : ℕ) (t : CpuState) (o : Option Cause) → t.halted ≡ None → Leaves t.state (arrived_in size t o)
arrived_in_leaves size t None going = goes_on t.state t going
arrived_in_leaves size t (Some cause) going = arrived_by_leaves t (entry_group size t cause) going (saves_leave size cause (length (frame_of cause t.state)) t.state t (record { going = going; state = refl }))

pub arrived_leaves : (size : ℕ) (t : CpuState) → t.halted ≡ None → Leaves t.state (arrived size t)
unfolding arrived
arrived_leaves size t going = arrived_in_leaves size t t.pending going
