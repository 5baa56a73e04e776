-- Every plan of the instruction table is sound.
use Rattle.std.proofs.Common.{◌≡◌, ◌⊎◌, ℕ, zero, suc, ◌+◌, ◌-◌, ◌*◌, ◌%◌, ◌^◌, ◌<◌, ◌≤◌, Bool, true, false, cond, eqb, ltb, List, [], ◌∷◌, ◌++◌, length, arith, rules, refl, sym, ◌∙◌, inl, inr}
use Rattle.axp_access.specs.declared.Wanted.{Wanted}
use Rattle.axp_base.specs.Masks.{IsSize}
use Rattle.axp_base.specs.Numbers.{sign_extended}
use Rattle.axp_base.specs.Sizes.{bytes_of, low_datum}
use Rattle.axp_base.specs.declared.sizes.Size.{Size}
use Rattle.axp_base.specs.declared.sizes.Size.TheVariants.{Byte, Word, Long, Quad}
use Rattle.axp_branch.specs.Branches.{is_taken, target_of}
use Rattle.axp_bytes.specs.Rows as bytes
use Rattle.axp_decode.specs.Format.{instr_of}
use Rattle.axp_decode.specs.Table.{operate_opcode}
use Rattle.axp_decode.specs.declared.numbers.TheConstants.{BYTE_OPCODE}
use Rattle.axp_decode.specs.declared.instructions.Instr.{Instr}
use Rattle.axp_decode.specs.declared.instructions.Instr.TheVariants as instr
use Rattle.axp_decode.specs.declared.names.BranchOp.{BranchOp}
use Rattle.axp_decode.specs.declared.names.BranchOp.TheVariants as branch
use Rattle.axp_decode.specs.declared.names.MemOp.{MemOp}
use Rattle.axp_decode.specs.declared.names.MemOp.TheVariants as memory
use Rattle.axp_decode.specs.declared.names.MiscOp.{MiscOp}
use Rattle.axp_decode.specs.declared.names.MiscOp.TheVariants as misc
use Rattle.axp_decode.specs.declared.names.Op.{Op}
use Rattle.axp_decode.specs.declared.names.PalOp.{PalOp}
use Rattle.axp_decode.specs.declared.names.PalOp.TheVariants as pal
use Rattle.axp_image.specs.declared.limits.TheConstants.{PAGE_BYTES, INSTRUCTION_BYTES}
use Rattle.axp_integer.specs.Rows as integer
use Rattle.axp_lsu.specs.Within.{IsInMemory}
use Rattle.axp_regs.specs.States.{entry_of, pc_of, pcbb_of, ps_of, register, unique_of, usp_of, with_entry, with_pc, with_register}
use Rattle.axp_regs.specs.declared.states.State.{State}
use Rattle.axp_regs.specs.declared.asks.Ask.{Ask}
use Rattle.axp_regs.specs.declared.asks.Kind.{Kind}
use Rattle.axp_regs.specs.declared.asks.Kind.TheVariants.{Fetch, Read, Write, Locked, Conditional, Barrier, WriteBarrier, Signal, Console}
use Rattle.axp_regs.specs.declared.states.TheConstants.{ENTRIES, ZERO_REGISTER}
use Rattle.axp_cpu.specs.declared.cpu_states.CpuState.{CpuState}
use Rattle.axp_cpu.specs.Plans.{Plan, End, Want, given, along}
use Rattle.axp_cpu.specs.Rows.{address_of, as_longword, as_longword_with, as_made, as_read, as_read_with, branch_row, branch_target, call_plan, calls_plan, cycle_counter, datum_plan, fetch_of, group, group_by, arrived, arrived_by, arrived_in, entry_group, high_address_of, jump_row, load_plan, memory_row, misc_row, next_plan, operand, operate_row, overflow_cause, plan_of_word, quadword_at, raise_behind, register_plan, row, saves_plan, virtual_ask}
use Rattle.axp_cpu.specs.Soundness.{IsSettled, IsSound, IsSoundAs, IsValued}
use Rattle.axp_cpu.specs.Translation.{ask_plan, fault_in, next_plan_of, reach_plan, wanted_at}
use Rattle.axp_cpu.specs.declared.translation.Origin.{Origin}
use Rattle.axp_cpu.specs.declared.translation.Origin.TheVariants.{Frame, Instruction}
use Rattle.axp_pte.specs.declared.faults.MmFault.{MmFault}
use Rattle.axp_pal.specs.Calls.{asks_of, bare_ask, end_of, ends, faults, finished, is_privileged, row_in, row_of}
use Rattle.axp_pal.specs.Contexts.{context_asks, counter_of, new_block, old_block, read_from, written_to}
use Rattle.axp_pal.specs.Returns.{read_at, to_mode}
use Rattle.axp_pal.specs.declared.contexts.TheConstants.{COUNTER_PLACE, FEN_PLACE, PTBR_PLACE, SP_PLACE, UNIQUE_PLACE, USP_PLACE}
use Rattle.axp_pal.specs.declared.plans.TheConstants.{CONSOLE_SERVICE, HALTED}
use Rattle.axp_trap.specs.declared.causes.TheConstants.{RESERVED_INSTRUCTION}
use Rattle.axp_trap.specs.declared.frames.TheConstants.{A0_SLOT, A1_SLOT, A2_SLOT, GP_SLOT, PC_SLOT, PS_SLOT}
use Rattle.axp_trap.specs.declared.registers.TheConstants.{A0, A1, A2, GP, SP}
use Rattle.axp_trap.specs.Status.{mode_of}
use Rattle.axp_pte.specs.declared.faults.Mode.{Mode}
use Rattle.axp_pte.specs.declared.faults.Mode.TheVariants as mode
use Rattle.axp_base.specs.declared.parts.TheConstants.{QUADWORD_BYTES}
use Rattle.axp_cpu.proofs.AskLemmas.{Each, each_at, each_take}
use Rattle.axp_pal.specs.declared.plans.PalEnd.{PalEnd}
use Rattle.axp_pal.specs.declared.plans.PalEnd.TheVariants.{Ends, Enters, Halts}
use Rattle.axp_trap.proofs.EntryLemmas.{internals_kept}
use Rattle.axp_trap.specs.Entering.{entered}
use Rattle.axp_trap.specs.Entries as trap
use Rattle.axp_trap.specs.Frames.{frame_address, frame_of, saved_at, whole_frame}
use Rattle.axp_trap.specs.declared.causes.Cause.{Cause}
use Rattle.std.specs.Prelude.{slice_get, slice_index, slice_set, nat_lt, ◌/◌, Option, Some, None}
use Rattle.std.proofs.lemmas.Bool.{eqb-true, ltb-true}
use Rattle.axp_base.specs.Numbers.{add}
use Rattle.axp_cpu.specs.CpuStates.{at_pc, behind, called_in, entered_in, next_pc, with_fetch_counted, with_lock_flag, with_value}
use Rattle.axp_cpu.proofs.ReachLemmas.{Carries, HasKept, ask_carries, either, itself, reach_carries}

-- the end of an aligned part of whole pages lies in them
part_within : (n a size : ℕ) → IsSize n → a % n ≡ 0 → a < size → size % PAGE_BYTES ≡ 0 → a + n ≤ size
part_within n a size (inl e) h below pages = omega arith
part_within n a size (inr (inl e)) h below pages = let k = rw e at h in omega arith
part_within n a size (inr (inr (inl e))) h below pages = let k = rw e at h in omega arith
part_within n a size (inr (inr (inr e))) h below pages = let k = rw e at h in omega arith

pub size_some : (n : ℕ) → IsSize n → 1 ≤ n
size_some n (inl e) = omega arith
size_some n (inr (inl e)) = omega arith
size_some n (inr (inr (inl e))) = omega arith
size_some n (inr (inr (inr e))) = omega arith

-- an access of memory that the instruction table wants
abbrev pub IsPlain : Kind → Type 0
IsPlain Fetch = Unit {0}
IsPlain Read = Unit {0}
IsPlain Write = Unit {0}
IsPlain Locked = Unit {0}
IsPlain Conditional = Unit {0}
IsPlain _ = ⊥

-- its kind and size
pub record Asks (kind : Kind) (n : ℕ) : Type 0 where
  pub plain : IsPlain kind
  pub sized : IsSize n
  pub fetched : kind ≡ Fetch → n ≡ INSTRUCTION_BYTES
  pub conditional : kind ≡ Conditional → (n ≡ 4) ⊎ (n ≡ 8)

asks_fetch : Asks Fetch INSTRUCTION_BYTES
asks_fetch = record { plain = tt; sized = inr (inr (inl refl)); fetched = λ _. refl; conditional = λ is. cc }

sized : (what : Size) → IsSize (bytes_of what)
sized Byte = inl refl
sized Word = inr (inl refl)
sized Long = inr (inr (inl refl))
sized Quad = inr (inr (inr refl))

asks_read : (what : Size) → Asks Read (bytes_of what)
asks_read what = record { plain = tt; sized = sized what; fetched = λ is. cc; conditional = λ is. cc }

asks_write : (what : Size) → Asks Write (bytes_of what)
asks_write what = record { plain = tt; sized = sized what; fetched = λ is. cc; conditional = λ is. cc }

asks_locked : (what : Size) → Asks Locked (bytes_of what)
asks_locked what = record { plain = tt; sized = sized what; fetched = λ is. cc; conditional = λ is. cc }

asks_conditional : (what : Size) → (bytes_of what ≡ 4) ⊎ (bytes_of what ≡ 8) → Asks Conditional (bytes_of what)
asks_conditional what long = record { plain = tt; sized = sized what; fetched = λ is. cc; conditional = λ _. long }

-- an access that lies in memory is sound
sound_as : (size cpus : ℕ) (kind : Kind) (w : Wanted) → Asks kind w.size → IsInMemory size w → IsSoundAs size cpus kind w
sound_as size cpus Fetch w asks inside = record { inside = inside; bytes = asks.fetched refl }
sound_as size cpus Read w asks inside = inside
sound_as size cpus Write w asks inside = inside
sound_as size cpus Locked w asks inside = inside
sound_as size cpus Conditional w asks inside = record { within = inside; sized = asks.conditional refl }
sound_as size cpus _ w asks inside = absurd asks.plain

-- every access by which an address is reached is sound
reached_sound : (size cpus : ℕ) (t : CpuState) (origin : Origin) (ask : Ask) (k : CpuState → ℕ → Plan) → size % PAGE_BYTES ≡ 0 → IsSettled t.state → Asks ask.kind ask.size → ask.address % ask.size ≡ 0 → ((u : CpuState) → HasKept t u → (x : ℕ) → IsSound size cpus (k u x)) → Carries (IsSound size cpus) size t origin ask k
reached_sound size cpus t origin ask k pages settled asks aligned follows = record {
  fault = λ fault. fault_settled origin ask fault t settled;
  beyond = λ u kept. rw kept.state settled;
  entry = λ address below whole next sound. (record { sized = inr (inr (inr refl)); aligned = whole; within = part_within 8 address size (inr (inr (inr refl))) whole below pages }, sound);
  access = λ u kept address below alike.
      let near = alike ask.size asks.sized aligned in
      (sound_as size cpus ask.kind (wanted_at ask address) asks (record { sized = asks.sized; aligned = near; within = part_within ask.size address size asks.sized near below pages }), follows u kept);
} where
  fault_settled : (origin : Origin) (ask : Ask) (fault : MmFault) (t : CpuState) → IsSettled t.state → IsSettled (fault_in origin ask fault t).state
  fault_settled Instruction ask fault t settled = settled
  fault_settled Frame ask fault t settled = settled

-- the program counter behind an instruction
behind_settled : (s : State) → IsSettled s → IsSettled (with_pc s (add (pc_of s) INSTRUCTION_BYTES))
behind_settled s h = record { pc = next_by (pc_of s) h.pc; entries = h.entries; block = h.block } where
  next_by : (pc : ℕ) → pc % INSTRUCTION_BYTES ≡ 0 → add pc INSTRUCTION_BYTES % INSTRUCTION_BYTES ≡ 0
  next_by pc h = omega arith

datum_sound : (size cpus : ℕ) (t : CpuState) (op : MemOp) (a : ℕ) (kind : Kind) (what : Size) (address value : ℕ) (k : CpuState → ℕ → Plan) → size % PAGE_BYTES ≡ 0 → IsSettled t.state → Asks kind (bytes_of what) → ((u : CpuState) → HasKept t u → (x : ℕ) → IsSound size cpus (k u x))
    → IsSound size cpus (datum_plan size t op a kind what address value k)
datum_sound size cpus t op a kind what address value k pages settled asks follows =
    either (IsSound size cpus) (eqb (address % bytes_of what) 0) (reach_plan size t Instruction (virtual_ask kind address (bytes_of what) value) k) _
    (λ passed. reach_carries (IsSound size cpus) size t Instruction (virtual_ask kind address (bytes_of what) value) k
    (reached_sound size cpus t Instruction (virtual_ask kind address (bytes_of what) value) k pages settled asks (eqb-true (address % bytes_of what) 0 passed) follows))
    (λ _. behind_settled t.state settled)

-- a register that is written changes none of these
written_settled : (s : State) (n v : ℕ) → IsSettled s → IsSettled (with_register s n v)
written_settled s n v h = by (eqb n ZERO_REGISTER) where
  by : (b : Bool) → IsSettled (cond b s (record s { registers = slice_set s.registers n v }))
  by true = h
  by false = record { pc = h.pc; entries = h.entries; block = h.block }

-- an instruction that writes a register and goes on at an address
gone_settled : (s : State) (n v pc : ℕ) → pc % INSTRUCTION_BYTES ≡ 0 → IsSettled s → IsSettled (with_pc (with_register s n v) pc)
gone_settled s n v pc aligned h = let w = written_settled s n v h in record { pc = aligned; entries = w.entries; block = w.block }

next_pc_settled : (t : CpuState) → IsSettled t.state → next_pc t % INSTRUCTION_BYTES ≡ 0
next_pc_settled t h = let pc = h.pc in next_by (pc_of t.state) pc where
  next_by : (pc : ℕ) → pc % INSTRUCTION_BYTES ≡ 0 → add pc INSTRUCTION_BYTES % INSTRUCTION_BYTES ≡ 0
  next_by pc h = omega arith

read_sound : (size cpus : ℕ) (t u : CpuState) (a v : ℕ) → IsSettled t.state → HasKept t u → IsSound size cpus (as_read a u v)
read_sound size cpus t u a v settled kept =
    let h : IsSettled u.state = rw kept.state settled in gone_settled u.state a v (next_pc u) (next_pc_settled u h) h

flag_sound : (size cpus : ℕ) (t u : CpuState) (flag : Bool) (a v : ℕ) → IsSettled t.state → HasKept t u → IsSound size cpus (as_read_with flag a u v)
flag_sound size cpus t u flag a v settled kept =
    let h : IsSettled u.state = rw kept.state settled in
    let h' : IsSettled (with_lock_flag u flag).state = record { pc = h.pc; entries = h.entries; block = h.block } in
    gone_settled (with_lock_flag u flag).state a v (next_pc (with_lock_flag u flag)) (next_pc_settled (with_lock_flag u flag) h') h'

made_sound : (size cpus : ℕ) (t u : CpuState) (v : ℕ) → IsSettled t.state → HasKept t u → IsSound size cpus (as_made u v)
made_sound size cpus t u v settled kept = behind_settled u.state (rw kept.state settled)

loaded_sound : (size cpus : ℕ) (t : CpuState) (op : MemOp) (what : Size) (a address : ℕ) (k : CpuState → ℕ → Plan) → ((u : CpuState) → HasKept t u → (x : ℕ) → IsSound size cpus (k u x)) → size % PAGE_BYTES ≡ 0 → IsSettled t.state → IsSound size cpus (load_plan size t op what a address k)
loaded_sound size cpus t op what a address k follows pages h =
    either (IsSound size cpus) (eqb a ZERO_REGISTER) (next_plan t) _ (λ _. behind_settled t.state h)
    (λ _. datum_sound size cpus t op a Read what address 0 k pages h (asks_read what) follows)

memory_sound : (size cpus : ℕ) (t : CpuState) (op : MemOp) (a base disp : ℕ) → size % PAGE_BYTES ≡ 0 → IsSettled t.state → IsSound size cpus (memory_row size t op a base disp)
memory_sound size cpus t memory.LDA a base disp pages h = gone_settled t.state a (address_of base disp) (next_pc t) (next_pc_settled t h) h
memory_sound size cpus t memory.LDAH a base disp pages h = gone_settled t.state a (high_address_of base disp) (next_pc t) (next_pc_settled t h) h
memory_sound size cpus t memory.LDBU a base disp pages h = loaded_sound size cpus t memory.LDBU Byte a (address_of base disp) (as_read a) (λ u kept v. read_sound size cpus t u a v h kept) pages h
memory_sound size cpus t memory.LDWU a base disp pages h = loaded_sound size cpus t memory.LDWU Word a (address_of base disp) (as_read a) (λ u kept v. read_sound size cpus t u a v h kept) pages h
memory_sound size cpus t memory.LDL a base disp pages h = loaded_sound size cpus t memory.LDL Long a (address_of base disp) (as_longword a) (λ u kept v. read_sound size cpus t u a (sign_extended 32 v) h kept) pages h
memory_sound size cpus t memory.LDQ a base disp pages h = loaded_sound size cpus t memory.LDQ Quad a (address_of base disp) (as_read a) (λ u kept v. read_sound size cpus t u a v h kept) pages h
memory_sound size cpus t memory.LDQ_U a base disp pages h = loaded_sound size cpus t memory.LDQ_U Quad a (quadword_at (address_of base disp)) (as_read a) (λ u kept v. read_sound size cpus t u a v h kept) pages h
memory_sound size cpus t memory.LDL_L a base disp pages h = datum_sound size cpus t memory.LDL_L a Locked Long (address_of base disp) 0 (as_longword_with true a) pages h (asks_locked Long) (λ u kept v. flag_sound size cpus t u true a (sign_extended 32 v) h kept)
memory_sound size cpus t memory.LDQ_L a base disp pages h = datum_sound size cpus t memory.LDQ_L a Locked Quad (address_of base disp) 0 (as_read_with true a) pages h (asks_locked Quad) (λ u kept v. flag_sound size cpus t u true a v h kept)
memory_sound size cpus t memory.STB a base disp pages h = datum_sound size cpus t memory.STB a Write Byte (address_of base disp) (low_datum Byte (register t.state a)) as_made pages h (asks_write Byte) (λ u kept v. made_sound size cpus t u v h kept)
memory_sound size cpus t memory.STW a base disp pages h = datum_sound size cpus t memory.STW a Write Word (address_of base disp) (low_datum Word (register t.state a)) as_made pages h (asks_write Word) (λ u kept v. made_sound size cpus t u v h kept)
memory_sound size cpus t memory.STL a base disp pages h = datum_sound size cpus t memory.STL a Write Long (address_of base disp) (low_datum Long (register t.state a)) as_made pages h (asks_write Long) (λ u kept v. made_sound size cpus t u v h kept)
memory_sound size cpus t memory.STQ a base disp pages h = datum_sound size cpus t memory.STQ a Write Quad (address_of base disp) (low_datum Quad (register t.state a)) as_made pages h (asks_write Quad) (λ u kept v. made_sound size cpus t u v h kept)
memory_sound size cpus t memory.STQ_U a base disp pages h = datum_sound size cpus t memory.STQ_U a Write Quad (quadword_at (address_of base disp)) (low_datum Quad (register t.state a)) as_made pages h (asks_write Quad) (λ u kept v. made_sound size cpus t u v h kept)
memory_sound size cpus t memory.STL_C a base disp pages h = datum_sound size cpus t memory.STL_C a Conditional Long (address_of base disp) (low_datum Long (register t.state a)) (as_read_with false a) pages h (asks_conditional Long (inl refl)) (λ u kept v. flag_sound size cpus t u false a v h kept)
memory_sound size cpus t memory.STQ_C a base disp pages h = datum_sound size cpus t memory.STQ_C a Conditional Quad (address_of base disp) (low_datum Quad (register t.state a)) (as_read_with false a) pages h (asks_conditional Quad (inr refl)) (λ u kept v. flag_sound size cpus t u false a v h kept)

-- branches and jumps go to multiples of an instruction's size
target_aligned : (next disp : ℕ) → next % INSTRUCTION_BYTES ≡ 0 → target_of next disp % INSTRUCTION_BYTES ≡ 0
target_aligned next disp h = let x = sign_extended 21 disp in omega arith

goal_by : (taken : Bool) (target next : ℕ) → target % INSTRUCTION_BYTES ≡ 0 → next % INSTRUCTION_BYTES ≡ 0 → cond taken target next % INSTRUCTION_BYTES ≡ 0
goal_by true target next h k = h
goal_by false target next h k = k

goal_aligned : (t : CpuState) (op : BranchOp) (a disp : ℕ) → IsSettled t.state → branch_target t op a disp % INSTRUCTION_BYTES ≡ 0
goal_aligned t op a disp h =
    goal_by (is_taken op (register t.state a)) (target_of (next_pc t) disp) (next_pc t) (target_aligned (next_pc t) disp (next_pc_settled t h)) (next_pc_settled t h)

at_settled : (t : CpuState) (pc : ℕ) → pc % INSTRUCTION_BYTES ≡ 0 → IsSettled t.state → IsSettled (at_pc t pc).state
at_settled t pc aligned h = record { pc = aligned; entries = h.entries; block = h.block }

branch_sound : (size cpus : ℕ) (t : CpuState) (op : BranchOp) (a disp : ℕ) → IsSettled t.state → IsSound size cpus (branch_row t op a disp)
branch_sound size cpus t branch.BR a disp h = gone_settled t.state a (next_pc t) _ (goal_aligned t branch.BR a disp h) h
branch_sound size cpus t branch.BSR a disp h = gone_settled t.state a (next_pc t) _ (goal_aligned t branch.BSR a disp h) h
branch_sound size cpus t branch.BLBC a disp h = at_settled t _ (goal_aligned t branch.BLBC a disp h) h
branch_sound size cpus t branch.BLBS a disp h = at_settled t _ (goal_aligned t branch.BLBS a disp h) h
branch_sound size cpus t branch.BEQ a disp h = at_settled t _ (goal_aligned t branch.BEQ a disp h) h
branch_sound size cpus t branch.BNE a disp h = at_settled t _ (goal_aligned t branch.BNE a disp h) h
branch_sound size cpus t branch.BLT a disp h = at_settled t _ (goal_aligned t branch.BLT a disp h) h
branch_sound size cpus t branch.BLE a disp h = at_settled t _ (goal_aligned t branch.BLE a disp h) h
branch_sound size cpus t branch.BGE a disp h = at_settled t _ (goal_aligned t branch.BGE a disp h) h
branch_sound size cpus t branch.BGT a disp h = at_settled t _ (goal_aligned t branch.BGT a disp h) h

jump_sound : (size cpus : ℕ) (t : CpuState) (a b : ℕ) → IsSettled t.state → IsSound size cpus (jump_row t a b)
jump_sound size cpus t a b h = gone_settled t.state a (next_pc t) _ (quarter (register t.state b)) h where
  quarter : (r : ℕ) → r / 4 * 4 % INSTRUCTION_BYTES ≡ 0
  quarter r = omega arith

operate_sound : (size cpus : ℕ) (t : CpuState) (op : Op) (a b c : ℕ) → IsSettled t.state → IsSound size cpus (operate_row t op a b c)
operate_sound size cpus t op a b c h =
    either (IsSound size cpus) (eqb (operate_opcode op) BYTE_OPCODE) (register_plan t c (bytes.value_of op a b)) _ (λ _. gone_settled t.state c (bytes.value_of op a b) (next_pc t) (next_pc_settled t h) h)
    (λ _. either (IsSound size cpus) (integer.overflow_of op a b) (raise_behind (with_value t c (integer.value_of op a b (register t.state c))) (overflow_cause c)) (register_plan t c (integer.value_of op a b (register t.state c)))
    (λ _. behind_settled (with_register t.state c (integer.value_of op a b (register t.state c))) (written_settled t.state c (integer.value_of op a b (register t.state c)) h))
    (λ _. gone_settled t.state c (integer.value_of op a b (register t.state c)) (next_pc t) (next_pc_settled t h) h))

barrier : (kind : Kind) → IsValued (record { kind = kind; address = 0; size = 0; value = 0 }) 1
barrier kind = record { bare = record { address = refl; size = refl }; value = omega arith }

misc_sound : (size cpus : ℕ) (t : CpuState) (op : MiscOp) (a : ℕ) → IsSettled t.state → IsSound size cpus (misc_row t op a)
misc_sound size cpus t misc.TRAPB a h = behind_settled t.state h
misc_sound size cpus t misc.EXCB a h = behind_settled t.state h
misc_sound size cpus t misc.FETCH a h = behind_settled t.state h
misc_sound size cpus t misc.FETCH_M a h = behind_settled t.state h
misc_sound size cpus t misc.ECB a h = behind_settled t.state h
misc_sound size cpus t misc.WH64 a h = behind_settled t.state h
misc_sound size cpus t misc.MB a h = (barrier Barrier, λ v. behind_settled t.state h)
misc_sound size cpus t misc.WMB a h = (barrier WriteBarrier, λ v. behind_settled t.state h)
misc_sound size cpus t misc.RPCC a h = gone_settled t.state a (cycle_counter t) (next_pc t) (next_pc_settled t h) h

-- what an entry and a PAL call make of the state
entered_settled : (cause : Cause) (s : State) → IsSettled s → IsSettled (entered cause s)
entered_settled cause s h =
    let kept = internals_kept cause s in
    record {
      pc = h.entries (trap.row_of cause).number;
      entries = λ n. rw (kept.entries.value n) (h.entries n);
      block = rw kept.pcbb h.block;
    }

same_settled : (s u : State) → pc_of u ≡ pc_of s → ((n : ℕ) → entry_of u n ≡ entry_of s n) → pcbb_of u ≡ pcbb_of s → IsSettled s → IsSettled u
same_settled s u pc entries block h = record { pc = rw pc h.pc; entries = λ n. rw (entries n) (h.entries n); block = rw block h.block }

quarter_aligned : (v : ℕ) → v / 4 * 4 % INSTRUCTION_BYTES ≡ 0
quarter_aligned v = omega arith

written_entry : (xs : List ℕ) (n m v : ℕ) → v % INSTRUCTION_BYTES ≡ 0 → ((k : ℕ) → slice_index xs k % INSTRUCTION_BYTES ≡ 0) → slice_index (slice_set xs n v) m % INSTRUCTION_BYTES ≡ 0
written_entry [] n m v aligned all = all m
written_entry (x ∷ xs) zero zero v aligned all = aligned
written_entry (x ∷ xs) zero (suc m) v aligned all = all (suc m)
written_entry (x ∷ xs) (suc n) zero v aligned all = all 0
written_entry (x ∷ xs) (suc n) (suc m) v aligned all = written_entry xs n m v aligned (λ k. all (suc k))

with_entry_settled : (s : State) (n v : ℕ) (below : Bool) → IsSettled s → IsSettled (cond below (with_entry s n (v / 4 * 4)) s)
with_entry_settled s n v true h = record { pc = h.pc; entries = λ m. entry_by m; block = h.block } where
  entry_by : (m : ℕ) → entry_of (with_entry s n (v / 4 * 4)) m % INSTRUCTION_BYTES ≡ 0
  entry_by m = written_entry s.entries n m (v / 4 * 4) (quarter_aligned v) h.entries
with_entry_settled s n v false h = h

to_mode_settled : (m : Mode) (status : ℕ) (s : State) → IsSettled s → IsSettled (to_mode m status s)
to_mode_settled mode.User status s h = record { pc = h.pc; entries = h.entries; block = h.block }
to_mode_settled mode.Kernel status s h = record { pc = h.pc; entries = h.entries; block = h.block }

finished_settled : (op : PalOp) (s : State) (values : List ℕ) → IsSettled s → IsSettled (finished op s values)
unfolding finished
finished_settled pal.WRENT s values h = with_entry_settled s (register s A1) (register s A0) (nat_lt (register s A1) ENTRIES) h
finished_settled pal.SWPCTX s values h = record { pc = h.pc; entries = h.entries; block = block_aligned (register s A0) } where
  block_aligned : (a : ℕ) → a / 128 * 128 % QUADWORD_BYTES ≡ 0
  block_aligned a = omega arith
finished_settled pal.RETSYS s values h = record { pc = quarter_aligned (slice_index values 0); entries = h.entries; block = h.block }
finished_settled pal.RTI s values h =
    let inner = to_mode_settled (mode_of (slice_index values 0)) (slice_index values 0) s h in
    record { pc = quarter_aligned (slice_index values 1); entries = inner.entries; block = inner.block }
finished_settled pal.HALT s values h = h
finished_settled pal.DRAINA s values h = h
finished_settled pal.CSERVE s values h = h
finished_settled pal.WRIPIR s values h = h
finished_settled pal.WRFEN s values h = record { pc = h.pc; entries = h.entries; block = h.block }
finished_settled pal.WRVPTPTR s values h = record { pc = h.pc; entries = h.entries; block = h.block }
finished_settled pal.WRVAL s values h = record { pc = h.pc; entries = h.entries; block = h.block }
finished_settled pal.RDVAL s values h = record { pc = h.pc; entries = h.entries; block = h.block }
finished_settled pal.TBI s values h = h
finished_settled pal.SWPIPL s values h = record { pc = h.pc; entries = h.entries; block = h.block }
finished_settled pal.RDPS s values h = record { pc = h.pc; entries = h.entries; block = h.block }
finished_settled pal.WRKGP s values h = record { pc = h.pc; entries = h.entries; block = h.block }
finished_settled pal.WRUSP s values h = record { pc = h.pc; entries = h.entries; block = h.block }
finished_settled pal.RDUSP s values h = record { pc = h.pc; entries = h.entries; block = h.block }
finished_settled pal.WHAMI s values h = record { pc = h.pc; entries = h.entries; block = h.block }
finished_settled pal.BPT s values h = h
finished_settled pal.BUGCHK s values h = h
finished_settled pal.CALLSYS s values h = h
finished_settled pal.IMB s values h = h
finished_settled pal.RDUNIQUE s values h = record { pc = h.pc; entries = h.entries; block = h.block }
finished_settled pal.WRUNIQUE s values h = record { pc = h.pc; entries = h.entries; block = h.block }
finished_settled pal.GENTRAP s values h = h

-- the accesses of entries and calls: what a direct one asks is sound where it lies in memory, and a frame's is a
-- quadword
abbrev pub IsSoundBy : ℕ → ℕ → Ask → Bool → Type 0
IsSoundBy size cpus ask true = ask.address < size → IsSoundAs size cpus ask.kind (wanted_at ask ask.address)
IsSoundBy size cpus ask false = Asks ask.kind ask.size × (ask.size ≡ QUADWORD_BYTES)

abbrev pub IsSoundAsk : ℕ → ℕ → Ask → Type 0
IsSoundAsk size cpus ask = IsSoundBy size cpus ask ask.direct

-- where the address of an access lies behind the start of a block
placed_aligned : (block place n : ℕ) → IsSize n → block % QUADWORD_BYTES ≡ 0 → place % n ≡ 0 → add block place % n ≡ 0
placed_aligned block place n (inl e) h k = rw e (omega arith)
placed_aligned block place n (inr (inl e)) h k = let j = rw e at k in rw e (omega arith)
placed_aligned block place n (inr (inr (inl e))) h k = let j = rw e at k in rw e (omega arith)
placed_aligned block place n (inr (inr (inr e))) h k = let j = rw e at k in rw e (omega arith)

-- a read of a block, and a write of it
block_sound : (size cpus : ℕ) (kind : Kind) (block place n value : ℕ) → IsPlain kind → (kind ≡ Fetch → ⊥) → (kind ≡ Conditional → ⊥) → size % PAGE_BYTES ≡ 0 → IsSize n → block % QUADWORD_BYTES ≡ 0 → place % n ≡ 0
    → add block place < size → IsSoundAs size cpus kind (record { kind = kind; address = add block place; size = n; value = value })
block_sound size cpus kind block place n value plain no_fetch no_conditional pages sized h k below =
    sound_as size cpus kind (record { kind = kind; address = add block place; size = n; value = value })
    (record { plain = plain; sized = sized; fetched = λ is. absurd (no_fetch is); conditional = λ is. absurd (no_conditional is) })
    (record { sized = sized; aligned = placed_aligned block place n sized h k; within = part_within n (add block place) size sized (placed_aligned block place n sized h k) below pages })

written_sound : (size cpus block place n value : ℕ) → size % PAGE_BYTES ≡ 0 → IsSize n → block % QUADWORD_BYTES ≡ 0 → place % n ≡ 0 → IsSoundAsk size cpus (written_to block place n value)
written_sound size cpus block place n value pages sized h k = λ below. block_sound size cpus Write block place n value tt (λ is. cc) (λ is. cc) pages sized h k below

read_from_sound : (size cpus block place : ℕ) → size % PAGE_BYTES ≡ 0 → block % QUADWORD_BYTES ≡ 0 → place % QUADWORD_BYTES ≡ 0 → IsSoundAsk size cpus (read_from block place)
read_from_sound size cpus block place pages h k = λ below. block_sound size cpus Read block place QUADWORD_BYTES 0 tt (λ is. cc) (λ is. cc) pages (inr (inr (inr refl))) h k below

context_sound : (size cpus : ℕ) (s : State) → size % PAGE_BYTES ≡ 0 → IsSettled s → Each (IsSoundAsk size cpus) (context_asks s)
context_sound size cpus s pages h =
    let old = h.block in
    let new = block_aligned (register s A0) in
    let quad : IsSize QUADWORD_BYTES = inr (inr (inr refl)) in (
      written_sound size cpus (old_block s) SP_PLACE QUADWORD_BYTES (register s SP) pages quad old refl,
      (
        written_sound size cpus (old_block s) USP_PLACE QUADWORD_BYTES (usp_of s) pages quad old refl,
        (
          written_sound size cpus (old_block s) COUNTER_PLACE 4 (counter_of s) pages (inr (inr (inl refl))) old refl,
          (
            written_sound size cpus (old_block s) UNIQUE_PLACE QUADWORD_BYTES (unique_of s) pages quad old refl,
            (
              read_from_sound size cpus (new_block s) SP_PLACE pages new refl,
              (
                read_from_sound size cpus (new_block s) USP_PLACE pages new refl,
                (
                  read_from_sound size cpus (new_block s) PTBR_PLACE pages new refl,
                  (
                    read_from_sound size cpus (new_block s) COUNTER_PLACE pages new refl,
                    (
                      read_from_sound size cpus (new_block s) UNIQUE_PLACE pages new refl,
                      (read_from_sound size cpus (new_block s) FEN_PLACE pages new refl, tt),
                    ),
                  ),
                ),
              ),
            ),
          ),
        ),
      ),
    ) where
      block_aligned : (a : ℕ) → a / 128 * 128 % QUADWORD_BYTES ≡ 0
      block_aligned a = omega arith

frame_read_sound : (size cpus frame slot : ℕ) → IsSoundAsk size cpus (read_at frame slot)
frame_read_sound size cpus frame slot = (asks_read Quad, refl)

signal_sound : (size cpus : ℕ) (s : State) (below : Bool) → ltb (register s A0) cpus ≡ below → Each (IsSoundAsk size cpus) (cond below (bare_ask Signal (register s A0) ∷ []) [])
signal_sound size cpus s true is = ((λ inside. record { bare = record { address = refl; size = refl }; value = ltb-true (register s A0) cpus is }), tt)
signal_sound size cpus s false is = tt

console_sound : (size cpus : ℕ) (s : State) (b : Bool) → Each (IsSoundAsk size cpus) (cond b (ends (bare_ask Console (register s A1 % 2 ^ 8) ∷ [])) (faults RESERVED_INSTRUCTION)).asks
console_sound size cpus s true = ((λ inside. record { bare = record { address = refl; size = refl }; value = byte_below (register s A1) }), tt) where
  byte_below : (v : ℕ) → v % 2 ^ 8 < 2 ^ 8
  byte_below v = omega arith
console_sound size cpus s false = tt

call_asks_sound : (size cpus : ℕ) (op : PalOp) (s : State) → size % PAGE_BYTES ≡ 0 → IsSettled s → Each (IsSoundAsk size cpus) (row_of op s cpus).asks
unfolding row_of
call_asks_sound size cpus pal.CSERVE s pages h = console_sound size cpus s (eqb (register s A0) CONSOLE_SERVICE)
call_asks_sound size cpus pal.WRIPIR s pages h = signal_sound size cpus s (ltb (register s A0) cpus) refl
call_asks_sound size cpus pal.SWPCTX s pages h = context_sound size cpus s pages h
call_asks_sound size cpus pal.RETSYS s pages h = (frame_read_sound size cpus (register s SP) PC_SLOT, (frame_read_sound size cpus (register s SP) GP_SLOT, tt))
call_asks_sound size cpus pal.RTI s pages h = (
  frame_read_sound size cpus (register s SP) PS_SLOT,
  (
    frame_read_sound size cpus (register s SP) PC_SLOT,
    (
      frame_read_sound size cpus (register s SP) GP_SLOT,
      (frame_read_sound size cpus (register s SP) A0_SLOT, (frame_read_sound size cpus (register s SP) A1_SLOT, (frame_read_sound size cpus (register s SP) A2_SLOT, tt))),
    ),
  ),
)
call_asks_sound size cpus pal.IMB s pages h = ((λ inside. record { bare = record { address = refl; size = refl }; value = omega arith }), tt)
call_asks_sound size cpus op s pages h = search rules

asks_sound_in : (size cpus : ℕ) (m : Mode) (op : PalOp) (s : State) → size % PAGE_BYTES ≡ 0 → IsSettled s → Each (IsSoundAsk size cpus) (row_in m op s cpus).asks
asks_sound_in size cpus mode.User op s pages h = reserved_sound (is_privileged op) where
  reserved_sound : (b : Bool) → Each (IsSoundAsk size cpus) (cond b (faults RESERVED_INSTRUCTION) (row_of op s cpus)).asks
  reserved_sound true = tt
  reserved_sound false = call_asks_sound size cpus op s pages h
asks_sound_in size cpus mode.Kernel op s pages h = call_asks_sound size cpus op s pages h

frame_word_sound : (size cpus address slot value : ℕ) → IsSoundAsk size cpus (saved_at address slot value)
frame_word_sound size cpus address slot value = (asks_write Quad, refl)

frame_sound : (size cpus : ℕ) (cause : Cause) (s : State) → Each (IsSoundAsk size cpus) (frame_of cause s)
frame_sound size cpus cause s = each_take (IsSoundAsk size cpus) (trap.row_of cause).words (whole_frame (frame_address s) s) (
  frame_word_sound size cpus (frame_address s) PS_SLOT (ps_of s),
  (
    frame_word_sound size cpus (frame_address s) PC_SLOT (pc_of s),
    (
      frame_word_sound size cpus (frame_address s) GP_SLOT (register s GP),
      (frame_word_sound size cpus (frame_address s) A0_SLOT (register s A0), (frame_word_sound size cpus (frame_address s) A1_SLOT (register s A1), (frame_word_sound size cpus (frame_address s) A2_SLOT (register s A2), tt))),
    ),
  ),
)

-- an access of an entry or a call, and what follows
ask_sound_by : (size cpus : ℕ) (t : CpuState) (ask : Ask) (k : CpuState → ℕ → Plan) (direct : Bool) → ask.direct ≡ direct → IsSoundBy size cpus ask direct → size % PAGE_BYTES ≡ 0 → IsSettled t.state → ((u : CpuState) → HasKept t u → (x : ℕ) → IsSound size cpus (k u x)) → IsSound size cpus (ask_plan size t ask k)
ask_sound_by size cpus t ask k true is sound pages settled follows = ask_carries (IsSound size cpus) size t ask k (record {
  halts = settled;
  beyond = settled;
  direct = λ direct below. (sound below, follows t (itself t));
  framed = λ framed aligned. let never : true ≡ false = sym is ∙ framed in cc;
})
ask_sound_by size cpus t ask k false is sound pages settled follows = ask_carries (IsSound size cpus) size t ask k (record {
  halts = settled;
  beyond = settled;
  direct = λ direct below. let never : false ≡ true = sym is ∙ direct in cc;
  framed = λ framed aligned. reached_sound size cpus t Frame ask k pages settled sound.0 (rw sound.1 aligned) follows;
})

next_sound : (size cpus : ℕ) (t : CpuState) (o : Option Ask) (k : CpuState → ℕ → Plan) (u : CpuState) → ((ask : Ask) → o ≡ Some ask → IsSoundAsk size cpus ask) → size % PAGE_BYTES ≡ 0 → IsSettled t.state → ((y : CpuState) → HasKept t y → (x : ℕ) → IsSound size cpus (k y x)) → IsSettled u.state
    → IsSound size cpus (next_plan_of size t o k (End u))
next_sound size cpus t None k u sound pages settled follows ended = ended
next_sound size cpus t (Some ask) k u sound pages settled follows ended = ask_sound_by size cpus t ask k ask.direct refl (sound ask refl) pages settled follows

saves_sound : (size cpus : ℕ) (cause : Cause) (left : ℕ) (t : CpuState) → size % PAGE_BYTES ≡ 0 → IsSettled t.state → IsSound size cpus (saves_plan size cause left t)
saves_sound size cpus cause zero t pages h = entered_settled cause t.state h
saves_sound size cpus cause (suc left) t pages h =
    let n = length (frame_of cause t.state) - suc left in
    next_sound size cpus t (slice_get (frame_of cause t.state) n) (λ y v. saves_plan size cause left y) (entered_in cause t)
    (λ ask is. each_at (IsSoundAsk size cpus) (frame_of cause t.state) n ask (frame_sound size cpus cause t.state) is) pages h (λ y kept v. saves_sound size cpus cause left y pages (rw kept.state h)) (entered_settled cause t.state h)

called_settled : (op : PalOp) (values : List ℕ) (t : CpuState) → IsSettled t.state → IsSettled (called_in op values t).state
called_settled op values t h = finished_settled op (with_pc t.state (next_pc t)) values (behind_settled t.state h)

calls_sound : (size cpus : ℕ) (op : PalOp) (left : ℕ) (values : List ℕ) (t : CpuState) → size % PAGE_BYTES ≡ 0 → IsSettled t.state → IsSound size cpus (calls_plan size cpus op left values t)
calls_sound size cpus op zero values t pages h = called_settled op values t h
calls_sound size cpus op (suc left) values t pages h =
    next_sound size cpus t (slice_get (asks_of op t.state cpus) (length values)) (λ y v. calls_plan size cpus op left (values ++ v ∷ []) y) (called_in op values t)
    (λ ask is. each_at (IsSoundAsk size cpus) (asks_of op t.state cpus) (length values) ask (asks_sound_in size cpus (mode_of (ps_of t.state)) op t.state pages h) is) pages h (λ y kept v. calls_sound size cpus op left (values ++ v ∷ []) y pages (rw kept.state h)) (called_settled op values t h)

halt_settled : (t : CpuState) (b : Bool) → IsSettled t.state → IsSettled (cond b (behind t) t).state
halt_settled t true h = behind_settled t.state h
halt_settled t false h = h

call_sound : (size cpus : ℕ) (t : CpuState) (op : PalOp) (end : PalEnd) → size % PAGE_BYTES ≡ 0 → IsSettled t.state → IsSound size cpus (call_plan size cpus t op end)
call_sound size cpus t op Ends pages h = calls_sound size cpus op (length (asks_of op t.state cpus)) [] t pages h
call_sound size cpus t op (Enters cause) pages h = behind_settled t.state h
call_sound size cpus t op (Halts code) pages h = halt_settled t (eqb code HALTED) h

row_sound : (size cpus : ℕ) (t : CpuState) (i : Instr) → size % PAGE_BYTES ≡ 0 → IsSettled t.state → IsSound size cpus (row size cpus t i)
unfolding row
row_sound size cpus t (instr.Memory op a b disp) pages h = memory_sound size cpus t op a (register t.state b) disp pages h
row_sound size cpus t (instr.Branch op a disp) pages h = branch_sound size cpus t op a disp h
row_sound size cpus t (instr.Jump kind a b hint) pages h = jump_sound size cpus t a b h
row_sound size cpus t (instr.Operate op a b c) pages h = operate_sound size cpus t op (register t.state a) (operand t b) c h
row_sound size cpus t (instr.Misc op a b) pages h = misc_sound size cpus t op a h
row_sound size cpus t (instr.Pal op) pages h = call_sound size cpus t op (end_of op t.state cpus) pages h
row_sound size cpus t (instr.Floating word) pages h = h
row_sound size cpus t (instr.Reserved word) pages h = behind_settled t.state h

counted_settled : (t : CpuState) → IsSettled t.state → IsSettled (with_fetch_counted t).state
counted_settled t h = record { pc = h.pc; entries = h.entries; block = h.block }

group_by_sound : (size cpus : ℕ) (t : CpuState) (o : Option Cause) → size % PAGE_BYTES ≡ 0 → IsSettled t.state → IsSound size cpus (group_by size cpus t o)
group_by_sound size cpus t None pages h =
    reach_carries (IsSound size cpus) size t Instruction (fetch_of t) (plan_of_word size cpus)
    (reached_sound size cpus t Instruction (fetch_of t) (plan_of_word size cpus) pages h asks_fetch h.pc
    (λ u kept v. row_sound size cpus (with_fetch_counted u) (instr_of (v % 2 ^ 32)) pages (counted_settled u (rw kept.state h))))
group_by_sound size cpus t (Some cause) pages h = saves_sound size cpus cause (length (frame_of cause t.state)) t pages h

pub group_sound : (size cpus : ℕ) (t : CpuState) → size % PAGE_BYTES ≡ 0 → IsSettled t.state → IsSound size cpus (group size cpus t)
unfolding group
group_sound size cpus t pages h = group_by_sound size cpus t t.pending pages h

given_sound : (size cpus v : ℕ) (p : Plan) → IsSound size cpus p → IsSound size cpus (given v p)
given_sound size cpus v (End t) sound = sound
given_sound size cpus v (Want t w k) sound = sound.1 v

pub along_sound : (size cpus : ℕ) (vs : List ℕ) (p : Plan) → IsSound size cpus p → IsSound size cpus (along vs p)
along_sound size cpus [] p sound = sound
along_sound size cpus (v ∷ vs) p sound = along_sound size cpus vs (given v p) (given_sound size cpus v p sound)

arrived_by_settled : (size cpus : ℕ) (t : CpuState) (p : Plan) → IsSettled t.state → IsSound size cpus p → IsSettled (arrived_by t p).state
arrived_by_settled size cpus t (End u) h sound = sound
arrived_by_settled size cpus t (Want u w k) h sound = h

arrived_in_settled : (size : ℕ) (t : CpuState) (o : Option Cause) → size % PAGE_BYTES ≡ 0 → IsSettled t.state → IsSettled (arrived_in size t o).state
arrived_in_settled size t None pages h = h
arrived_in_settled size t (Some cause) pages h = arrived_by_settled size 0 t (entry_group size t cause) h (saves_sound size 0 cause (length (frame_of cause t.state)) t pages h)

pub arrived_settled : (size : ℕ) (t : CpuState) → size % PAGE_BYTES ≡ 0 → IsSettled t.state → IsSettled (arrived size t).state
unfolding arrived
arrived_settled size t pages h = arrived_in_settled size t t.pending pages h
