-- Until its end a group changes no register but the count of fetched instructions.
use Rattle.std.proofs.Common.{◌≡◌, ℕ, zero, suc, ◌-◌, ◌%◌, ◌^◌, Bool, true, false, cond, eqb, List, [], ◌∷◌, ◌++◌, length, Option, Some, None, refl, ap, ◌∙◌, rules}
use Rattle.std.specs.Prelude.{Result, Ok, Err}
use Rattle.axp_access.specs.declared.Wanted.{Wanted}
use Rattle.axp_base.specs.Sizes.{bytes_of, low_datum}
use Rattle.axp_base.specs.declared.sizes.Size.{Size}
use Rattle.axp_base.specs.declared.sizes.Size.TheVariants.{Byte, Word, Long, Quad}
use Rattle.axp_bytes.specs.Rows as bytes
use Rattle.axp_decode.specs.Format.{instr_of}
use Rattle.axp_decode.specs.Table.{operate_opcode}
use Rattle.axp_decode.specs.declared.instructions.Instr.{Instr}
use Rattle.axp_decode.specs.declared.instructions.Instr.TheVariants as instr
use Rattle.axp_decode.specs.declared.names.BranchOp.{BranchOp}
use Rattle.axp_decode.specs.declared.names.MemOp.{MemOp}
use Rattle.axp_decode.specs.declared.names.MemOp.TheVariants as memory
use Rattle.axp_decode.specs.declared.names.MiscOp.{MiscOp}
use Rattle.axp_decode.specs.declared.names.MiscOp.TheVariants as misc
use Rattle.axp_decode.specs.declared.names.Op.{Op}
use Rattle.axp_decode.specs.declared.names.PalOp.{PalOp}
use Rattle.axp_decode.specs.declared.numbers.TheConstants.{BYTE_OPCODE}
use Rattle.axp_integer.specs.Rows as integer
use Rattle.axp_pte.specs.Addresses.{split_of}
use Rattle.axp_pte.specs.Entries.{pte_word}
use Rattle.axp_pte.specs.declared.addresses.Where.{Where}
use Rattle.axp_pte.specs.declared.addresses.Where.TheVariants.{Direct, Mapped}
use Rattle.axp_pte.specs.declared.entries.Pte.{Pte}
use Rattle.axp_pte.specs.declared.faults.MmFault.{MmFault}
use Rattle.axp_regs.specs.States.{register, with_fetched}
use Rattle.axp_regs.specs.declared.asks.Ask.{Ask}
use Rattle.axp_regs.specs.declared.asks.Kind.{Kind}
use Rattle.axp_regs.specs.declared.asks.Kind.TheVariants.{Read, Write, Locked, Conditional}
use Rattle.axp_regs.specs.declared.states.TheConstants.{ZERO_REGISTER}
use Rattle.axp_cpu.specs.declared.cpu_states.CpuState.{CpuState}
use Rattle.axp_cpu.specs.declared.translation.MappedAsk.{MappedAsk}
use Rattle.axp_cpu.specs.declared.translation.Origin.{Origin}
use Rattle.axp_cpu.specs.declared.translation.Origin.TheVariants.{Frame, Instruction}
use Rattle.axp_pal.specs.Calls.{asks_of, end_of}
use Rattle.axp_pal.specs.declared.plans.PalEnd.{PalEnd}
use Rattle.axp_pal.specs.declared.plans.PalEnd.TheVariants.{Ends, Enters, Halts}
use Rattle.axp_trap.specs.Frames as frames
use Rattle.axp_trap.specs.declared.causes.Cause.{Cause}
use Rattle.axp_base.specs.declared.parts.TheConstants.{QUADWORD_BYTES}
use Rattle.std.specs.Prelude.{slice_get}
use Rattle.axp_cpu.specs.CpuStates.{called_in, entered_in, with_fetch_counted, with_value}
use Rattle.axp_cpu.specs.Plans.{Plan, End, Want, along, given, table_in}
use Rattle.axp_cpu.specs.Rows.{address_of, as_longword, as_longword_with, as_made, as_read, as_read_with, branch_row, call_plan, calls_plan, datum_plan, fetch_of, group, group_by, load_plan, memory_row, misc_row, next_plan, operand, operate_row, overflow_cause, plan_of_word, quadword_at, raise_behind, register_plan, row, saves_plan, virtual_ask}
use Rattle.axp_cpu.specs.Seats.{Seat, plan_now, table_now}
use Rattle.axp_cpu.specs.Stands.{HasSameRegisters}
use Rattle.axp_cpu.specs.Translation.{ask_plan, entry_kept, frame_access, frame_of, frame_plan, framed_by, kept_plan, mode_in, next_plan_of, physical_plan, reach_plan, split_plan}
use Rattle.axp_cpu.proofs.ReachLemmas.{Carries, HasKept, ask_carries, either, reach_carries}

-- while a plan wants accesses, it is in tables that have the registers of this one
abbrev Holds : CpuState → Plan → Type 0
Holds t (End u) = Unit {0}
Holds t (Want u w k) = HasSameRegisters t u × ((v : ℕ) → Holds t (k v))

kept_same : (t u y : CpuState) → HasSameRegisters t u → HasKept u y → HasSameRegisters t y
kept_same t u y same kept = record { state = ap (λ s. with_fetched s 0) kept.state ∙ same.state; halted = kept.halted ∙ same.halted; pending = kept.pending ∙ same.pending }

reached_holds : (size : ℕ) (t u : CpuState) (origin : Origin) (ask : Ask) (k : CpuState → ℕ → Plan) → ((y : CpuState) → HasSameRegisters t y → (v : ℕ) → Holds t (k y v)) → HasSameRegisters t u → Carries (Holds t) size u origin ask k
reached_holds size t u origin ask k holds same = record {
  fault = λ fault. tt;
  beyond = λ y kept. tt;
  entry = λ address below whole next follows. (same, follows);
  access = λ y kept address below alike. (kept_same t u y same kept, holds y (kept_same t u y same kept));
}

datum_holds : (size : ℕ) (t u : CpuState) (op : MemOp) (a : ℕ) (kind : Kind) (what : Size) (address value : ℕ) (k : CpuState → ℕ → Plan) → ((y : CpuState) (v : ℕ) → Holds t (k y v)) → HasSameRegisters t u → Holds t (datum_plan size u op a kind what address value k)
datum_holds size t u op a kind what address value k holds same =
    either (Holds t) (eqb (address % bytes_of what) 0) (reach_plan size u Instruction (virtual_ask kind address (bytes_of what) value) k) _
    (λ _. reach_carries (Holds t) size u Instruction (virtual_ask kind address (bytes_of what) value) k (reached_holds size t u Instruction (virtual_ask kind address (bytes_of what) value) k (λ y _. holds y) same)) (λ _. tt)

loaded_holds : (size : ℕ) (t u : CpuState) (op : MemOp) (what : Size) (a address : ℕ) (k : CpuState → ℕ → Plan) → ((y : CpuState) (v : ℕ) → Holds t (k y v)) → HasSameRegisters t u → Holds t (load_plan size u op what a address k)
loaded_holds size t u op what a address k holds same = either (Holds t) (eqb a ZERO_REGISTER) (next_plan u) _ (λ _. tt) (λ _. datum_holds size t u op a Read what address 0 k holds same)

memory_holds : (size : ℕ) (t u : CpuState) (op : MemOp) (a base disp : ℕ) → HasSameRegisters t u → Holds t (memory_row size u op a base disp)
memory_holds size t u memory.LDA a base disp same = tt
memory_holds size t u memory.LDAH a base disp same = tt
memory_holds size t u memory.LDBU a base disp same = loaded_holds size t u memory.LDBU Byte a (address_of base disp) (as_read a) (λ y v. tt) same
memory_holds size t u memory.LDWU a base disp same = loaded_holds size t u memory.LDWU Word a (address_of base disp) (as_read a) (λ y v. tt) same
memory_holds size t u memory.LDL a base disp same = loaded_holds size t u memory.LDL Long a (address_of base disp) (as_longword a) (λ y v. tt) same
memory_holds size t u memory.LDQ a base disp same = loaded_holds size t u memory.LDQ Quad a (address_of base disp) (as_read a) (λ y v. tt) same
memory_holds size t u memory.LDQ_U a base disp same = loaded_holds size t u memory.LDQ_U Quad a (quadword_at (address_of base disp)) (as_read a) (λ y v. tt) same
memory_holds size t u memory.LDL_L a base disp same = datum_holds size t u memory.LDL_L a Locked Long (address_of base disp) 0 (as_longword_with true a) (λ y v. tt) same
memory_holds size t u memory.LDQ_L a base disp same = datum_holds size t u memory.LDQ_L a Locked Quad (address_of base disp) 0 (as_read_with true a) (λ y v. tt) same
memory_holds size t u memory.STB a base disp same = datum_holds size t u memory.STB a Write Byte (address_of base disp) (low_datum Byte (register u.state a)) as_made (λ y v. tt) same
memory_holds size t u memory.STW a base disp same = datum_holds size t u memory.STW a Write Word (address_of base disp) (low_datum Word (register u.state a)) as_made (λ y v. tt) same
memory_holds size t u memory.STL a base disp same = datum_holds size t u memory.STL a Write Long (address_of base disp) (low_datum Long (register u.state a)) as_made (λ y v. tt) same
memory_holds size t u memory.STQ a base disp same = datum_holds size t u memory.STQ a Write Quad (address_of base disp) (low_datum Quad (register u.state a)) as_made (λ y v. tt) same
memory_holds size t u memory.STQ_U a base disp same = datum_holds size t u memory.STQ_U a Write Quad (quadword_at (address_of base disp)) (low_datum Quad (register u.state a)) as_made (λ y v. tt) same
memory_holds size t u memory.STL_C a base disp same = datum_holds size t u memory.STL_C a Conditional Long (address_of base disp) (low_datum Long (register u.state a)) (as_read_with false a) (λ y v. tt) same
memory_holds size t u memory.STQ_C a base disp same = datum_holds size t u memory.STQ_C a Conditional Quad (address_of base disp) (low_datum Quad (register u.state a)) (as_read_with false a) (λ y v. tt) same

branch_holds : (t u : CpuState) (op : BranchOp) (a disp : ℕ) → Holds t (branch_row u op a disp)
branch_holds t u op a disp = search rules

operate_holds : (t u : CpuState) (op : Op) (a b c : ℕ) → Holds t (operate_row u op a b c)
operate_holds t u op a b c =
    either (Holds t) (eqb (operate_opcode op) BYTE_OPCODE) (register_plan u c (bytes.value_of op a b)) _ (λ _. tt)
    (λ _. either (Holds t) (integer.overflow_of op a b) (raise_behind (with_value u c (integer.value_of op a b (register u.state c))) (overflow_cause c)) (register_plan u c (integer.value_of op a b (register u.state c))) (λ _. tt) (λ _. tt))

misc_holds : (t u : CpuState) (op : MiscOp) (a : ℕ) → HasSameRegisters t u → Holds t (misc_row u op a)
misc_holds t u misc.MB a same = (same, λ v. tt)
misc_holds t u misc.WMB a same = (same, λ v. tt)
misc_holds t u op a same = search rules

-- the accesses of entries and calls
ask_holds : (size : ℕ) (t u : CpuState) (ask : Ask) (k : CpuState → ℕ → Plan) → ((y : CpuState) → HasSameRegisters t y → (v : ℕ) → Holds t (k y v)) → HasSameRegisters t u → Holds t (ask_plan size u ask k)
ask_holds size t u ask k holds same = ask_carries (Holds t) size u ask k (record {
  halts = tt;
  beyond = tt;
  direct = λ direct below. (same, holds u same);
  framed = λ framed aligned. reached_holds size t u Frame ask k holds same;
})

next_holds : (size : ℕ) (t u : CpuState) (o : Option Ask) (k : CpuState → ℕ → Plan) (y : CpuState) → ((y : CpuState) → HasSameRegisters t y → (v : ℕ) → Holds t (k y v)) → HasSameRegisters t u → Holds t (next_plan_of size u o k (End y))
next_holds size t u None k y holds same = tt
next_holds size t u (Some ask) k y holds same = ask_holds size t u ask k holds same

saves_hold : (size : ℕ) (cause : Cause) (left : ℕ) (t u : CpuState) → HasSameRegisters t u → Holds t (saves_plan size cause left u)
saves_hold size cause zero t u same = tt
saves_hold size cause (suc left) t u same =
    next_holds size t u (slice_get (frames.frame_of cause u.state) (length (frames.frame_of cause u.state) - suc left)) (λ y v. saves_plan size cause left y) (entered_in cause u) (λ y kept v. saves_hold size cause left t y kept) same

calls_hold : (size cpus : ℕ) (op : PalOp) (left : ℕ) (values : List ℕ) (t u : CpuState) → HasSameRegisters t u → Holds t (calls_plan size cpus op left values u)
calls_hold size cpus op zero values t u same = tt
calls_hold size cpus op (suc left) values t u same =
    next_holds size t u (slice_get (asks_of op u.state cpus) (length values)) (λ y v. calls_plan size cpus op left (values ++ v ∷ []) y) (called_in op values u) (λ y kept v. calls_hold size cpus op left (values ++ v ∷ []) t y kept) same

call_holds : (size cpus : ℕ) (t u : CpuState) (op : PalOp) (end : PalEnd) → HasSameRegisters t u → Holds t (call_plan size cpus u op end)
call_holds size cpus t u op Ends same = calls_hold size cpus op (length (asks_of op u.state cpus)) [] t u same
call_holds size cpus t u op (Enters cause) same = tt
call_holds size cpus t u op (Halts code) same = tt

row_holds : (size cpus : ℕ) (t u : CpuState) (i : Instr) → HasSameRegisters t u → Holds t (row size cpus u i)
unfolding row
row_holds size cpus t u (instr.Memory op a b disp) same = memory_holds size t u op a (register u.state b) disp same
row_holds size cpus t u (instr.Branch op a disp) same = branch_holds t u op a disp
row_holds size cpus t u (instr.Jump kind a b hint) same = tt
row_holds size cpus t u (instr.Operate op a b c) same = operate_holds t u op (register u.state a) (operand u b) c
row_holds size cpus t u (instr.Misc op a b) same = misc_holds t u op a same
row_holds size cpus t u (instr.Pal op) same = call_holds size cpus t u op (end_of op u.state cpus) same
row_holds size cpus t u (instr.Floating word) same = tt
row_holds size cpus t u (instr.Reserved word) same = tt

counted_same : (t u : CpuState) → HasSameRegisters t u → HasSameRegisters t (with_fetch_counted u)
counted_same t u same = record { state = same.state; halted = same.halted; pending = same.pending }

same_itself : (t : CpuState) → HasSameRegisters t t
same_itself t = record { state = refl; halted = refl; pending = refl }

group_by_holds : (size cpus : ℕ) (t : CpuState) (o : Option Cause) → Holds t (group_by size cpus t o)
group_by_holds size cpus t None =
    reach_carries (Holds t) size t Instruction (fetch_of t) (plan_of_word size cpus)
    (reached_holds size t t Instruction (fetch_of t) (plan_of_word size cpus) (λ y same v. row_holds size cpus t (with_fetch_counted y) (instr_of (v % 2 ^ 32)) (counted_same t y same)) (same_itself t))
group_by_holds size cpus t (Some cause) = saves_hold size cause (length (frames.frame_of cause t.state)) t t (same_itself t)

group_holds : (size cpus : ℕ) (t : CpuState) → Holds t (group size cpus t)
unfolding group
group_holds size cpus t = group_by_holds size cpus t t.pending

given_holds : (t : CpuState) (v : ℕ) (p : Plan) → Holds t p → Holds t (given v p)
given_holds t v (End u) holds = tt
given_holds t v (Want u w k) holds = holds.1 v

along_holds : (t : CpuState) (vs : List ℕ) (p : Plan) → Holds t p → Holds t (along vs p)
along_holds t [] p holds = holds
along_holds t (v ∷ vs) p holds = along_holds t vs (given v p) (given_holds t v p holds)

held_in : (t : CpuState) (p : Plan) → Holds t p → HasSameRegisters t (table_in t p)
held_in t (End u) holds = same_itself t
held_in t (Want u w k) holds = holds.0

pub registers_stay : (s : Seat) → HasSameRegisters s.start (table_now s)
registers_stay s = held_in s.start (plan_now s) (along_holds s.start s.values (group s.size s.cpus s.start) (group_holds s.size s.cpus s.start))

-- a group begins in the table state at its start
begun_by : (b : Bool) (t : CpuState) (w : Wanted) (k : ℕ → Plan) (u : CpuState) → table_in t (cond b (Want t w k) (End u)) ≡ t
begun_by true t w k u = refl
begun_by false t w k u = refl

framed_begins : (o : Result ℕ MmFault) (size : ℕ) (t : CpuState) (far : MappedAsk) (k : CpuState → ℕ → Plan) → table_in t (framed_by t far o (frame_plan size t far k)) ≡ t
framed_begins (Ok frame) size t far k = begun_by _ t _ (k t) _
framed_begins (Err fault) size t far k = refl

kept_begins : (o : Option Pte) (size : ℕ) (t : CpuState) (far : MappedAsk) (k : CpuState → ℕ → Plan) → table_in t (kept_plan size t far k o) ≡ t
kept_begins (Some pte) size t far k = framed_begins (frame_of t far (pte_word pte)) size t far k
kept_begins None size t far k = begun_by _ t _ _ _

split_begins : (o : Result Where MmFault) (size : ℕ) (t : CpuState) (origin : Origin) (ask : Ask) (k : CpuState → ℕ → Plan) → table_in t (split_plan size t origin ask k o) ≡ t
split_begins (Ok (Direct address)) size t origin ask k = begun_by _ t _ (k t) _
split_begins (Ok (Mapped parts)) size t origin ask k =
    let far : MappedAsk = record { ask = ask; origin = origin; parts = parts } in kept_begins (entry_kept t far) size t far k
split_begins (Err fault) size t origin ask k = refl

reach_begins : (size : ℕ) (t : CpuState) (origin : Origin) (ask : Ask) (k : CpuState → ℕ → Plan) → table_in t (reach_plan size t origin ask k) ≡ t
reach_begins size t origin ask k = split_begins (split_of ask.address (mode_in origin t)) size t origin ask k

either_begins : (b : Bool) (t : CpuState) (p q : Plan) → table_in t p ≡ t → table_in t q ≡ t → table_in t (cond b p q) ≡ t
either_begins true t p q left right = left
either_begins false t p q left right = right

next_begins : (size : ℕ) (t : CpuState) (o : Option Ask) (k : CpuState → ℕ → Plan) (u : CpuState) → table_in t (next_plan_of size t o k (End u)) ≡ t
next_begins size t None k u = refl
next_begins size t (Some ask) k u =
    either_begins ask.direct t (physical_plan size t ask ask.address k) (frame_access size t ask k) (begun_by _ t _ (k t) _)
    (either_begins (eqb (ask.address % QUADWORD_BYTES) 0) t (reach_plan size t Frame ask k) _ (reach_begins size t Frame ask k) refl)

saves_begin : (size : ℕ) (cause : Cause) (left : ℕ) (t : CpuState) → table_in t (saves_plan size cause left t) ≡ t
saves_begin size cause zero t = refl
saves_begin size cause (suc left) t = next_begins size t (slice_get (frames.frame_of cause t.state) (length (frames.frame_of cause t.state) - suc left)) (λ y v. saves_plan size cause left y) (entered_in cause t)

group_by_begins : (size cpus : ℕ) (t : CpuState) (o : Option Cause) → table_in t (group_by size cpus t o) ≡ t
group_by_begins size cpus t None = reach_begins size t Instruction (fetch_of t) (plan_of_word size cpus)
group_by_begins size cpus t (Some cause) = saves_begin size cause (length (frames.frame_of cause t.state)) t

pub group_begins : (size cpus : ℕ) (t : CpuState) → table_in t (group size cpus t) ≡ t
unfolding group
group_begins size cpus t = group_by_begins size cpus t t.pending
