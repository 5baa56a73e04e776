-- A load, a store or a store-conditional goes on with what its access shows.
use Rattle.std.proofs.Common.{◌≡◌, ◌≢◌, ℕ, zero, suc, ◌+◌, ◌%◌, ◌^◌, ◌<◌, Bool, true, false, cond, eqb, List, [], ◌∷◌, ◌++◌, length, Option, Some, None, IfSome, arith, refl, sym, ap, ◌∙◌, subst, rules, get_or-set_other}
use Rattle.std.proofs.lemmas.Bool.{eqb-true}
use Rattle.std.proofs.lemmas.List.{get_or-set_same}
use Rattle.std.specs.Prelude.{IfNone, slice_get}
use Rattle.axp_access.specs.declared.Access.{Access}
use Rattle.axp_access.specs.declared.Wanted.{Wanted}
use Rattle.axp_base.specs.Sizes.{bytes_of, low_datum}
use Rattle.axp_base.specs.declared.sizes.Size.{Size}
use Rattle.axp_base.specs.declared.sizes.Size.TheVariants.{Byte, Word, Long, Quad}
use Rattle.axp_bytes.specs.Rows as bytes
use Rattle.axp_decode.specs.Format.{instr_of, ra_of}
use Rattle.axp_decode.specs.Table.{memory_number, operate_opcode}
use Rattle.axp_decode.specs.declared.instructions.Instr.{Instr}
use Rattle.axp_decode.specs.declared.instructions.Instr.TheVariants as instr
use Rattle.axp_decode.specs.declared.instructions.Instr.TheVariants.{Memory}
use Rattle.axp_decode.specs.declared.names.BranchOp.{BranchOp}
use Rattle.axp_decode.specs.declared.names.MemOp.{MemOp}
use Rattle.axp_decode.specs.declared.names.MemOp.TheVariants as memory
use Rattle.axp_decode.specs.declared.names.MiscOp.{MiscOp}
use Rattle.axp_decode.specs.declared.names.MiscOp.TheVariants as misc
use Rattle.axp_decode.specs.declared.names.Op.{Op}
use Rattle.axp_decode.specs.declared.names.PalOp.{PalOp}
use Rattle.axp_decode.specs.declared.numbers.TheConstants.{BYTE_OPCODE}
use Rattle.axp_decode.proofs.Words.{stands_for}
use Rattle.axp_integer.specs.Rows as integer
use Rattle.axp_regs.specs.States.{fetched_of, locked_of, pc_of, ps_of, register, with_fetched, with_register}
use Rattle.axp_base.specs.Numbers.{add}
use Rattle.axp_image.specs.declared.limits.TheConstants.{INSTRUCTION_BYTES}
use Rattle.axp_pal.specs.Calls.{asks_of, end_of, faults, is_privileged, row_in, row_of}
use Rattle.axp_pal.specs.declared.plans.PalEnd.{PalEnd}
use Rattle.axp_pal.specs.declared.plans.PalEnd.TheVariants.{Ends, Enters, Halts}
use Rattle.axp_pte.specs.declared.faults.Mode.{Mode}
use Rattle.axp_pte.specs.declared.faults.Mode.TheVariants as mode
use Rattle.axp_trap.specs.Status.{mode_of}
use Rattle.axp_trap.specs.declared.causes.Cause.{Cause}
use Rattle.axp_trap.specs.declared.causes.Cause.TheVariants.{Mm, Una}
use Rattle.axp_trap.specs.declared.causes.TheConstants.{RESERVED_INSTRUCTION}
use Rattle.axp_regs.specs.declared.asks.Ask.{Ask}
use Rattle.axp_regs.specs.declared.asks.Kind.{Kind}
use Rattle.axp_regs.specs.declared.asks.Kind.TheVariants.{Fetch, Read, Write, Locked, Conditional}
use Rattle.axp_regs.specs.declared.states.State.{State}
use Rattle.axp_regs.specs.declared.states.TheConstants.{REGISTERS, ZERO_REGISTER}
use Rattle.axp_cpu.specs.declared.cpu_states.CpuState.{CpuState}
use Rattle.axp_cpu.specs.declared.cpu_states.TheConstants.{BEYOND_MEMORY}
use Rattle.axp_cpu.specs.declared.translation.Origin.{Origin}
use Rattle.axp_cpu.specs.declared.translation.Origin.TheVariants.{Frame, Instruction}
use Rattle.axp_cpu.specs.CpuStates.{at_pc, behind, called_in, halted_by, raising, with_fetch_counted, with_lock_flag, next_pc, with_value}
use Rattle.axp_cpu.specs.Following.{value_by, value_shown}
use Rattle.axp_cpu.specs.Plans.{Plan, End, Want, along, given}
use Rattle.axp_cpu.specs.Rows.{address_of, arrived, arrived_in, as_longword, as_longword_with, as_made, as_read, as_read_with, branch_row, call_plan, calls_plan, datum_plan, fetch_of, group, group_by, instruction_plan, load_plan, memory_row, misc_row, next_plan, operand, operate_row, overflow_cause, plan_of_word, quadword_at, raise_behind, register_plan, row, virtual_ask}
use Rattle.axp_cpu.specs.Seats.{Seat, is_finished, seat_at_plan, plan_now, wanted_by}
use Rattle.axp_cpu.specs.Showing.{IsAccessOf, lock_flag, register_value, seat_shown}
use Rattle.axp_cpu.specs.Soundness.{IsDone, IsEnd}
use Rattle.axp_cpu.specs.Translation.{entry_wanted, fault_in, next_plan_of, reach_plan, wanted_at, way_of}
use Rattle.axp_cpu.proofs.AskLemmas.{Each, each_at}
use Rattle.axp_cpu.proofs.ReachLemmas.{Carries, HasKept, ask_carries, either, reach_carries}
use Rattle.axp_cpu.proofs.SeatLemmas.{along-more}

-- the table state that the access leaves
abbrev pub given_to : ℕ → Option ℕ → CpuState → CpuState
given_to a None t = t
given_to a (Some v) t = with_value t a v

abbrev pub table_shown : CpuState → MemOp → ℕ → Access → CpuState
table_shown t op a x = at_pc (given_to a (register_value op x) (with_lock_flag t (lock_flag op (locked_of t.state)))) (next_pc t)

-- no value leads on from an end
along_end : (vs : List ℕ) (p : Plan) → IsEnd p → along vs p ≡ p
along_end [] p is = refl
along_end (v ∷ vs) (End t) is = along_end vs (End t) tt
along_end (v ∷ vs) (Want t w k) is = absurd is

end_wants : (p : Plan) (w : Wanted) → IsEnd p → wanted_by p ≡ Some w → ⊥
end_wants (End t) w is wants = cc
end_wants (Want t w' k) w is wants = absurd is

-- an end wants nothing, whatever values come
ended_wants : (es : List ℕ) (p : Plan) (w : Wanted) → IsEnd p → wanted_by (along es p) ≡ Some w → ⊥
ended_wants es p w is wants = end_wants p w is (ap wanted_by (sym (along_end es p is)) ∙ wants)

-- the kind of what is wanted
some_kind : (y w : Wanted) → Some y ≡ Some w → y.kind ≡ w.kind
some_kind y w e = let same : y ≡ w = cc in ap (λ (z : Wanted). z.kind) same

-- no row wants a fetch
abbrev is_fetch : Kind → Bool
is_fetch Fetch = true
is_fetch _ = false

abbrev FetchesNone : Plan → Type 0
FetchesNone (End t) = Unit {0}
FetchesNone (Want t w k) = (is_fetch w.kind ≡ false) × ((v : ℕ) → FetchesNone (k v))

end_fetches_none : (p : Plan) → IsEnd p → FetchesNone p
end_fetches_none (End t) is = tt
end_fetches_none (Want t w k) is = absurd is

-- the access by which an address is reached, where what follows wants none
reached_fetches_none : (size : ℕ) (t : CpuState) (origin : Origin) (ask : Ask) (k : CpuState → ℕ → Plan) → is_fetch ask.kind ≡ false → ((u : CpuState) (v : ℕ) → FetchesNone (k u v)) → Carries FetchesNone size t origin ask k
reached_fetches_none size t origin ask k other none = record {
  fault = λ fault. tt;
  beyond = λ u kept. tt;
  entry = λ near below whole next follows. (refl, follows);
  access = λ u kept near below alike. (other, none u);
}

datum_fetches_none : (size : ℕ) (t : CpuState) (op : MemOp) (a : ℕ) (kind : Kind) (what : Size) (address value : ℕ) (k : CpuState → ℕ → Plan) → is_fetch kind ≡ false → ((y : CpuState) (v : ℕ) → IsEnd (k y v)) → FetchesNone (datum_plan size t op a kind what address value k)
datum_fetches_none size t op a kind what address value k other ends =
    let ask = virtual_ask kind address (bytes_of what) value in
    either FetchesNone (eqb (address % bytes_of what) 0) (reach_plan size t Instruction ask k) _
    (λ _. reach_carries FetchesNone size t Instruction ask k (reached_fetches_none size t Instruction ask k other (λ u v. end_fetches_none (k u v) (ends u v)))) (λ _. tt)

loaded_fetches_none : (size : ℕ) (t : CpuState) (op : MemOp) (what : Size) (a address : ℕ) (k : CpuState → ℕ → Plan) → ((y : CpuState) (v : ℕ) → IsEnd (k y v)) → FetchesNone (load_plan size t op what a address k)
loaded_fetches_none size t op what a address k ends =
    either FetchesNone (eqb a ZERO_REGISTER) (next_plan t) _ (λ _. tt) (λ _. datum_fetches_none size t op a Read what address 0 k refl ends)

memory_fetches_none : (size : ℕ) (t : CpuState) (op : MemOp) (a base disp : ℕ) → FetchesNone (memory_row size t op a base disp)
memory_fetches_none size t memory.LDA a base disp = tt
memory_fetches_none size t memory.LDAH a base disp = tt
memory_fetches_none size t memory.LDBU a base disp = loaded_fetches_none size t memory.LDBU Byte a (address_of base disp) (as_read a) (λ y v. tt)
memory_fetches_none size t memory.LDWU a base disp = loaded_fetches_none size t memory.LDWU Word a (address_of base disp) (as_read a) (λ y v. tt)
memory_fetches_none size t memory.LDL a base disp = loaded_fetches_none size t memory.LDL Long a (address_of base disp) (as_longword a) (λ y v. tt)
memory_fetches_none size t memory.LDQ a base disp = loaded_fetches_none size t memory.LDQ Quad a (address_of base disp) (as_read a) (λ y v. tt)
memory_fetches_none size t memory.LDQ_U a base disp = loaded_fetches_none size t memory.LDQ_U Quad a (quadword_at (address_of base disp)) (as_read a) (λ y v. tt)
memory_fetches_none size t memory.LDL_L a base disp = datum_fetches_none size t memory.LDL_L a Locked Long (address_of base disp) 0 (as_longword_with true a) refl (λ y v. tt)
memory_fetches_none size t memory.LDQ_L a base disp = datum_fetches_none size t memory.LDQ_L a Locked Quad (address_of base disp) 0 (as_read_with true a) refl (λ y v. tt)
memory_fetches_none size t memory.STB a base disp = datum_fetches_none size t memory.STB a Write Byte (address_of base disp) (low_datum Byte (register t.state a)) as_made refl (λ y v. tt)
memory_fetches_none size t memory.STW a base disp = datum_fetches_none size t memory.STW a Write Word (address_of base disp) (low_datum Word (register t.state a)) as_made refl (λ y v. tt)
memory_fetches_none size t memory.STL a base disp = datum_fetches_none size t memory.STL a Write Long (address_of base disp) (low_datum Long (register t.state a)) as_made refl (λ y v. tt)
memory_fetches_none size t memory.STQ a base disp = datum_fetches_none size t memory.STQ a Write Quad (address_of base disp) (low_datum Quad (register t.state a)) as_made refl (λ y v. tt)
memory_fetches_none size t memory.STQ_U a base disp = datum_fetches_none size t memory.STQ_U a Write Quad (quadword_at (address_of base disp)) (low_datum Quad (register t.state a)) as_made refl (λ y v. tt)
memory_fetches_none size t memory.STL_C a base disp = datum_fetches_none size t memory.STL_C a Conditional Long (address_of base disp) (low_datum Long (register t.state a)) (as_read_with false a) refl (λ y v. tt)
memory_fetches_none size t memory.STQ_C a base disp = datum_fetches_none size t memory.STQ_C a Conditional Quad (address_of base disp) (low_datum Quad (register t.state a)) (as_read_with false a) refl (λ y v. tt)

operate_fetches_none : (t : CpuState) (op : Op) (a b c : ℕ) → FetchesNone (operate_row t op a b c)
operate_fetches_none t op a b c =
    let computed = integer.value_of op a b (register t.state c) in
    either FetchesNone (eqb (operate_opcode op) BYTE_OPCODE) (register_plan t c (bytes.value_of op a b)) _ (λ _. tt)
    (λ _. either FetchesNone (integer.overflow_of op a b) (raise_behind (with_value t c computed) (overflow_cause c)) (register_plan t c computed) (λ _. tt) (λ _. tt))

branch_fetches_none : (t : CpuState) (op : BranchOp) (a disp : ℕ) → FetchesNone (branch_row t op a disp)
branch_fetches_none t op a disp = search rules

misc_fetches_none : (t : CpuState) (op : MiscOp) (a : ℕ) → FetchesNone (misc_row t op a)
misc_fetches_none t misc.MB a = (refl, λ v. tt)
misc_fetches_none t misc.WMB a = (refl, λ v. tt)
misc_fetches_none t op a = search rules

-- an access of a PAL call is no fetch
abbrev IsNoFetch : Ask → Type 0
IsNoFetch ask = is_fetch ask.kind ≡ false

call_asks_none : (op : PalOp) (s : State) (cpus : ℕ) → Each IsNoFetch (row_of op s cpus).asks
unfolding row_of
call_asks_none op s cpus = search rules

asks_none_in : (m : Mode) (op : PalOp) (s : State) (cpus : ℕ) → Each IsNoFetch (row_in m op s cpus).asks
asks_none_in mode.User op s cpus = reserved_none (is_privileged op) where
  reserved_none : (b : Bool) → Each IsNoFetch (cond b (faults RESERVED_INSTRUCTION) (row_of op s cpus)).asks
  reserved_none true = tt
  reserved_none false = call_asks_none op s cpus
asks_none_in mode.Kernel op s cpus = call_asks_none op s cpus

-- an access of a call, and what follows
next_fetches_none : (size : ℕ) (t : CpuState) (o : Option Ask) (k : CpuState → ℕ → Plan) (u : CpuState) → ((ask : Ask) → o ≡ Some ask → IsNoFetch ask) → ((y : CpuState) (v : ℕ) → FetchesNone (k y v)) → FetchesNone (next_plan_of size t o k (End u))
next_fetches_none size t None k u other none = tt
next_fetches_none size t (Some ask) k u other none = ask_carries FetchesNone size t ask k (record {
  halts = tt;
  beyond = tt;
  direct = λ direct below. (other ask refl, none t);
  framed = λ framed aligned. reached_fetches_none size t Frame ask k (other ask refl) none;
})

calls_fetch_none : (size cpus : ℕ) (op : PalOp) (left : ℕ) (values : List ℕ) (t : CpuState) → FetchesNone (calls_plan size cpus op left values t)
calls_fetch_none size cpus op zero values t = tt
calls_fetch_none size cpus op (suc left) values t =
    next_fetches_none size t (slice_get (asks_of op t.state cpus) (length values)) (λ y v. calls_plan size cpus op left (values ++ v ∷ []) y) (called_in op values t)
    (λ ask is. each_at IsNoFetch (asks_of op t.state cpus) (length values) ask (asks_none_in (mode_of (ps_of t.state)) op t.state cpus) is)
    (λ y v. calls_fetch_none size cpus op left (values ++ v ∷ []) y)

call_fetches_none : (size cpus : ℕ) (t : CpuState) (op : PalOp) (end : PalEnd) → FetchesNone (call_plan size cpus t op end)
call_fetches_none size cpus t op Ends = calls_fetch_none size cpus op (length (asks_of op t.state cpus)) [] t
call_fetches_none size cpus t op (Enters cause) = tt
call_fetches_none size cpus t op (Halts code) = tt

row_fetches_none : (size cpus : ℕ) (t : CpuState) (i : Instr) → FetchesNone (row size cpus t i)
unfolding row
row_fetches_none size cpus t (instr.Memory op a b disp) = memory_fetches_none size t op a (register t.state b) disp
row_fetches_none size cpus t (instr.Branch op a disp) = branch_fetches_none t op a disp
row_fetches_none size cpus t (instr.Jump kind a b hint) = tt
row_fetches_none size cpus t (instr.Operate op a b c) = operate_fetches_none t op (register t.state a) (operand t b) c
row_fetches_none size cpus t (instr.Misc op a b) = misc_fetches_none t op a
row_fetches_none size cpus t (instr.Pal op) = call_fetches_none size cpus t op (end_of op t.state cpus)
row_fetches_none size cpus t (instr.Floating word) = tt
row_fetches_none size cpus t (instr.Reserved word) = tt

given_fetches_none : (v : ℕ) (p : Plan) → FetchesNone p → FetchesNone (given v p)
given_fetches_none v (End t) none = tt
given_fetches_none v (Want t w k) none = none.1 v

along_fetches_none : (vs : List ℕ) (p : Plan) → FetchesNone p → FetchesNone (along vs p)
along_fetches_none [] p none = none
along_fetches_none (v ∷ vs) p none = along_fetches_none vs (given v p) (given_fetches_none v p none)

never_fetched : (p : Plan) (f : Wanted) → FetchesNone p → wanted_by p ≡ Some f → f.kind ≡ Fetch → ⊥
never_fetched (End t) f none wants is = cc
never_fetched (Want t w k) f none wants is = let never : false ≡ true = sym none.0 ∙ ap is_fetch (some_kind w f wants ∙ is) in cc

-- behind the values that led to the fetch, and its word, stands what follows the word
record GoesBehind (t : CpuState) (k : CpuState → ℕ → Plan) (word : ℕ) (later : List ℕ) (p : Plan) : Type 0 where
  table : CpuState
  kept : HasKept t table
  plan : p ≡ along later (k table word)

fetched_behind : (size cpus : ℕ) (t : CpuState) (word : ℕ) (later es : List ℕ) (f : Wanted) → wanted_by (along es (instruction_plan size cpus t)) ≡ Some f → f.kind ≡ Fetch → GoesBehind t (plan_of_word size cpus) word later (along (es ++ word ∷ later) (instruction_plan size cpus t))
fetched_behind size cpus t word later es f wants is =
    reach_carries (λ p. (es : List ℕ) → wanted_by (along es p) ≡ Some f → GoesBehind t (plan_of_word size cpus) word later (along (es ++ word ∷ later) p))
    size t Instruction (fetch_of t) (plan_of_word size cpus) (record {
      fault = λ fault es wants. absurd (ended_wants es (End (fault_in Instruction (fetch_of t) fault t)) f tt wants);
      beyond = λ u kept es wants. absurd (ended_wants es (End (halted_by BEYOND_MEMORY u)) f tt wants);
      entry = λ near below whole next behind es wants. entry_by near next behind es wants;
      access = λ u kept near below alike es wants. access_by u kept _ es wants;
    }) es wants where
      entry_by : (near : ℕ) (next : ℕ → Plan) → ((v : ℕ) (es : List ℕ) → wanted_by (along es (next v)) ≡ Some f → GoesBehind t (plan_of_word size cpus) word later (along (es ++ word ∷ later) (next v))) → (es : List ℕ)
          → wanted_by (along es (Want t (entry_wanted near) next)) ≡ Some f → GoesBehind t (plan_of_word size cpus) word later (along (es ++ word ∷ later) (Want t (entry_wanted near) next))
      entry_by near next behind [] wants = let same : Read ≡ Fetch = some_kind (entry_wanted near) f wants ∙ is in cc
      entry_by near next behind (v ∷ es) wants = behind v es wants

      access_by : (u : CpuState) → HasKept t u → (w : Wanted) (es : List ℕ) → wanted_by (along es (Want u w (plan_of_word size cpus u))) ≡ Some f → GoesBehind t (plan_of_word size cpus) word later (along (es ++ word ∷ later) (Want u w (plan_of_word size cpus u)))
      access_by u kept w [] wants = record { table = u; kept = kept; plan = refl }
      access_by u kept w (v ∷ es) wants =
          absurd (never_fetched (along es (plan_of_word size cpus u v)) f (along_fetches_none es (plan_of_word size cpus u v) (row_fetches_none size cpus (with_fetch_counted u) (instr_of (v % 2 ^ 32)))) wants is)

-- the access that ends its group leads on by the value that it shows
record EndsIn (t : CpuState) (k : CpuState → ℕ → Plan) (v : ℕ) (p : Plan) : Type 0 where
  table : CpuState
  kept : HasKept t table
  plan : p ≡ k table v

-- a plan to reach an access does not come to its end by itself, and its last access gives this value
record LastGives (t : CpuState) (k : CpuState → ℕ → Plan) (kind : Kind) (w : Wanted) (x : Access) (p : Plan) : Type 0 where
  begun : IsDone p → ⊥
  last : (es : List ℕ) → wanted_by (along es p) ≡ Some w → ((v : ℕ) → IsDone (given v (along es p))) → EndsIn t k (value_by kind x) (given (value_shown x) (along es p))

-- so it is where an entry to the operating system, or a halt, comes in place of the access
ended_gives : (t u : CpuState) (k : CpuState → ℕ → Plan) (kind : Kind) (w : Wanted) (x : Access) → (IsDone (End u) → ⊥) → LastGives t k kind w x (End u)
ended_gives t u k kind w x other = record { begun = other; last = λ es wants last. absurd (ended_wants es (End u) w tt wants) }

raised_gives : (t u : CpuState) (cause : Cause) (k : CpuState → ℕ → Plan) (kind : Kind) (w : Wanted) (x : Access) → LastGives t k kind w x (End (raising cause u))
raised_gives t u cause k kind w x = ended_gives t (raising cause u) k kind w x never where
  never : IsDone (End (raising cause u)) → ⊥
  never is = let none : Some cause ≡ None = is.pending in cc

halted_gives : (t u : CpuState) (code : ℕ) (k : CpuState → ℕ → Plan) (kind : Kind) (w : Wanted) (x : Access) → LastGives t k kind w x (End (halted_by code u))
halted_gives t u code k kind w x = ended_gives t (halted_by code u) k kind w x never where
  never : IsDone (End (halted_by code u)) → ⊥
  never is = let none : Some code ≡ None = is.halted in cc

-- and so it is for the read of an entry, and for the access
entry_gives : (t : CpuState) (k : CpuState → ℕ → Plan) (kind : Kind) (w : Wanted) (x : Access) (near : ℕ) (next : ℕ → Plan) → ((v : ℕ) → LastGives t k kind w x (next v)) → LastGives t k kind w x (Want t (entry_wanted near) next)
entry_gives t k kind w x near next follows = record { begun = λ is. is; last = by } where
  by : (es : List ℕ) → wanted_by (along es (Want t (entry_wanted near) next)) ≡ Some w → ((v : ℕ) → IsDone (given v (along es (Want t (entry_wanted near) next)))) → EndsIn t k (value_by kind x) (given (value_shown x) (along es (Want t (entry_wanted near) next)))
  by [] wants last = absurd ((follows 0).begun (last 0))
  by (v ∷ es) wants last = (follows v).last es wants last

access_gives : (t u : CpuState) (k : CpuState → ℕ → Plan) (ask : Ask) (near : ℕ) (w : Wanted) (x : Access) → HasKept t u → ((y : CpuState) (v : ℕ) → IsEnd (k y v)) → x.kind ≡ w.kind → LastGives t k ask.kind w x (Want u (wanted_at ask near) (k u))
access_gives t u k ask near w x kept ends same = record { begun = λ is. is; last = by } where
  by : (es : List ℕ) → wanted_by (along es (Want u (wanted_at ask near) (k u))) ≡ Some w → ((v : ℕ) → IsDone (given v (along es (Want u (wanted_at ask near) (k u))))) → EndsIn t k (value_by ask.kind x) (given (value_shown x) (along es (Want u (wanted_at ask near) (k u))))
  by [] wants last = record { table = u; kept = kept; plan = ap (λ z. k u (value_by z x)) (same ∙ sym (some_kind (wanted_at ask near) w wants)) }
  by (v ∷ es) wants last = absurd (ended_wants es (k u v) w (ends u v) wants)

datum_shown : (size : ℕ) (t : CpuState) (op : MemOp) (a : ℕ) (kind : Kind) (what : Size) (address value : ℕ) (k : CpuState → ℕ → Plan) (es : List ℕ) (w : Wanted) (x : Access) → ((y : CpuState) (v : ℕ) → IsEnd (k y v))
    → wanted_by (along es (datum_plan size t op a kind what address value k)) ≡ Some w → x.kind ≡ w.kind → ((v : ℕ) → IsDone (given v (along es (datum_plan size t op a kind what address value k))))
    → EndsIn t k (value_by kind x) (given (value_shown x) (along es (datum_plan size t op a kind what address value k)))
datum_shown size t op a kind what address value k es w x ends wants same last =
    let ask = virtual_ask kind address (bytes_of what) value in
    (either (LastGives t k kind w x) (eqb (address % bytes_of what) 0) (reach_plan size t Instruction ask k) (raise_behind t (Una address (memory_number op) a))
    (λ _. reach_carries (LastGives t k kind w x) size t Instruction ask k (record {
      fault = λ fault. raised_gives t t (Mm address fault (way_of kind)) k kind w x;
      beyond = λ u kept. halted_gives t u BEYOND_MEMORY k kind w x;
      entry = λ near below whole next follows. entry_gives t k kind w x near next follows;
      access = λ u kept near below alike. access_gives t u k ask near w x kept ends same;
    }))
    (λ _. raised_gives t (behind t) (Una address (memory_number op) a) k kind w x)).last es wants last

-- a load that wants an access is not one into R31
loaded_by : (zero : Bool) (t : CpuState) (p : Plan) (es : List ℕ) (w : Wanted) → wanted_by (along es (cond zero (next_plan t) p)) ≡ Some w → cond zero (next_plan t) p ≡ p
loaded_by true t p es w wants = absurd (ended_wants es (next_plan t) w tt wants)
loaded_by false t p es w wants = refl

loaded_shown : (size : ℕ) (t : CpuState) (op : MemOp) (what : Size) (a address : ℕ) (k : CpuState → ℕ → Plan) (es : List ℕ) (w : Wanted) (x : Access) → ((y : CpuState) (v : ℕ) → IsEnd (k y v)) → wanted_by (along es (load_plan size t op what a address k)) ≡ Some w → x.kind ≡ w.kind
    → ((v : ℕ) → IsDone (given v (along es (load_plan size t op what a address k)))) → EndsIn t k x.value (given (value_shown x) (along es (load_plan size t op what a address k)))
loaded_shown size t op what a address k es w x ends wants same last =
    let is = loaded_by (eqb a ZERO_REGISTER) t (datum_plan size t op a Read what address 0 k) es w wants in
    let made = datum_shown size t op a Read what address 0 k es w x ends (subst (λ p. wanted_by (along es p) ≡ Some w) is wants) same (subst (λ p. (v : ℕ) → IsDone (given v (along es p))) is last) in
    record { table = made.table; kept = made.kept; plan = ap (λ p. given (value_shown x) (along es p)) is ∙ made.plan }

-- what the instruction's end makes of the table state
abbrev end_shown : MemOp → ℕ → Access → CpuState → ℕ → Plan
end_shown op a x t v = End (table_shown t op a x)

row_shown : (size : ℕ) (t : CpuState) (op : MemOp) (a base disp : ℕ) (es : List ℕ) (w : Wanted) (x : Access) → wanted_by (along es (memory_row size t op a base disp)) ≡ Some w → x.kind ≡ w.kind → ((v : ℕ) → IsDone (given v (along es (memory_row size t op a base disp))))
    → EndsIn t (end_shown op a x) 0 (given (value_shown x) (along es (memory_row size t op a base disp)))
row_shown size t memory.LDA a base disp es w x wants same last = absurd (ended_wants es (memory_row size t memory.LDA a base disp) w tt wants)
row_shown size t memory.LDAH a base disp es w x wants same last = absurd (ended_wants es (memory_row size t memory.LDAH a base disp) w tt wants)
row_shown size t memory.LDBU a base disp es w x wants same last =
    let made = loaded_shown size t memory.LDBU Byte a (address_of base disp) (as_read a) es w x (λ y v. tt) wants same last in record { table = made.table; kept = made.kept; plan = made.plan }
row_shown size t memory.LDWU a base disp es w x wants same last =
    let made = loaded_shown size t memory.LDWU Word a (address_of base disp) (as_read a) es w x (λ y v. tt) wants same last in record { table = made.table; kept = made.kept; plan = made.plan }
row_shown size t memory.LDL a base disp es w x wants same last =
    let made = loaded_shown size t memory.LDL Long a (address_of base disp) (as_longword a) es w x (λ y v. tt) wants same last in record { table = made.table; kept = made.kept; plan = made.plan }
row_shown size t memory.LDQ a base disp es w x wants same last =
    let made = loaded_shown size t memory.LDQ Quad a (address_of base disp) (as_read a) es w x (λ y v. tt) wants same last in record { table = made.table; kept = made.kept; plan = made.plan }
row_shown size t memory.LDQ_U a base disp es w x wants same last =
    let made = loaded_shown size t memory.LDQ_U Quad a (quadword_at (address_of base disp)) (as_read a) es w x (λ y v. tt) wants same last in record { table = made.table; kept = made.kept; plan = made.plan }
row_shown size t memory.LDL_L a base disp es w x wants same last =
    let made = datum_shown size t memory.LDL_L a Locked Long (address_of base disp) 0 (as_longword_with true a) es w x (λ y v. tt) wants same last in record { table = made.table; kept = made.kept; plan = made.plan }
row_shown size t memory.LDQ_L a base disp es w x wants same last =
    let made = datum_shown size t memory.LDQ_L a Locked Quad (address_of base disp) 0 (as_read_with true a) es w x (λ y v. tt) wants same last in record { table = made.table; kept = made.kept; plan = made.plan }
row_shown size t memory.STB a base disp es w x wants same last =
    let made = datum_shown size t memory.STB a Write Byte (address_of base disp) (low_datum Byte (register t.state a)) as_made es w x (λ y v. tt) wants same last in record { table = made.table; kept = made.kept; plan = made.plan }
row_shown size t memory.STW a base disp es w x wants same last =
    let made = datum_shown size t memory.STW a Write Word (address_of base disp) (low_datum Word (register t.state a)) as_made es w x (λ y v. tt) wants same last in record { table = made.table; kept = made.kept; plan = made.plan }
row_shown size t memory.STL a base disp es w x wants same last =
    let made = datum_shown size t memory.STL a Write Long (address_of base disp) (low_datum Long (register t.state a)) as_made es w x (λ y v. tt) wants same last in record { table = made.table; kept = made.kept; plan = made.plan }
row_shown size t memory.STQ a base disp es w x wants same last =
    let made = datum_shown size t memory.STQ a Write Quad (address_of base disp) (low_datum Quad (register t.state a)) as_made es w x (λ y v. tt) wants same last in record { table = made.table; kept = made.kept; plan = made.plan }
row_shown size t memory.STQ_U a base disp es w x wants same last =
    let made = datum_shown size t memory.STQ_U a Write Quad (quadword_at (address_of base disp)) (low_datum Quad (register t.state a)) as_made es w x (λ y v. tt) wants same last in record { table = made.table; kept = made.kept; plan = made.plan }
row_shown size t memory.STL_C a base disp es w x wants same last =
    let made = datum_shown size t memory.STL_C a Conditional Long (address_of base disp) (low_datum Long (register t.state a)) (as_read_with false a) es w x (λ y v. tt) wants same last in record { table = made.table; kept = made.kept; plan = made.plan }
row_shown size t memory.STQ_C a base disp es w x wants same last =
    let made = datum_shown size t memory.STQ_C a Conditional Quad (address_of base disp) (low_datum Quad (register t.state a)) (as_read_with false a) es w x (λ y v. tt) wants same last in record { table = made.table; kept = made.kept; plan = made.plan }

-- the seat after it: the table state has the registers of the start, with the fetch counted
record ShownAfter (s : Seat) (op : MemOp) (a : ℕ) (x : Access) : Type 0 where
  table : CpuState
  registers : table.state ≡ (with_fetch_counted s.start).state
  seat : seat_shown s x ≡ record { size = s.size; cpus = s.cpus; budget = s.budget; start = table_shown table op a x; values = []; steps = s.steps + 1 }

-- what a processor wants, its plan wants
wants_now : (s : Seat) (w : Wanted) (finished : Bool) → cond finished None (wanted_by (plan_now s)) ≡ Some w → wanted_by (plan_now s) ≡ Some w
wants_now s w true e = cc
wants_now s w false e = e

-- a group at a boundary is that of an instruction
at_instruction : (size cpus : ℕ) (t : CpuState) → t.pending ≡ None → group size cpus t ≡ instruction_plan size cpus t
unfolding group
at_instruction size cpus t none = ap (group_by size cpus t) none

-- where nothing is pending, the processor stays where its group ended
stays_there : (size : ℕ) (t : CpuState) → t.pending ≡ None → arrived size t ≡ t
unfolding arrived
stays_there size t none = ap (arrived_in size t) none

-- the seat after a group that is done
seat_at_end : (s : Seat) (vs : List ℕ) (p : Plan) (t : CpuState) → p ≡ End t → IsDone p → seat_at_plan s vs p ≡ record { size = s.size; cpus = s.cpus; budget = s.budget; start = t; values = []; steps = s.steps + 1 }
seat_at_end s vs p t e done =
    let ended : IsDone (End t) = subst IsDone e done in
    ap (seat_at_plan s vs) e ∙ ap (λ u. record { size = s.size; cpus = s.cpus; budget = s.budget; start = u; values = []; steps = s.steps + 1 }) (stays_there s.size t ended.pending)

-- so is the seat after the access of an instruction
goes_on_shown : (s : Seat) (op : MemOp) (a : ℕ) (x : Access) → IsAccessOf s op a x → ShownAfter s op a x
unfolding row
goes_on_shown s op a x is =
    let v : ℕ = value_shown x in
    let all = s.values ++ v ∷ [] in
    let g : group s.size s.cpus s.start ≡ instruction_plan s.size s.cpus s.start = at_instruction s.size s.cpus s.start is.boundary in
    let wants : wanted_by (plan_now s) ≡ Some is.access = wants_now s is.access (is_finished s) is.wants in
    let behind = fetched_behind s.size s.cpus s.start is.word is.later_entries is.entries is.fetch (ap (λ p. wanted_by (along is.entries p)) (sym g) ∙ is.fetches) is.fetched in
    let u = with_fetch_counted behind.table in
    let base = register u.state is.base in
    let at : plan_now s ≡ along is.later_entries (memory_row s.size u op a base is.displacement) = ap (λ p. along s.values p) g ∙ ap (λ vs. along vs (instruction_plan s.size s.cpus s.start)) is.values ∙ behind.plan ∙ ap (λ i. along is.later_entries (row s.size s.cpus u i)) is.stands_for in
    let made = row_shown s.size u op a base is.displacement is.later_entries is.access x (subst (λ (p : Plan). wanted_by p ≡ Some is.access) at wants) is.kind (subst (λ (p : Plan). (v : ℕ) → IsDone (given v p)) at is.ends) in
    let more : along all (group s.size s.cpus s.start) ≡ given v (plan_now s) = along-more s.values v (group s.size s.cpus s.start) in
    record {
      table = made.table;
      registers = made.kept.state ∙ ap (λ (y : State). with_fetched y ((fetched_of y + 1) % 2 ^ 32)) behind.kept.state;
      seat = seat_at_end s all (along all (group s.size s.cpus s.start)) (table_shown made.table op a x) (more ∙ ap (given v) at ∙ made.plan) (subst IsDone (sym more) (is.ends v));
    }

-- a register that is written is read back, the others stay
written : (s : State) (n v : ℕ) (is_zero : Bool) → eqb n ZERO_REGISTER ≡ is_zero → length s.registers ≡ REGISTERS → n < REGISTERS → n ≢ ZERO_REGISTER → register (with_register s n v) n ≡ v
written s n v true e long below other = absurd (other (eqb-true n ZERO_REGISTER e))
written s n v false e long below other = rw e (get_or-set_same s.registers n v 0 (omega (arith, long, below)))

kept_beside : (s : State) (n v m : ℕ) (is_zero : Bool) → eqb n ZERO_REGISTER ≡ is_zero → m ≢ n → register (with_register s n v) m ≡ register s m
kept_beside s n v m true e other = rw e refl
kept_beside s n v m false e other = rw e (ap (λ y. cond (eqb m ZERO_REGISTER) 0 y) (get_or-set_other s.registers n m v 0 other))

ra_small : (word : ℕ) (op : MemOp) (a b disp : ℕ) → instr_of word ≡ Memory op a b disp → a < REGISTERS
ra_small word op a b disp is = let field : ra_of word ≡ a = (stands_for word (Memory op a b disp) is).1 in omega (arith, field)

given_read : (o : Option ℕ) (t : CpuState) (a pc : ℕ) → length t.state.registers ≡ REGISTERS → a < REGISTERS → a ≢ ZERO_REGISTER → IfSome o (λ v. register (at_pc (given_to a o t) pc).state a ≡ v)
given_read None t a pc long below other = tt
given_read (Some v) t a pc long below other = written t.state a v (eqb a ZERO_REGISTER) refl long below other

given_beside : (o : Option ℕ) (t : CpuState) (a pc n : ℕ) → n ≢ a → register (at_pc (given_to a o t) pc).state n ≡ register t.state n
given_beside None t a pc n other = refl
given_beside (Some v) t a pc n other = kept_beside t.state a v n (eqb a ZERO_REGISTER) refl other

none_given : (o : Option ℕ) (t : CpuState) (a pc : ℕ) (start : State) → ((n : ℕ) → register t.state n ≡ register start n) → IfNone o ((n : ℕ) → register (at_pc (given_to a o t) pc).state n ≡ register start n)
none_given None t a pc start same = same
none_given (Some v) t a pc start same = tt

pub register_shown : (s : Seat) (op : MemOp) (a : ℕ) (x : Access) → IsAccessOf s op a x → a ≢ ZERO_REGISTER → IfSome (register_value op x) (λ v. register (seat_shown s x).start.state a ≡ v)
register_shown s op a x is other =
    let shown = goes_on_shown s op a x is in
    let long : length shown.table.state.registers ≡ REGISTERS = ap (λ (y : State). length y.registers) shown.registers ∙ is.registers in
    subst (λ (q : Seat). IfSome (register_value op x) (λ v. register q.start.state a ≡ v)) (sym shown.seat)
    (given_read (register_value op x) (with_lock_flag shown.table (lock_flag op (locked_of shown.table.state))) a (next_pc shown.table) long (ra_small (is.word % 2 ^ 32) op a is.base is.displacement is.stands_for) other)

pub others_stay : (s : Seat) (op : MemOp) (a : ℕ) (x : Access) → IsAccessOf s op a x → (n : ℕ) → n ≢ a → register (seat_shown s x).start.state n ≡ register s.start.state n
others_stay s op a x is n other =
    let shown = goes_on_shown s op a x is in
    ap (λ (q : Seat). register q.start.state n) shown.seat
    ∙ given_beside (register_value op x) (with_lock_flag shown.table (lock_flag op (locked_of shown.table.state))) a (next_pc shown.table) n other
    ∙ ap (λ (y : State). register y n) shown.registers

pub none_stored : (s : Seat) (op : MemOp) (a : ℕ) (x : Access) → IsAccessOf s op a x → IfNone (register_value op x) ((n : ℕ) → register (seat_shown s x).start.state n ≡ register s.start.state n)
none_stored s op a x is =
    let shown = goes_on_shown s op a x is in
    subst (λ (q : Seat). IfNone (register_value op x) ((n : ℕ) → register q.start.state n ≡ register s.start.state n)) (sym shown.seat)
    (none_given (register_value op x) (with_lock_flag shown.table (lock_flag op (locked_of shown.table.state))) a (next_pc shown.table) s.start.state (λ n. ap (λ (y : State). register y n) shown.registers))

given_flag : (o : Option ℕ) (t : CpuState) (a pc : ℕ) (is_zero : Bool) → eqb a ZERO_REGISTER ≡ is_zero → locked_of (at_pc (given_to a o t) pc).state ≡ locked_of t.state
given_flag None t a pc is_zero e = refl
given_flag (Some v) t a pc true e = rw e refl
given_flag (Some v) t a pc false e = rw e refl

pub flag_shown : (s : Seat) (op : MemOp) (a : ℕ) (x : Access) → IsAccessOf s op a x → locked_of (seat_shown s x).start.state ≡ lock_flag op (locked_of s.start.state)
flag_shown s op a x is =
    let shown = goes_on_shown s op a x is in
    ap (λ (q : Seat). locked_of q.start.state) shown.seat
    ∙ given_flag (register_value op x) (with_lock_flag shown.table (lock_flag op (locked_of shown.table.state))) a (next_pc shown.table) (eqb a ZERO_REGISTER) refl
    ∙ ap (λ (y : State). lock_flag op (locked_of y)) shown.registers

pub ends_after : (s : Seat) (op : MemOp) (a : ℕ) (x : Access) → IsAccessOf s op a x → (seat_shown s x).values ≡ []
ends_after s op a x is = ap (λ (q : Seat). q.values) (goes_on_shown s op a x is).seat

pub goes_on_after : (s : Seat) (op : MemOp) (a : ℕ) (x : Access) → IsAccessOf s op a x → pc_of (seat_shown s x).start.state ≡ next_pc s.start
goes_on_after s op a x is =
    let shown = goes_on_shown s op a x is in
    ap (λ (q : Seat). pc_of q.start.state) shown.seat ∙ ap (λ (y : State). add (pc_of y) INSTRUCTION_BYTES) shown.registers
