-- The accesses of entries and of PAL calls.
use Rattle.std.proofs.Common.{◌≡◌, ℕ, zero, suc, ◌-◌, ◌^◌, ◌<◌, Bool, true, false, cond, List, [], ◌∷◌, ◌++◌, length, take, Option, Some, None, rules, arith, refl, sym, ap, ◌∙◌, subst}
use Rattle.std.specs.Prelude.{slice_get}
use Rattle.axp_decode.specs.declared.names.PalOp.{PalOp}
use Rattle.axp_pal.specs.Calls.{IsAnswered, Row, asks_of, faults, is_privileged, row_in, row_of}
use Rattle.axp_trap.specs.declared.causes.TheConstants.{RESERVED_INSTRUCTION}
use Rattle.axp_trap.specs.Entries as trap
use Rattle.axp_pte.specs.declared.faults.Mode.{Mode}
use Rattle.axp_pte.specs.declared.faults.Mode.TheVariants as mode
use Rattle.axp_regs.specs.States.{ps_of, with_pc}
use Rattle.axp_regs.specs.declared.asks.Ask.{Ask}
use Rattle.axp_regs.specs.declared.states.State.{State}
use Rattle.axp_trap.specs.Frames.{frame_address, frame_of, whole_frame}
use Rattle.axp_trap.specs.Status.{mode_of}
use Rattle.axp_trap.specs.declared.causes.Cause.{Cause}
use Rattle.axp_cpu.specs.declared.cpu_states.CpuState.{CpuState}
use Rattle.axp_cpu.specs.Phases.{IsSmall}
use Rattle.axp_cpu.specs.Plans.{End}
use Rattle.axp_cpu.specs.CpuStates.{called_in, entered_in}
use Rattle.axp_cpu.specs.Rows.{calls_plan, saves_plan}
use Rattle.axp_cpu.specs.Translation.{ask_plan, next_plan_of}

-- each access of a list is such
abbrev pub Each : (Ask → Type 0) → List Ask → Type 0
Each P [] = Unit {0}
Each P (a ∷ rest) = P a × Each P rest

pub each_at : (P : Ask → Type 0) (asks : List Ask) (n : ℕ) (ask : Ask) → Each P asks → slice_get asks n ≡ Some ask → P ask
each_at P [] n ask each is = cc
each_at P (a ∷ rest) zero ask each is = let same : a ≡ ask = cc in subst P same each.0
each_at P (a ∷ rest) (suc n) ask each is = each_at P rest n ask each.1 is

pub each_take : (P : Ask → Type 0) (n : ℕ) (asks : List Ask) → Each P asks → Each P (take n asks)
each_take P zero asks each = tt
each_take P (suc n) [] each = tt
each_take P (suc n) (a ∷ rest) each = (each.0, each_take P n rest each.1)

-- a value of 64 bits fits the size of the access that has it
abbrev FitsWord : Ask → Type 0
FitsWord ask = ask.value < 2 ^ 64 → IsSmall ask

whole_fits : (address : ℕ) (s : State) → Each FitsWord (whole_frame address s)
whole_fits address s = ((λ small. small), ((λ small. small), ((λ small. small), ((λ small. small), ((λ small. small), ((λ small. small), tt))))))

frame_fits : (cause : Cause) (s : State) → Each FitsWord (frame_of cause s)
frame_fits cause s = each_take FitsWord (trap.row_of cause).words (whole_frame (frame_address s) s) (whole_fits (frame_address s) s)

pub frame_small : (cause : Cause) (s : State) (n : ℕ) (ask : Ask) → slice_get (frame_of cause s) n ≡ Some ask → ask.value < 2 ^ 64 → IsSmall ask
frame_small cause s n ask is = each_at FitsWord (frame_of cause s) n ask (frame_fits cause s) is

call_fits : (op : PalOp) (s : State) (cpus : ℕ) → Each FitsWord (row_of op s cpus).asks
unfolding row_of
call_fits op s cpus = search (rules, arith)

reserved_or : (b : Bool) (p q : Row) → Each FitsWord p.asks → Each FitsWord q.asks → Each FitsWord (cond b p q).asks
reserved_or true p q left right = left
reserved_or false p q left right = right

call_small_in : (m : Mode) (op : PalOp) (s : State) (cpus : ℕ) → Each FitsWord (row_in m op s cpus).asks
call_small_in mode.User op s cpus = reserved_or (is_privileged op) (faults RESERVED_INSTRUCTION) (row_of op s cpus) tt (call_fits op s cpus)
call_small_in mode.Kernel op s cpus = call_fits op s cpus

pub call_small : (op : PalOp) (s : State) (cpus n : ℕ) (ask : Ask) → slice_get (asks_of op s cpus) n ≡ Some ask → ask.value < 2 ^ 64 → IsSmall ask
call_small op s cpus n ask is = each_at FitsWord (asks_of op s cpus) n ask (call_small_in (mode_of (ps_of s)) op s cpus) is

-- the next word of a frame
save_next_of : (size : ℕ) (cause : Cause) (before : ℕ) (t : CpuState) (ask : Ask) → slice_get (frame_of cause t.state) (length (frame_of cause t.state) - suc before) ≡ Some ask
    → saves_plan size cause (suc before) t ≡ ask_plan size t ask (λ u v. saves_plan size cause before u)
save_next_of size cause before t ask is = ap (λ o. next_plan_of size t o (λ u v. saves_plan size cause before u) (End (entered_in cause t))) is

pub save_next : (size : ℕ) (cause : Cause) (left before : ℕ) (t : CpuState) (ask : Ask) → left ≡ suc before → slice_get (frame_of cause t.state) (length (frame_of cause t.state) - left) ≡ Some ask
    → saves_plan size cause left t ≡ ask_plan size t ask (λ u v. saves_plan size cause before u)
save_next size cause left before t ask e is =
    subst (λ n. slice_get (frame_of cause t.state) (length (frame_of cause t.state) - n) ≡ Some ask → saves_plan size cause n t ≡ ask_plan size t ask (λ u v. saves_plan size cause before u)) (sym e) (save_next_of size cause before t ask) is

pub save_done : (size : ℕ) (cause : Cause) (left : ℕ) (t : CpuState) → slice_get (frame_of cause t.state) (length (frame_of cause t.state) - left) ≡ None → End (entered_in cause t) ≡ saves_plan size cause left t
save_done size cause zero t is = refl
save_done size cause (suc left) t is = ap (λ o. next_plan_of size t o (λ u v. saves_plan size cause left u) (End (entered_in cause t))) (sym is)

-- the next access of a call
call_next_of : (size cpus : ℕ) (op : PalOp) (before : ℕ) (values : List ℕ) (t : CpuState) (ask : Ask) → slice_get (asks_of op t.state cpus) (length values) ≡ Some ask
    → calls_plan size cpus op (suc before) values t ≡ ask_plan size t ask (λ u v. calls_plan size cpus op before (values ++ v ∷ []) u)
call_next_of size cpus op before values t ask is = ap (λ o. next_plan_of size t o (λ u v. calls_plan size cpus op before (values ++ v ∷ []) u) (End (called_in op values t))) is

pub call_next : (size cpus : ℕ) (op : PalOp) (left before : ℕ) (values : List ℕ) (t : CpuState) (ask : Ask) → left ≡ suc before → slice_get (asks_of op t.state cpus) (length values) ≡ Some ask
    → calls_plan size cpus op left values t ≡ ask_plan size t ask (λ u v. calls_plan size cpus op before (values ++ v ∷ []) u)
call_next size cpus op left before values t ask e is =
    subst (λ n. calls_plan size cpus op n values t ≡ ask_plan size t ask (λ u v. calls_plan size cpus op before (values ++ v ∷ []) u)) (sym e) (call_next_of size cpus op before values t ask is)

-- what the code looked up is the word that is next, and the access
pub word_found : (frame words all : List Ask) (left from word : ℕ) (o : Option Ask) (ask : Ask) → words ≡ frame → all ≡ frame → from ≡ left → word ≡ length all - from → o ≡ slice_get words word → o ≡ Some ask → slice_get frame (length frame - left) ≡ Some ask
word_found frame words all left from word o ask is whole same at got some =
    ap (slice_get frame) (sym (at ∙ ap (λ xs. length xs - from) whole ∙ ap (λ m. length frame - m) same)) ∙ ap (λ xs. slice_get xs word) (sym is) ∙ sym got ∙ some

pub ask_found : (asks got_from : List Ask) (values : List ℕ) (n : ℕ) (o : Option Ask) (ask : Ask) → got_from ≡ asks → n ≡ length values → o ≡ slice_get got_from n → o ≡ Some ask → slice_get asks (length values) ≡ Some ask
ask_found asks got_from values n o ask is at got some = ap (slice_get asks) (sym at) ∙ ap (λ xs. slice_get xs n) (sym is) ∙ sym got ∙ some

-- an access that is left is there
pub never_past : (asks : List Ask) (n : ℕ) → n < length asks → slice_get asks n ≡ None → ⊥
never_past [] n below is = let never : n < 0 = below in omega (arith, never)
never_past (a ∷ rest) zero below is = cc
never_past (a ∷ rest) (suc n) below is = let there : n < length rest = omega (arith, below) in never_past rest n there is

-- the accesses of a call do not hang on the program counter
row_behind : (op : PalOp) (s : State) (pc cpus : ℕ) → row_of op (with_pc s pc) cpus ≡ row_of op s cpus
unfolding row_of
row_behind op s pc cpus = search rules

row_in_behind : (m : Mode) (op : PalOp) (s : State) (pc cpus : ℕ) → row_in m op (with_pc s pc) cpus ≡ row_in m op s cpus
row_in_behind mode.User op s pc cpus = ap (λ r. cond (is_privileged op) (faults RESERVED_INSTRUCTION) r) (row_behind op s pc cpus)
row_in_behind mode.Kernel op s pc cpus = row_behind op s pc cpus

pub answered_behind : (op : PalOp) (s : State) (pc : ℕ) (values : List ℕ) → IsAnswered op s values → IsAnswered op (with_pc s pc) values
answered_behind op s pc values is = record {
  cpus = is.cpus;
  ends = ap (λ (r : Row). r.end) (row_in_behind (mode_of (ps_of s)) op s pc is.cpus) ∙ is.ends;
  each = is.each ∙ ap (λ (r : Row). length r.asks) (sym (row_in_behind (mode_of (ps_of s)) op s pc is.cpus));
}
