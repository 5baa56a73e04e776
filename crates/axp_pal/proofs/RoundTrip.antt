-- An entry, and the return with the words that it saved.
use Rattle.std.proofs.Common.{◌≡◌, ◌≢◌, ℕ, ◌*◌, ◌/◌, ◌%◌, ◌^◌, ◌<◌, List, [], ◌∷◌, false, cond, eqb, Some, None, take, drop, set, get_or, length, map, arith, refl, sym, ap, ◌∙◌, ⊎_elim}
use Rattle.std.specs.Prelude.{Option}
use Rattle.std.proofs.lemmas.List.{ext_get_or, get_or-set_same, get_or-set_other, length-set}
use Rattle.std.proofs.lemmas.Bool.{cases_eq}
use Rattle.std.proofs.lemmas.Grind.{get_or-set_at}
use Rattle.axp_base.specs.Numbers.{add, sub}
use Rattle.axp_pte.specs.declared.faults.Mode.{Mode}
use Rattle.axp_pte.specs.declared.faults.Mode.TheVariants.{Kernel, User}
use Rattle.axp_regs.specs.declared.states.State.{State}
use Rattle.axp_regs.specs.States.{register, with_register, entry_of, with_pc, pc_of, ps_of, with_ps, ksp_of, usp_of, with_usp, kgp_of, with_locked}
use Rattle.axp_trap.specs.declared.causes.Cause.{Cause}
use Rattle.axp_trap.specs.declared.causes.Cause.TheVariants.{Int, Arith, Mm, If, Una, Sys}
use Rattle.axp_trap.specs.declared.registers.TheConstants.{A0, A1, A2, GP, SP}
use Rattle.axp_trap.specs.Entering.{entered, kept_in, status_after, with_arguments}
use Rattle.axp_trap.specs.Entries.{row_of}
use Rattle.axp_trap.specs.Frames.{frame_address, frame_of, kernel_stack_in}
use Rattle.axp_trap.specs.Keeping.{IsWhole}
use Rattle.axp_trap.specs.Status.{in_kernel_mode, mode_of, with_level}
use Rattle.axp_decode.specs.declared.names.PalOp.TheVariants.{RETSYS, RTI}
use Rattle.axp_pal.specs.Calls as calls
use Rattle.axp_pal.specs.Calls.{asks_of, row_in}
use Rattle.axp_pal.specs.Returns.{returned, system_returned, to_mode, with_return, with_saved_arguments}

-- a place that is put back, and each other one as it was
step : (k i : ℕ) (xs ys : List ℕ) → k < length ys → (i ≢ k → get_or ys i 0 ≡ get_or xs i 0) → get_or (set ys k (get_or xs k 0)) i 0 ≡ get_or xs i 0
step k i xs ys within other =
    ⊎_elim (λ same. get_or-set_at ys k i (get_or xs k 0) 0 same within ∙ ap (λ j. get_or xs j 0) (sym same))
    (λ differs. get_or-set_other ys k i (get_or xs k 0) 0 differs ∙ other differs)
    (cases_eq i k)

-- another list in which SP, GP and the arguments alone may differ
record Scattered (xs ys : List ℕ) : Type 0 where
  pub as_long : length ys ≡ length xs
  pub others : (i : ℕ) → i ≢ 16 → i ≢ 17 → i ≢ 18 → i ≢ 29 → i ≢ 30 → get_or ys i 0 ≡ get_or xs i 0

put_back : (xs ys : List ℕ) → length xs ≡ 32 → Scattered xs ys
    → set (set (set (set (set ys 30 (get_or xs 30 0)) 29 (get_or xs 29 0)) 16 (get_or xs 16 0)) 17 (get_or xs 17 0)) 18 (get_or xs 18 0) ≡ xs
put_back xs ys whole h =
    let one = set ys 30 (get_or xs 30 0) in
    let two = set one 29 (get_or xs 29 0) in
    let three = set two 16 (get_or xs 16 0) in
    let four = set three 17 (get_or xs 17 0) in
    let five = set four 18 (get_or xs 18 0) in
    let long : length ys ≡ 32 = h.as_long ∙ whole in
    let long_one : length one ≡ 32 = length-set ys 30 (get_or xs 30 0) ∙ long in
    let long_two : length two ≡ 32 = length-set one 29 (get_or xs 29 0) ∙ long_one in
    let long_three : length three ≡ 32 = length-set two 16 (get_or xs 16 0) ∙ long_two in
    let long_four : length four ≡ 32 = length-set three 17 (get_or xs 17 0) ∙ long_three in
    let long_five : length five ≡ 32 = length-set four 18 (get_or xs 18 0) ∙ long_four in
    ext_get_or 0 five xs (long_five ∙ sym whole) (λ i _.
    step 18 i xs four (omega (arith, long_four)) (λ a.
    step 17 i xs three (omega (arith, long_three)) (λ b.
    step 16 i xs two (omega (arith, long_two)) (λ c.
    step 29 i xs one (omega (arith, long_one)) (λ d.
    step 30 i xs ys (omega (arith, long)) (λ e. h.others i c b a d e))))))

-- the registers of an entry, and the user's stack pointer
abbrev argued : ℕ → Option ℕ → List ℕ → List ℕ
argued n None xs = xs
argued n (Some v) xs = set xs n v

abbrev registers_of : Cause → State → List ℕ
registers_of cause s = argued A2 (row_of cause).a2 (argued A1 (row_of cause).a1 (argued A0 (row_of cause).a0 (set (set s.registers SP (frame_address s)) GP (kgp_of s))))

abbrev usp_in : Mode → State → ℕ
usp_in User s = register s SP
usp_in Kernel s = usp_of s

argued_long : (n : ℕ) (o : Option ℕ) (xs : List ℕ) → length (argued n o xs) ≡ length xs
argued_long n None xs = refl
argued_long n (Some v) xs = length-set xs n v

argued_other : (n i : ℕ) (o : Option ℕ) (xs : List ℕ) → i ≢ n → get_or (argued n o xs) i 0 ≡ get_or xs i 0
argued_other n i None xs h = refl
argued_other n i (Some v) xs h = get_or-set_other xs n i v 0 h

scattered : (cause : Cause) (s : State) → Scattered s.registers (registers_of cause s)
scattered cause s =
    let r = row_of cause in
    let one = set s.registers SP (frame_address s) in
    let two = set one GP (kgp_of s) in
    let three = argued A0 r.a0 two in
    let four = argued A1 r.a1 three in
    record {
      as_long = argued_long A2 r.a2 four ∙ argued_long A1 r.a1 three ∙ argued_long A0 r.a0 two ∙ length-set one GP (kgp_of s) ∙ length-set s.registers SP (frame_address s);
      others = λ i c b a d e. argued_other A2 i r.a2 four a ∙ argued_other A1 i r.a1 three b ∙ argued_other A0 i r.a0 two c ∙ get_or-set_other one GP i (kgp_of s) 0 d ∙ get_or-set_other s.registers SP i (frame_address s) 0 e;
    }

stack_of : (cause : Cause) (s : State) → length s.registers ≡ 32 → get_or (registers_of cause s) 30 0 ≡ frame_address s
stack_of cause s whole =
    let r = row_of cause in
    let one = set s.registers SP (frame_address s) in
    let two = set one GP (kgp_of s) in
    let three = argued A0 r.a0 two in
    let four = argued A1 r.a1 three in
    argued_other A2 30 r.a2 four (λ h. cc) ∙ argued_other A1 30 r.a1 three (λ h. cc) ∙ argued_other A0 30 r.a0 two (λ h. cc)
    ∙ get_or-set_other one GP 30 (kgp_of s) 0 (λ h. cc) ∙ get_or-set_same s.registers 30 (frame_address s) 0 (omega (arith, whole))

-- an entry as one change of the state
abbrev entered_in : Mode → Cause → State → State
entered_in m cause s = with_locked (with_pc (with_arguments (row_of cause) (with_ps (with_register (with_register (kept_in m s) SP (frame_address s)) GP (kgp_of s)) (status_after (row_of cause).level (ps_of s)))) (entry_of s (row_of cause).number)) false

abbrev changed : Mode → Cause → State → State
changed m cause s = record s { registers = registers_of cause s; pc = entry_of s (row_of cause).number; ps = status_after (row_of cause).level (ps_of s); usp = usp_in m s; locked = false }

shape : (m : Mode) (cause : Cause) (s : State) → entered_in m cause s ≡ changed m cause s
unfolding row_of
shape User (Int code) s = refl
shape User (Arith mask) s = refl
shape User (Mm va fault way) s = refl
shape User (If code) s = refl
shape User (Una va opcode a) s = refl
shape User Sys s = refl
shape Kernel (Int code) s = refl
shape Kernel (Arith mask) s = refl
shape Kernel (Mm va fault way) s = refl
shape Kernel (If code) s = refl
shape Kernel (Una va opcode a) s = refl
shape Kernel Sys s = refl

-- the words that an entry saves
abbrev words : State → List ℕ
words s = ps_of s ∷ pc_of s ∷ register s GP ∷ register s A0 ∷ register s A1 ∷ register s A2 ∷ []

frame_words : (cause : Cause) (s : State) → cause ≢ Sys → map (λ ask. ask.value) (frame_of cause s) ≡ words s
unfolding row_of
frame_words (Int code) s h = refl
frame_words (Arith mask) s h = refl
frame_words (Mm va fault way) s h = refl
frame_words (If code) s h = refl
frame_words (Una va opcode a) s h = refl
frame_words Sys s h = absurd (h refl)

back_up : (x : ℕ) → x < 2 ^ 64 → add (sub x 48) 48 ≡ x
back_up x h = omega arith

aligned : (pc : ℕ) → pc % 4 ≡ 0 → pc / 4 * 4 ≡ pc
aligned pc h = omega arith

same : (s : State) (registers : List ℕ) (pc ps ksp usp : ℕ) → registers ≡ s.registers → pc ≡ pc_of s → ksp ≡ ksp_of s
    → record s { registers = registers; pc = pc; ps = ps; ksp = ksp; usp = usp; locked = false } ≡ with_locked (with_ps (with_usp s usp) ps) false
same s registers pc ps ksp usp a b d =
    ap (λ x. record s { registers = x; pc = pc; ps = ps; ksp = ksp; usp = usp; locked = false }) a
    ∙ ap (λ x. record s { pc = x; ps = ps; ksp = ksp; usp = usp; locked = false }) b
    ∙ ap (λ x. record s { ps = ps; ksp = x; usp = usp; locked = false }) d

-- rti in a state that an entry left, with the words that it saved, by the mode that they have
abbrev returned_in : Mode → State → State → State
returned_in m s t = with_saved_arguments (words s) (with_return (pc_of s) (register s GP) (to_mode m (ps_of s) t))

abbrev Returns : Mode → State → State → Type 0
Returns m s t = (cause : Cause) → returned_in m s (changed m cause s) ≡ t

user_back : (s : State) → length s.registers ≡ 32 → mode_of (ps_of s) ≡ User → pc_of s % 4 ≡ 0 → ksp_of s < 2 ^ 64 → Returns User s (with_locked (with_ps (with_usp s (register s SP)) 8) false)
user_back s whole mode even small cause =
    same s _ _ 8 _ (register s SP) (put_back s.registers (registers_of cause s) whole (scattered cause s)) (aligned (pc_of s) even)
    (ap (λ x. add x 48) (stack_of cause s whole ∙ ap (λ m. sub (kernel_stack_in m s) 48) mode) ∙ back_up (ksp_of s) small)

kernel_back : (s : State) → length s.registers ≡ 32 → mode_of (ps_of s) ≡ Kernel → pc_of s % 4 ≡ 0 → register s SP < 2 ^ 64 → Returns Kernel s (with_locked (with_ps s (ps_of s % 16)) false)
kernel_back s whole mode even small cause =
    let xs = s.registers in
    let ys = registers_of cause s in
    let up : add (get_or ys 30 0) 48 ≡ get_or xs 30 0 = ap (λ x. add x 48) (stack_of cause s whole ∙ ap (λ m. sub (kernel_stack_in m s) 48) mode) ∙ back_up (register s SP) small in
    same s _ _ (ps_of s % 16) (ksp_of s) (usp_of s)
    (ap (λ x. set (set (set (set (set ys 30 x) 29 (get_or xs 29 0)) 16 (get_or xs 16 0)) 17 (get_or xs 17 0)) 18 (get_or xs 18 0)) up ∙ put_back xs ys whole (scattered cause s))
    (aligned (pc_of s) even) refl

by_mode : (m : Mode) (cause : Cause) (s t : State) → cause ≢ Sys → mode_of (ps_of s) ≡ m → Returns m s t → returned (entered cause s) (map (λ ask. ask.value) (frame_of cause s)) ≡ t
by_mode m cause s t other mode back =
    ap (λ ws. returned (entered cause s) ws) (frame_words cause s other)
    ∙ ap (λ k. returned_in k s (entered_in k cause s)) mode
    ∙ ap (λ u. returned_in m s u) (shape m cause s)
    ∙ back cause

pub entry_returns_to_user : (cause : Cause) (s : State) → cause ≢ Sys → IsWhole s → mode_of (ps_of s) ≡ User → pc_of s % 4 ≡ 0 → ksp_of s < 2 ^ 64
    → returned (entered cause s) (map (λ ask. ask.value) (frame_of cause s)) ≡ with_locked (with_ps (with_usp s (register s SP)) 8) false
entry_returns_to_user cause s other whole mode even small = by_mode User cause s _ other mode (user_back s whole.registers mode even small)

pub entry_returns_to_kernel : (cause : Cause) (s : State) → cause ≢ Sys → IsWhole s → mode_of (ps_of s) ≡ Kernel → pc_of s % 4 ≡ 0 → register s SP < 2 ^ 64
    → returned (entered cause s) (map (λ ask. ask.value) (frame_of cause s)) ≡ with_locked (with_ps s (ps_of s % 16)) false
entry_returns_to_kernel cause s other whole mode even small = by_mode Kernel cause s _ other mode (kernel_back s whole.registers mode even small)

call_back : (s : State) → length s.registers ≡ 32 → mode_of (ps_of s) ≡ User → pc_of s % 4 ≡ 0 → ksp_of s < 2 ^ 64
    → system_returned (changed User Sys s) (pc_of s ∷ register s GP ∷ []) ≡ with_locked (with_ps (with_usp s (register s SP)) 8) false
unfolding row_of
call_back s whole mode even small =
    let xs = s.registers in
    let one = set xs 30 (frame_address s) in
    let two = set one 29 (kgp_of s) in
    let three = set two 30 (get_or xs 30 0) in
    let four = set three 29 (get_or xs 29 0) in
    let long_one : length one ≡ 32 = length-set xs 30 (frame_address s) ∙ whole in
    let long_two : length two ≡ 32 = length-set one 29 (kgp_of s) ∙ long_one in
    let long_three : length three ≡ 32 = length-set two 30 (get_or xs 30 0) ∙ long_two in
    let long_four : length four ≡ 32 = length-set three 29 (get_or xs 29 0) ∙ long_three in
    let back : four ≡ xs =
    ext_get_or 0 four xs (long_four ∙ sym whole) (λ i _.
    step 29 i xs three (omega (arith, long_three)) (λ d.
    step 30 i xs two (omega (arith, long_two)) (λ e.
    get_or-set_other one 29 i (kgp_of s) 0 d ∙ get_or-set_other xs 30 i (frame_address s) 0 e))) in
    same s four _ 8 _ (register s SP) back (aligned (pc_of s) even)
    (ap (λ x. add x 48) (stack_of Sys s whole ∙ ap (λ m. sub (kernel_stack_in m s) 48) mode) ∙ back_up (ksp_of s) small)

pub call_returns : (s : State) → IsWhole s → mode_of (ps_of s) ≡ User → pc_of s % 4 ≡ 0 → ksp_of s < 2 ^ 64
    → system_returned (entered Sys s) (drop 1 (map (λ ask. ask.value) (frame_of Sys s))) ≡ with_locked (with_ps (with_usp s (register s SP)) 8) false
unfolding row_of
call_returns s whole mode even small =
    ap (λ m. system_returned (entered_in m Sys s) (pc_of s ∷ register s GP ∷ [])) mode
    ∙ ap (λ t. system_returned t (pc_of s ∷ register s GP ∷ [])) (shape User Sys s)
    ∙ call_back s whole.registers mode even small

-- where a return reads what an entry saved
kernel_after : (o : Option ℕ) (ps : ℕ) → mode_of (status_after o ps) ≡ Kernel
kernel_after None ps =
    let off : in_kernel_mode ps / 2 ^ 3 % 2 ≡ 0 = omega arith in
    ap (λ x. cond (eqb x 1) User Kernel) off
kernel_after (Some level) ps =
    let off : with_level (in_kernel_mode ps) level / 2 ^ 3 % 2 ≡ 0 = omega arith in
    ap (λ x. cond (eqb x 1) User Kernel) off

entered_mode : (cause : Cause) (s : State) → mode_of (ps_of (entered cause s)) ≡ Kernel
entered_mode cause s = ap (λ t. mode_of (ps_of t)) (shape (mode_of (ps_of s)) cause s) ∙ kernel_after (row_of cause).level (ps_of s)

abbrev six_places : ℕ → List ℕ
six_places x = add x 0 ∷ add x 8 ∷ add x 16 ∷ add x 24 ∷ add x 32 ∷ add x 40 ∷ []

saved_at_places : (cause : Cause) (s : State) → cause ≢ Sys → map (λ ask. ask.address) (frame_of cause s) ≡ six_places (frame_address s)
unfolding row_of
saved_at_places (Int code) s h = refl
saved_at_places (Arith mask) s h = refl
saved_at_places (Mm va fault way) s h = refl
saved_at_places (If code) s h = refl
saved_at_places (Una va opcode a) s h = refl
saved_at_places Sys s h = absurd (h refl)

read_at_places : (t : State) (cpus : ℕ) → map (λ ask. ask.address) (row_in Kernel RTI t cpus).asks ≡ six_places (register t SP)
unfolding calls.row_of
read_at_places t cpus = refl

call_read_at_places : (t : State) (cpus : ℕ) → map (λ ask. ask.address) (row_in Kernel RETSYS t cpus).asks ≡ drop 1 (take 3 (six_places (register t SP)))
unfolding calls.row_of
call_read_at_places t cpus = refl

stack_after : (cause : Cause) (s : State) → length s.registers ≡ 32 → register (entered cause s) SP ≡ frame_address s
stack_after cause s whole = ap (λ t. register t SP) (shape (mode_of (ps_of s)) cause s) ∙ stack_of cause s whole

pub frame_is_read : (cause : Cause) (s : State) (cpus : ℕ) → cause ≢ Sys → IsWhole s → map (λ ask. ask.address) (asks_of RTI (entered cause s) cpus) ≡ map (λ ask. ask.address) (frame_of cause s)
frame_is_read cause s cpus other whole =
    ap (λ m. map (λ ask. ask.address) (row_in m RTI (entered cause s) cpus).asks) (entered_mode cause s)
    ∙ read_at_places (entered cause s) cpus
    ∙ ap six_places (stack_after cause s whole.registers)
    ∙ sym (saved_at_places cause s other)

pub call_frame_is_read : (s : State) (cpus : ℕ) → IsWhole s → map (λ ask. ask.address) (asks_of RETSYS (entered Sys s) cpus) ≡ drop 1 (map (λ ask. ask.address) (frame_of Sys s))
unfolding row_of
call_frame_is_read s cpus whole =
    ap (λ m. map (λ ask. ask.address) (row_in m RETSYS (entered Sys s) cpus).asks) (entered_mode Sys s)
    ∙ call_read_at_places (entered Sys s) cpus
    ∙ ap (λ x. drop 1 (take 3 (six_places x))) (stack_after Sys s whole.registers)
