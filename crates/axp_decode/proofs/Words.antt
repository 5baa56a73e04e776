-- A word stands for its instruction, and for no other.
use Rattle.std.proofs.Common.{◌≡◌, ℕ, Bool, true, false, cond, Option, Some, None, refl, sym, ap, ◌∙◌}
use Rattle.std.specs.Prelude.{◌==◌}
use Rattle.std.proofs.lemmas.Bool.{eqb-true, eqb-false}
use Rattle.axp_decode.specs.Table.{memory_of, branch_of, misc_of, pal_of, operate_opcode, operate_of}
use Rattle.axp_decode.specs.Format.{instr_of, named, opcode_of, function_of, function_code_of, pal_function_of, is_floating}
use Rattle.axp_decode.specs.Words.{StandsFor, IsInNoTable}
use Rattle.axp_decode.specs.declared.numbers.TheConstants.{JUMP_OPCODE, MISC_OPCODE, PAL_OPCODE}
use Rattle.axp_decode.specs.declared.instructions.Instr.{Instr}
use Rattle.axp_decode.specs.declared.instructions.Instr.TheVariants.{Memory, Branch, Jump, Operate, Misc, Pal, Floating, Reserved}
use Rattle.axp_decode.proofs.Tables.{memory_found, branch_found, misc_found, pal_found, operate_found, memory_row, branch_row, operate_row, misc_row, pal_row, jump_opcode, misc_opcode, pal_opcode, memory_plain, branch_plain, operate_plain}

-- ---- a word stands for its instruction

-- whichever way a search and a test go
named-either : {A : Type 0} (P : Instr → Type 0) (o : Option A) (f : A → Instr) (i : Instr) → ((x : A) → o ≡ Some x → P (f x)) → (o ≡ None → P i) → P (named o f i)
named-either P None f i some none = none refl
named-either P (Some x) f i some none = some x refl

cond-either : (P : Instr → Type 0) (b : Bool) (i j : Instr) → (b ≡ true → P i) → (b ≡ false → P j) → P (cond b i j)
cond-either P true i j held failed = held refl
cond-either P false i j held failed = failed refl

-- where all searches fail
in_no_table : (w : ℕ) → memory_of (opcode_of w) ≡ None → branch_of (opcode_of w) ≡ None → operate_of (opcode_of w) (function_of w) ≡ None → (opcode_of w == JUMP_OPCODE) ≡ false → (opcode_of w ≡ MISC_OPCODE → misc_of (function_code_of w) ≡ None) → (opcode_of w ≡ PAL_OPCODE → pal_of (pal_function_of w) ≡ None) → is_floating (opcode_of w) ≡ false → IsInNoTable w
in_no_table w memory branch operate jump misc pal floating = record {
  memory = λ op e. let row = (memory_row op).0 in cc;
  branch = λ op e. let row = (branch_row op).1 in cc;
  operate = λ op e n. let row = (operate_row op).2 in cc;
  jump = eqb-false _ _ jump;
  misc = λ op e n. let row = (misc_row op).0 in let none = misc e in cc;
  pal = λ op e n. let row = (pal_row op).0 in let none = pal e in cc;
  floating = floating;
}

pub stands_for_instr_of : (w : ℕ) → StandsFor w (instr_of w)
unfolding instr_of
stands_for_instr_of w =
    named-either (StandsFor w) (memory_of (opcode_of w)) _ _ (λ op e. (sym (memory_found _ op e), refl, refl, refl)) (λ memory.
    named-either (StandsFor w) (branch_of (opcode_of w)) _ _ (λ op e. (sym (branch_found _ op e), refl, refl)) (λ branch.
    named-either (StandsFor w) (operate_of (opcode_of w) (function_of w)) _ _
    (λ op e. let n = operate_found _ _ op e in (sym n.0, sym n.1, refl, refl, refl)) (λ operate.
    cond-either (StandsFor w) (opcode_of w == JUMP_OPCODE) _ _ (λ e. (eqb-true _ _ e, refl, refl, refl, refl)) (λ jump.
    cond-either (StandsFor w) (opcode_of w == MISC_OPCODE) _ _
    (λ e. let n = eqb-true _ _ e in
    named-either (StandsFor w) (misc_of (function_code_of w)) _ _ (λ op found. (n, sym (misc_found _ op found), refl, refl))
    (λ none. (in_no_table w memory branch operate jump (λ _. none) (λ zero. cc) (ap is_floating n ∙ (misc_opcode 0).3), refl))) (λ misc.
    cond-either (StandsFor w) (opcode_of w == PAL_OPCODE) _ _
    (λ e. let n = eqb-true _ _ e in
    named-either (StandsFor w) (pal_of (pal_function_of w)) _ _ (λ op found. (n, sym (pal_found _ op found)))
    (λ none. (in_no_table w memory branch operate jump (λ m. absurd (eqb-false _ _ misc m)) (λ _. none) (ap is_floating n ∙ (pal_opcode 0).3), refl))) (λ pal.
    cond-either (StandsFor w) (is_floating (opcode_of w)) _ _ (λ e. (e, refl)) (λ plain.
    (in_no_table w memory branch operate jump (λ m. absurd (eqb-false _ _ misc m)) (λ p. absurd (eqb-false _ _ pal p)) plain, refl))))))))

-- ---- it stands for no other

named-Some : {A : Type 0} (o : Option A) (x : A) (f : A → Instr) (i : Instr) → o ≡ Some x → named o f i ≡ f x
named-Some o x f i e = rw e refl

named-None : {A : Type 0} (o : Option A) (f : A → Instr) (i : Instr) → o ≡ None → named o f i ≡ i
named-None o f i e = rw e refl

cond-true : (b : Bool) (i j : Instr) → b ≡ true → cond b i j ≡ i
cond-true b i j e = rw e refl

cond-false : (b : Bool) (i j : Instr) → b ≡ false → cond b i j ≡ j
cond-false b i j e = rw e refl

-- a search that finds nothing, and a test that fails or whose branch is the same
named-skip : {A : Type 0} (o : Option A) (f : A → Instr) (i j : Instr) → ((x : A) → o ≡ Some x → ⊥) → i ≡ j → named o f i ≡ j
named-skip None f i j none e = e
named-skip (Some x) f i j none e = absurd (none x refl)

cond-skip : (b : Bool) (i j k : Instr) → (b ≡ true → i ≡ k) → j ≡ k → cond b i j ≡ k
cond-skip true i j k held failed = held refl
cond-skip false i j k held failed = failed

plain : (n m : ℕ) → is_floating n ≡ true → m ≡ n → is_floating m ≡ false → ⊥
plain n m held e not_held = cc

floating_stands : (w : ℕ) → is_floating (opcode_of w) ≡ true → instr_of w ≡ Floating w
unfolding instr_of
floating_stands w held =
    named-skip (memory_of (opcode_of w)) _ _ _ (λ op e. plain _ _ held (memory_found _ op e) (memory_plain op)) (
    named-skip (branch_of (opcode_of w)) _ _ _ (λ op e. plain _ _ held (branch_found _ op e) (branch_plain op)) (
    named-skip (operate_of (opcode_of w) (function_of w)) _ _ _ (λ op e. plain _ _ held (operate_found _ _ op e).0 (operate_plain op)) (
    cond-skip (opcode_of w == JUMP_OPCODE) _ _ _ (λ e. absurd (plain _ _ held (sym (eqb-true _ _ e)) (jump_opcode 0).3)) (
    cond-skip (opcode_of w == MISC_OPCODE) _ _ _ (λ e. absurd (plain _ _ held (sym (eqb-true _ _ e)) (misc_opcode 0).3)) (
    cond-skip (opcode_of w == PAL_OPCODE) _ _ _ (λ e. absurd (plain _ _ held (sym (eqb-true _ _ e)) (pal_opcode 0).3)) (
    cond-true (is_floating (opcode_of w)) _ _ held))))))

reserved_stands : (w : ℕ) → IsInNoTable w → instr_of w ≡ Reserved w
unfolding instr_of
reserved_stands w none =
    named-skip (memory_of (opcode_of w)) _ _ _ (λ op e. none.memory op (sym (memory_found _ op e))) (
    named-skip (branch_of (opcode_of w)) _ _ _ (λ op e. none.branch op (sym (branch_found _ op e))) (
    named-skip (operate_of (opcode_of w) (function_of w)) _ _ _ (λ op e. let n = operate_found _ _ op e in none.operate op (sym n.0) (sym n.1)) (
    cond-skip (opcode_of w == JUMP_OPCODE) _ _ _ (λ e. absurd (none.jump (eqb-true _ _ e))) (
    cond-skip (opcode_of w == MISC_OPCODE) _ _ _
    (λ e. named-skip (misc_of (function_code_of w)) _ _ _ (λ op found. none.misc op (eqb-true _ _ e) (sym (misc_found _ op found))) refl) (
    cond-skip (opcode_of w == PAL_OPCODE) _ _ _
    (λ e. named-skip (pal_of (pal_function_of w)) _ _ _ (λ op found. none.pal op (eqb-true _ _ e) (sym (pal_found _ op found))) refl) (
    cond-false (is_floating (opcode_of w)) _ _ none.floating))))))

pub instr_of-stands_for : (w : ℕ) (i : Instr) → StandsFor w i → instr_of w ≡ i
unfolding instr_of
instr_of-stands_for w (Memory op a b disp) h =
    named-Some (memory_of (opcode_of w)) op _ _ (ap memory_of h.0 ∙ (memory_row op).0) ∙ (rw (h.1, h.2, h.3) refl)
instr_of-stands_for w (Branch op a disp) h =
    let row = branch_row op in
    named-None (memory_of (opcode_of w)) _ _ (ap memory_of h.0 ∙ row.0)
    ∙ named-Some (branch_of (opcode_of w)) op _ _ (ap branch_of h.0 ∙ row.1)
    ∙ (rw (h.1, h.2) refl)
instr_of-stands_for w (Operate op a b c) h =
    let row = operate_row op in
    named-None (memory_of (opcode_of w)) _ _ (ap memory_of h.0 ∙ row.0)
    ∙ named-None (branch_of (opcode_of w)) _ _ (ap branch_of h.0 ∙ row.1)
    ∙ named-Some (operate_of (opcode_of w) (function_of w)) op _ _ (ap (λ m. operate_of m (function_of w)) h.0 ∙ ap (λ n. operate_of (operate_opcode op) n) h.1 ∙ row.2)
    ∙ (rw (h.2, h.3, h.4) refl)
instr_of-stands_for w (Jump kind a b hint) h =
    let row = jump_opcode (function_of w) in
    named-None (memory_of (opcode_of w)) _ _ (ap memory_of h.0 ∙ row.0)
    ∙ named-None (branch_of (opcode_of w)) _ _ (ap branch_of h.0 ∙ row.1)
    ∙ named-None (operate_of (opcode_of w) (function_of w)) _ _ (ap (λ m. operate_of m (function_of w)) h.0 ∙ row.2)
    ∙ cond-true (opcode_of w == JUMP_OPCODE) _ _ (ap (λ m. m == JUMP_OPCODE) h.0)
    ∙ (rw (h.1, h.2, h.3, h.4) refl)
instr_of-stands_for w (Misc op a b) h =
    let row = misc_opcode (function_of w) in
    named-None (memory_of (opcode_of w)) _ _ (ap memory_of h.0 ∙ row.0)
    ∙ named-None (branch_of (opcode_of w)) _ _ (ap branch_of h.0 ∙ row.1)
    ∙ named-None (operate_of (opcode_of w) (function_of w)) _ _ (ap (λ m. operate_of m (function_of w)) h.0 ∙ row.2)
    ∙ cond-false (opcode_of w == JUMP_OPCODE) _ _ (ap (λ m. m == JUMP_OPCODE) h.0)
    ∙ cond-true (opcode_of w == MISC_OPCODE) _ _ (ap (λ m. m == MISC_OPCODE) h.0)
    ∙ named-Some (misc_of (function_code_of w)) op _ _ (ap misc_of h.1 ∙ (misc_row op).0)
    ∙ (rw (h.2, h.3) refl)
instr_of-stands_for w (Pal op) h =
    let row = pal_opcode (function_of w) in
    named-None (memory_of (opcode_of w)) _ _ (ap memory_of h.0 ∙ row.0)
    ∙ named-None (branch_of (opcode_of w)) _ _ (ap branch_of h.0 ∙ row.1)
    ∙ named-None (operate_of (opcode_of w) (function_of w)) _ _ (ap (λ m. operate_of m (function_of w)) h.0 ∙ row.2)
    ∙ cond-false (opcode_of w == JUMP_OPCODE) _ _ (ap (λ m. m == JUMP_OPCODE) h.0)
    ∙ cond-false (opcode_of w == MISC_OPCODE) _ _ (ap (λ m. m == MISC_OPCODE) h.0)
    ∙ cond-true (opcode_of w == PAL_OPCODE) _ _ (ap (λ m. m == PAL_OPCODE) h.0)
    ∙ named-Some (pal_of (pal_function_of w)) op _ _ (ap pal_of h.1 ∙ (pal_row op).0)
instr_of-stands_for w (Floating word) h = floating_stands w h.0 ∙ ap Floating h.1
instr_of-stands_for w (Reserved word) h = reserved_stands w h.0 ∙ ap Reserved h.1

-- the same as a fact about the word's instruction
pub stands_for : (w : ℕ) (i : Instr) → instr_of w ≡ i → StandsFor w i
stands_for w i e = rw e at (stands_for_instr_of w)
