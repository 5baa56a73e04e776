-- The tables: a name that is found has the numbers asked for, each name is found by its own, and no
-- opcode belongs to two formats.
use Rattle.std.proofs.Common.{◌≡◌, ℕ, ◌^◌, ◌<◌, Option, Some, None, List, [], ◌∷◌, refl, rules, cond, true, false, Bool}
use Rattle.std.specs.Prelude.{find, ◌==◌, ◌&&◌}
use Rattle.std.proofs.lemmas.Bool.{eqb-true}
use Rattle.axp_decode.specs.Table.{memory_number, memory_of, all_memory, branch_number, branch_of, all_branch, misc_number, misc_of, all_misc, pal_number, pal_of, all_pal, operate_opcode, operate_function, operate_of, all_operate}
use Rattle.axp_decode.specs.Format.{is_floating}
use Rattle.axp_decode.specs.declared.numbers.TheConstants.{JUMP_OPCODE, MISC_OPCODE, PAL_OPCODE}
use Rattle.axp_decode.specs.declared.names.MemOp.{MemOp}
use Rattle.axp_decode.specs.declared.names.BranchOp.{BranchOp}
use Rattle.axp_decode.specs.declared.names.MiscOp.{MiscOp}
use Rattle.axp_decode.specs.declared.names.PalOp.{PalOp}
use Rattle.axp_decode.specs.declared.names.Op.{Op}

-- ---- a name that is found has the numbers asked for

found_at : {A : Type 0} (p : A → Bool) (y x : A) (rest : Option A) (b : Bool) → p y ≡ b → cond b (Some y) rest ≡ Some x → (rest ≡ Some x → p x ≡ true) → p x ≡ true
found_at p y x rest true e h k = cc
found_at p y x rest false e h k = k h

found : {A : Type 0} (p : A → Bool) (xs : List A) (x : A) → find p xs ≡ Some x → p x ≡ true
found p [] x h = cc
found p (y ∷ ys) x h = found_at p y x (find p ys) (p y) refl h (found p ys x)

pub memory_found : (n : ℕ) (op : MemOp) → memory_of n ≡ Some op → memory_number op ≡ n
unfolding memory_of
memory_found n op h = eqb-true _ _ (found (λ op. memory_number op == n) all_memory op h)

pub branch_found : (n : ℕ) (op : BranchOp) → branch_of n ≡ Some op → branch_number op ≡ n
unfolding branch_of
branch_found n op h = eqb-true _ _ (found (λ op. branch_number op == n) all_branch op h)

pub misc_found : (n : ℕ) (op : MiscOp) → misc_of n ≡ Some op → misc_number op ≡ n
unfolding misc_of
misc_found n op h = eqb-true _ _ (found (λ op. misc_number op == n) all_misc op h)

pub pal_found : (n : ℕ) (op : PalOp) → pal_of n ≡ Some op → pal_number op ≡ n
unfolding pal_of
pal_found n op h = eqb-true _ _ (found (λ op. pal_number op == n) all_pal op h)

both : (a b : Bool) → (a && b) ≡ true → (a ≡ true) × (b ≡ true)
both true b h = (refl, h)
both false b h = cc

pub operate_found : (m n : ℕ) (op : Op) → operate_of m n ≡ Some op → (operate_opcode op ≡ m) × (operate_function op ≡ n)
unfolding operate_of
operate_found m n op h =
    let t = both _ _ (found (λ op. (operate_opcode op == m) && (operate_function op == n)) all_operate op h) in
    (eqb-true _ _ t.0, eqb-true _ _ t.1)

-- ---- each name is found by its own numbers, and its opcode is in no table before

pub memory_row : (op : MemOp) → (memory_of (memory_number op) ≡ Some op) × (memory_number op < 64)
unfolding memory_of
memory_row op = (search rules, search rules)

pub branch_row : (op : BranchOp) → (memory_of (branch_number op) ≡ None) × (branch_of (branch_number op) ≡ Some op) × (branch_number op < 64)
unfolding memory_of branch_of
branch_row op = (search rules, search rules, search rules)

pub operate_row : (op : Op) → (memory_of (operate_opcode op) ≡ None) × (branch_of (operate_opcode op) ≡ None) × (operate_of (operate_opcode op) (operate_function op) ≡ Some op) × (operate_opcode op < 64) × (operate_function op < 128)
unfolding memory_of branch_of operate_of
operate_row op = (search rules, search rules, search rules, search rules, search rules)

pub misc_row : (op : MiscOp) → (misc_of (misc_number op) ≡ Some op) × (misc_number op < 2 ^ 16)
unfolding misc_of
misc_row op = (search rules, search rules)

pub pal_row : (op : PalOp) → (pal_of (pal_number op) ≡ Some op) × (pal_number op < 2 ^ 26)
unfolding pal_of
pal_row op = (search rules, search rules)

-- ---- the opcodes of a whole format are in none of the three tables

pub jump_opcode : (n : ℕ) → (memory_of JUMP_OPCODE ≡ None) × (branch_of JUMP_OPCODE ≡ None) × (operate_of JUMP_OPCODE n ≡ None) × (is_floating JUMP_OPCODE ≡ false)
unfolding memory_of branch_of operate_of is_floating
jump_opcode n = (refl, refl, refl, refl)

pub misc_opcode : (n : ℕ) → (memory_of MISC_OPCODE ≡ None) × (branch_of MISC_OPCODE ≡ None) × (operate_of MISC_OPCODE n ≡ None) × (is_floating MISC_OPCODE ≡ false)
unfolding memory_of branch_of operate_of is_floating
misc_opcode n = (refl, refl, refl, refl)

pub pal_opcode : (n : ℕ) → (memory_of PAL_OPCODE ≡ None) × (branch_of PAL_OPCODE ≡ None) × (operate_of PAL_OPCODE n ≡ None) × (is_floating PAL_OPCODE ≡ false)
unfolding memory_of branch_of operate_of is_floating
pal_opcode n = (refl, refl, refl, refl)

-- ---- no opcode of a table is a floating one

pub memory_plain : (op : MemOp) → is_floating (memory_number op) ≡ false
unfolding is_floating
memory_plain op = search rules

pub branch_plain : (op : BranchOp) → is_floating (branch_number op) ≡ false
unfolding is_floating
branch_plain op = search rules

pub operate_plain : (op : Op) → is_floating (operate_opcode op) ≡ false
unfolding is_floating
operate_plain op = search rules
