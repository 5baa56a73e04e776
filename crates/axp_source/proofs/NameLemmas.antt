-- A name has no blank in it, stands in one table, and is found there.
use Rattle.std.proofs.Common.{◌≡◌, ◌≢◌, ℕ, zero, suc, ◌<◌, ◌≤◌, ◌==◌, Bool, true, false, if◌then◌else◌, nat_lt, List, [], ◌∷◌, ◌++◌, codes, Option, Some, None, IfSome, refl, rules, cond, find, arith, ne_eqb}
use Rattle.std.specs.List.{All, list_all}
use Rattle.std.specs.Str.{bytes_eq}
use Rattle.std.proofs.lemmas.Bool.{and_parts, ltb-true}
use Rattle.std.proofs.lemmas.List.Elements.{All-cons, All-head, All-nil}
use Rattle.std.proofs.lemmas.Slice.Eq.{bytes_eq-Decides}
use Rattle.axp_trace.specs.Fields.{cut_at}
use Rattle.axp_decode.specs.Table.{all_branch, all_pal}
use Rattle.axp_decode.specs.declared.names.MemOp.{MemOp}
use Rattle.axp_decode.specs.declared.names.BranchOp.{BranchOp}
use Rattle.axp_decode.specs.declared.names.MiscOp.{MiscOp}
use Rattle.axp_decode.specs.declared.names.PalOp.{PalOp}
use Rattle.axp_decode.specs.declared.names.Op.{Op}
use Rattle.axp_source.specs.Names.{memory_name, memory_named, branch_name, branch_named, operate_name, operate_named, misc_name, misc_named, pal_name, pal_named, jump_name, jump_named}
use Rattle.axp_source.specs.Fields.{begins}

-- ---- the bytes of names

-- each byte is above another one: a test, so that it computes on what is written out
abbrev pub is_above : ℕ → List ℕ → Bool
is_above low xs = list_all (nat_lt low) xs

pub other_above : (c low : ℕ) (xs : List ℕ) → c ≤ low → is_above low xs ≡ true → All (λ b. b ≢ c) xs
other_above c low [] below h = All-nil (λ b. b ≢ c)
other_above c low (x ∷ xs) below h =
    let parts = and_parts (nat_lt low x) (is_above low xs) h in
    let high = ltb-true low x parts.0 in
    All-cons (λ b. b ≢ c) x xs (λ e. absurd (omega arith)) (other_above c low xs below parts.1)

-- bytes of which none is c, and one more, do not begin with c
pub begins_other : (c d : ℕ) (front back : List ℕ) → (d == c) ≡ false → All (λ b. b ≢ c) front → begins c (front ++ d ∷ back) ≡ false
begins_other c d [] back other free = other
begins_other c d (b ∷ bs) back other free = ne_eqb b c (All-head (λ x. x ≢ c) b bs free)

-- each byte of a name is above a full stop, and so above a blank and a line feed
pub high_memory : (op : MemOp) → is_above 46 (memory_name op) ≡ true
high_memory op = search rules

pub high_branch : (op : BranchOp) → is_above 46 (branch_name op) ≡ true
high_branch op = search rules

pub high_operate : (op : Op) → is_above 46 (operate_name op) ≡ true
high_operate op = search rules

pub high_misc : (op : MiscOp) → is_above 46 (misc_name op) ≡ true
high_misc op = search rules

pub high_pal : (op : PalOp) → is_above 46 (pal_name op) ≡ true
high_pal op = search rules

pub high_jump : (kind : ℕ) → is_above 46 (jump_name kind) ≡ true
high_jump kind = by (kind == 0) (kind == 1) (kind == 2)
  where
    by : (a b c : Bool) → is_above 46 (if a then codes "JMP" else if b then codes "JSR" else if c then codes "RET" else codes "JSR_COROUTINE") ≡ true
    by true b c = refl
    by false true c = refl
    by false false true = refl
    by false false false = refl

-- ---- each name is found in its table, and in none that is searched before

pub branch_found : (op : BranchOp) → branch_named (branch_name op) ≡ Some op
unfolding branch_named
branch_found op = search rules

pub memory_found : (op : MemOp) → (branch_named (memory_name op) ≡ None) × (memory_named (memory_name op) ≡ Some op)
unfolding branch_named memory_named
memory_found op = (search rules, search rules)

pub misc_found : (op : MiscOp) → (branch_named (misc_name op) ≡ None) × (memory_named (misc_name op) ≡ None) × (misc_named (misc_name op) ≡ Some op)
unfolding branch_named memory_named misc_named
misc_found op = (search rules, search rules, search rules)

pub operate_found : (op : Op) → (branch_named (operate_name op) ≡ None) × (memory_named (operate_name op) ≡ None) × (misc_named (operate_name op) ≡ None) × (operate_named (operate_name op) ≡ Some op)
unfolding branch_named memory_named misc_named operate_named
operate_found op = (search rules, search rules, search rules, search rules)

-- a jump's name is found, and in no other table
pub record IsJump (kind : ℕ) : Type 0 where
  pub branch : branch_named (jump_name kind) ≡ None
  pub memory : memory_named (jump_name kind) ≡ None
  pub misc : misc_named (jump_name kind) ≡ None
  pub operate : operate_named (jump_name kind) ≡ None
  pub jump : jump_named (jump_name kind) ≡ Some kind

pub jump_found : (kind : ℕ) → kind < 4 → IsJump kind
unfolding branch_named memory_named misc_named operate_named jump_named
jump_found zero small = record { branch = refl; memory = refl; misc = refl; operate = refl; jump = refl }
jump_found (suc zero) small = record { branch = refl; memory = refl; misc = refl; operate = refl; jump = refl }
jump_found (suc (suc zero)) small = record { branch = refl; memory = refl; misc = refl; operate = refl; jump = refl }
jump_found (suc (suc (suc zero))) small = record { branch = refl; memory = refl; misc = refl; operate = refl; jump = refl }
jump_found (suc (suc (suc (suc k)))) small = absurd (omega arith)

-- a call of PALcode is one word without a colon
pub pal_found : (op : PalOp) → (begins 46 (pal_name op) ≡ false) × (cut_at 32 (pal_name op) ≡ None) × (cut_at 58 (pal_name op) ≡ None) × (pal_named (pal_name op) ≡ Some op)
unfolding pal_named
pal_found op = (search rules, search rules, search rules, search rules)

-- ---- a name that is found is the one that was asked for

find_passes : {A : Type 0} (p : A → Bool) (xs : List A) → IfSome (find p xs) (λ x. p x ≡ true)
find_passes p [] = tt
find_passes p (y ∷ ys) = by (p y) refl (find_passes p ys)
  where
    by : (t : Bool) → p y ≡ t → IfSome (find p ys) (λ x. p x ≡ true) → IfSome (cond t (Some y) (find p ys)) (λ x. p x ≡ true)
    by true e h = e
    by false e h = h

same_name : {A : Type 0} (name : List ℕ) (named : A → List ℕ) (o : Option A) → IfSome o (λ op. bytes_eq name (named op) ≡ true) → IfSome o (λ op. name ≡ named op)
same_name name named None h = tt
same_name name named (Some op) h = (bytes_eq-Decides name (named op)).0 h

pub branch_is : (name : List ℕ) → IfSome (branch_named name) (λ op. name ≡ branch_name op)
unfolding branch_named
branch_is name = same_name name branch_name _ (find_passes (λ op. bytes_eq name (branch_name op)) all_branch)

pub pal_is : (name : List ℕ) → IfSome (pal_named name) (λ op. name ≡ pal_name op)
unfolding pal_named
pal_is name = same_name name pal_name _ (find_passes (λ op. bytes_eq name (pal_name op)) all_pal)

-- the kind of a jump that is found
pub jump_is : (name : List ℕ) → IfSome (jump_named name) (λ kind. kind < 4)
unfolding jump_named
jump_is name = by (bytes_eq name (jump_name 0)) (bytes_eq name (jump_name 1)) (bytes_eq name (jump_name 2)) (bytes_eq name (jump_name 3))
  where
    by : (a b c d : Bool) → IfSome (cond a (Some 0) (cond b (Some 1) (cond c (Some 2) (cond d (Some 3) None)))) (λ kind. kind < 4)
    by true b c d = omega arith
    by false true c d = omega arith
    by false false true d = omega arith
    by false false false true = omega arith
    by false false false false = tt
