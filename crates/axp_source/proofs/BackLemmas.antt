-- What is written is read: the line of a statement means the statement.
use Rattle.std.proofs.Common.{◌≡◌, ◌≢◌, ℕ, ◌*◌, ◌%◌, ◌^◌, ◌<◌, true, if◌then◌else◌, List, [], ◌∷◌, ◌++◌, codes, decimal, Some, None, refl, sym, ap, ◌∙◌, arith}
use Rattle.std.specs.Str.{bytes_eq}
use Rattle.std.specs.List.{All}
use Rattle.std.proofs.Math.Nat.{mod-eq_of_lt}
use Rattle.std.proofs.lemmas.List.Elements.{All-append, All-cons, All-nil}
use Rattle.axp_trace.specs.Digits.{hex}
use Rattle.axp_trace.specs.Fields.{cut_at}
use Rattle.axp_trace.proofs.FileLemmas.{cut_at-begin, cut_by_parts}
use Rattle.axp_trace.proofs.ReadBackLemmas.{same_bytes}
use Rattle.axp_decode.specs.Format.{FieldsFit}
use Rattle.axp_decode.specs.declared.instructions.Instr.{Instr}
use Rattle.axp_decode.specs.declared.instructions.Instr.TheVariants as instr
use Rattle.axp_decode.specs.declared.instructions.Operand.{Operand}
use Rattle.axp_decode.specs.declared.names.MemOp.{MemOp}
use Rattle.axp_decode.specs.declared.names.BranchOp.{BranchOp}
use Rattle.axp_decode.specs.declared.names.MiscOp.{MiscOp}
use Rattle.axp_decode.specs.declared.names.PalOp.{PalOp}
use Rattle.axp_decode.specs.declared.names.Op.{Op}
use Rattle.axp_source.specs.Names.{memory_name, memory_named, branch_name, branch_named, operate_name, misc_name, pal_name, jump_name}
use Rattle.axp_source.specs.Items.{Item, Directs, Label, Instruction, BranchTo, is_label, is_written, DirectiveFits, Fits}
use Rattle.axp_source.specs.Fields.{number_in, register_in, signed_in}
use Rattle.axp_source.specs.Texts.{register_text, signed_text, operand_text, instr_text, directive_text, branch_text, label_text, item_text}
use Rattle.axp_source.specs.Reading.{directive_if, directive_by, instr_if, memory_by, jump_by, three_by, three_in, misc_by, named_by, branch_to, branch_in, operands_by, operands_in, pal_by, word_by, plain_by, item_of}
use Rattle.axp_source.specs.declared.numbers.TheConstants.{MEMORY_HALF, BRANCH_HALF}
use Rattle.axp_source.specs.declared.statements.Directive.{Directive}
use Rattle.axp_source.specs.declared.statements.Directive.TheVariants as directive
use Rattle.axp_source.proofs.FieldLemmas.{other_signed, other_operand, other_bracketed, first_cut, other_label, signed_no_label, register_back, register_closed, register_bracketed, signed_back, operand_back}
use Rattle.axp_source.proofs.NameLemmas.{is_above, high_memory, high_branch, high_operate, high_misc, high_jump, other_above, begins_other, branch_found, memory_found, misc_found, operate_found, jump_found, pal_found}
use Rattle.axp_source.proofs.NumberLemmas.{number_back, hex_in_back}

-- ---- directives

directive_back : (d : Directive) → DirectiveFits d → item_of (directive_text d) ≡ Some (Directs d)
unfolding item_of directive_text
directive_back (directive.Memory m) h = ap (λ x. directive_if (codes ".memory " ++ decimal m) (Some (directive.Memory x))) (number_back m h) ∙ ap (λ t. if t then Some (Directs (directive.Memory m)) else None) (same_bytes (codes ".memory " ++ decimal m))
directive_back (directive.Entry n) h = ap (λ x. directive_if (codes ".entry " ++ hex 16 n) (Some (directive.Entry x))) (hex_in_back 16 n h h) ∙ ap (λ t. if t then Some (Directs (directive.Entry n)) else None) (same_bytes (codes ".entry " ++ hex 16 n))
directive_back (directive.Stack n) h = ap (λ x. directive_if (codes ".stack " ++ hex 16 n) (Some (directive.Stack x))) (hex_in_back 16 n h h) ∙ ap (λ t. if t then Some (Directs (directive.Stack n)) else None) (same_bytes (codes ".stack " ++ hex 16 n))
directive_back (directive.Table t) h = ap (λ x. directive_if (codes ".table " ++ decimal t) (Some (directive.Table x))) (number_back t h) ∙ ap (λ u. if u then Some (Directs (directive.Table t)) else None) (same_bytes (codes ".table " ++ decimal t))
directive_back (directive.At n) h = ap (λ x. directive_if (codes ".at " ++ hex 8 n) (Some (directive.At x))) (ap (λ x. x % 2 ^ 32) (hex_in_back 8 n h (omega arith)) ∙ mod-eq_of_lt h) ∙ ap (λ t. if t then Some (Directs (directive.At n)) else None) (same_bytes (codes ".at " ++ hex 8 n))
directive_back (directive.Byte n) h = ap (λ x. directive_if (codes ".byte " ++ hex 2 n) (Some (directive.Byte x))) (ap (λ x. x % 2 ^ 8) (hex_in_back 2 n h (omega arith)) ∙ mod-eq_of_lt h) ∙ ap (λ t. if t then Some (Directs (directive.Byte n)) else None) (same_bytes (codes ".byte " ++ hex 2 n))
directive_back (directive.Word n) h = ap (λ x. directive_if (codes ".word " ++ hex 8 n) (Some (directive.Word x))) (ap (λ x. x % 2 ^ 32) (hex_in_back 8 n h (omega arith)) ∙ mod-eq_of_lt h) ∙ ap (λ t. if t then Some (Directs (directive.Word n)) else None) (same_bytes (codes ".word " ++ hex 8 n))

-- ---- instructions

-- a line of a name and what stands behind it
plain_back : (name rest : List ℕ) → is_above 46 name ≡ true → item_of (name ++ 32 ∷ rest) ≡ operands_in (name ++ 32 ∷ rest) name (cut_at 44 rest)
unfolding item_of
plain_back name rest high =
    ap (λ t. if t then directive_by (name ++ 32 ∷ rest) (cut_at 32 (name ++ 32 ∷ rest)) else plain_by (name ++ 32 ∷ rest) (cut_at 32 (name ++ 32 ∷ rest))) (begins_other 46 32 name rest refl (other_above 46 46 name (omega arith) high))
    ∙ ap (plain_by (name ++ 32 ∷ rest)) (cut_at-begin 32 name rest (other_above 32 46 name (omega arith) high))

text_back : (i : Instr) (line : List ℕ) → line ≡ instr_text i → instr_if line (Some i) ≡ Some (Instruction i)
text_back i line is = ap (λ l. instr_if l (Some i)) is ∙ ap (λ t. if t then Some (Instruction i) else None) (same_bytes (instr_text i))

-- an instruction that is no branch, by its name, register Ra and what stands behind the comma
other_back : (i : Instr) (name : List ℕ) (a : ℕ) (rest : List ℕ) → is_above 46 name ≡ true → branch_named name ≡ None → a < 2 ^ 5 → instr_text i ≡ name ++ 32 ∷ (register_text a ++ 44 ∷ rest) → named_by (memory_named name) name a rest ≡ Some i → item_of (instr_text i) ≡ Some (Instruction i)
other_back i name a rest high none small text meant =
    ap item_of text
    ∙ plain_back name (register_text a ++ 44 ∷ rest) high
    ∙ ap (operands_in (name ++ 32 ∷ (register_text a ++ 44 ∷ rest)) name) (first_cut a rest)
    ∙ ap (λ b. operands_by (name ++ 32 ∷ (register_text a ++ 44 ∷ rest)) b name (register_text a) rest) none
    ∙ ap (λ n. instr_if (name ++ 32 ∷ (register_text a ++ 44 ∷ rest)) (named_by (memory_named name) name n rest)) (register_back a small)
    ∙ ap (instr_if (name ++ 32 ∷ (register_text a ++ 44 ∷ rest))) meant
    ∙ text_back i (name ++ 32 ∷ (register_text a ++ 44 ∷ rest)) (sym text)

memory_back : (op : MemOp) (a b disp : ℕ) → FieldsFit (instr.Memory op a b disp) → item_of (instr_text (instr.Memory op a b disp)) ≡ Some (Instruction (instr.Memory op a b disp))
unfolding instr_text
memory_back op a b disp h =
    let found = memory_found op in
    let disp_fits : disp < 2 * MEMORY_HALF = h.2 in
    let cut : cut_at 40 (signed_text MEMORY_HALF disp ++ 40 ∷ (register_text b ++ 41 ∷ [])) ≡ Some (signed_text MEMORY_HALF disp, register_text b ++ 41 ∷ []) = cut_at-begin 40 (signed_text MEMORY_HALF disp) (register_text b ++ 41 ∷ []) (other_signed 40 MEMORY_HALF disp (omega arith)) in
    other_back (instr.Memory op a b disp) (memory_name op) a (signed_text MEMORY_HALF disp ++ 40 ∷ (register_text b ++ 41 ∷ [])) (high_memory op) found.0 h.0 refl
    (ap (λ o. named_by o (memory_name op) a (signed_text MEMORY_HALF disp ++ 40 ∷ (register_text b ++ 41 ∷ []))) found.1
    ∙ ap (memory_by op a) cut
    ∙ ap (λ n. Some (instr.Memory op a n (signed_in MEMORY_HALF (signed_text MEMORY_HALF disp)))) (register_closed b h.1)
    ∙ ap (λ d. Some (instr.Memory op a b d)) (signed_back MEMORY_HALF disp disp_fits (omega arith)))

misc_back : (op : MiscOp) (a b : ℕ) → FieldsFit (instr.Misc op a b) → item_of (instr_text (instr.Misc op a b)) ≡ Some (Instruction (instr.Misc op a b))
unfolding instr_text
misc_back op a b h =
    let found = misc_found op in
    other_back (instr.Misc op a b) (misc_name op) a (register_text b) (high_misc op) found.0 h.0 refl
    (ap (λ o. named_by o (misc_name op) a (register_text b)) found.1
    ∙ ap (λ o. misc_by o (misc_name op) a (register_text b)) found.2
    ∙ ap (λ n. Some (instr.Misc op a n)) (register_back b h.1))

operate_back : (op : Op) (a : ℕ) (b : Operand) (c : ℕ) → FieldsFit (instr.Operate op a b c) → is_written (instr.Operate op a b c) ≡ true → item_of (instr_text (instr.Operate op a b c)) ≡ Some (Instruction (instr.Operate op a b c))
unfolding instr_text
operate_back op a b c h w =
    let found = operate_found op in
    let cut : cut_at 44 (operand_text b ++ 44 ∷ register_text c) ≡ Some (operand_text b, register_text c) = cut_at-begin 44 (operand_text b) (register_text c) (other_operand 44 b (λ e. absurd (omega arith)) (omega arith)) in
    other_back (instr.Operate op a b c) (operate_name op) a (operand_text b ++ 44 ∷ register_text c) (high_operate op) found.0 h.0 refl
    (ap (λ o. named_by o (operate_name op) a (operand_text b ++ 44 ∷ register_text c)) found.1
    ∙ ap (λ o. misc_by o (operate_name op) a (operand_text b ++ 44 ∷ register_text c)) found.2
    ∙ ap (three_in (operate_name op) a) cut
    ∙ ap (λ o. three_by o (operate_name op) a (operand_text b) (register_text c)) found.3
    ∙ ap (λ x. Some (instr.Operate op a x (register_in (register_text c)))) (operand_back b h.1 w)
    ∙ ap (λ n. Some (instr.Operate op a b n)) (register_back c h.2))

jump_back : (kind a b hint : ℕ) → FieldsFit (instr.Jump kind a b hint) → item_of (instr_text (instr.Jump kind a b hint)) ≡ Some (Instruction (instr.Jump kind a b hint))
unfolding instr_text
jump_back kind a b hint h =
    let found = jump_found kind h.0 in
    let cut : cut_at 44 (40 ∷ (register_text b ++ 41 ∷ []) ++ 44 ∷ decimal hint) ≡ Some (40 ∷ (register_text b ++ 41 ∷ []), decimal hint) = cut_at-begin 44 (40 ∷ (register_text b ++ 41 ∷ [])) (decimal hint) (other_bracketed 44 b (λ e. absurd (omega arith)) (λ e. absurd (omega arith)) (omega arith)) in
    other_back (instr.Jump kind a b hint) (jump_name kind) a (40 ∷ (register_text b ++ 41 ∷ []) ++ 44 ∷ decimal hint) (high_jump kind) found.branch h.1 refl
    (ap (λ o. named_by o (jump_name kind) a (40 ∷ (register_text b ++ 41 ∷ []) ++ 44 ∷ decimal hint)) found.memory
    ∙ ap (λ o. misc_by o (jump_name kind) a (40 ∷ (register_text b ++ 41 ∷ []) ++ 44 ∷ decimal hint)) found.misc
    ∙ ap (three_in (jump_name kind) a) cut
    ∙ ap (λ o. three_by o (jump_name kind) a (40 ∷ (register_text b ++ 41 ∷ [])) (decimal hint)) found.operate
    ∙ ap (λ k. jump_by k a (40 ∷ (register_text b ++ 41 ∷ [])) (decimal hint)) found.jump
    ∙ ap (λ n. Some (instr.Jump kind a n (number_in (decimal hint) % 2 ^ 14))) (register_bracketed b h.2)
    ∙ ap (λ n. Some (instr.Jump kind a b n)) (ap (λ x. x % 2 ^ 14) (number_back hint (omega arith)) ∙ mod-eq_of_lt h.3))

-- a line of a branch
branch_line : (op : BranchOp) (a : ℕ) (target : List ℕ) → item_of (branch_name op ++ 32 ∷ (register_text a ++ 44 ∷ target)) ≡ branch_in (branch_name op ++ 32 ∷ (register_text a ++ 44 ∷ target)) op (register_text a) target
branch_line op a target =
    plain_back (branch_name op) (register_text a ++ 44 ∷ target) (high_branch op)
    ∙ ap (operands_in (branch_name op ++ 32 ∷ (register_text a ++ 44 ∷ target)) (branch_name op)) (first_cut a target)
    ∙ ap (λ b. operands_by (branch_name op ++ 32 ∷ (register_text a ++ 44 ∷ target)) b (branch_name op) (register_text a) target) (branch_found op)

branch_back : (op : BranchOp) (a disp : ℕ) → FieldsFit (instr.Branch op a disp) → item_of (instr_text (instr.Branch op a disp)) ≡ Some (Instruction (instr.Branch op a disp))
unfolding instr_text
branch_back op a disp h =
    let disp_fits : disp < 2 * BRANCH_HALF = h.1 in
    branch_line op a (signed_text BRANCH_HALF disp)
    ∙ ap (λ t. if t then branch_to op (register_text a) (signed_text BRANCH_HALF disp) else instr_if (branch_name op ++ 32 ∷ (register_text a ++ 44 ∷ signed_text BRANCH_HALF disp)) (Some (instr.Branch op (register_in (register_text a)) (signed_in BRANCH_HALF (signed_text BRANCH_HALF disp))))) (signed_no_label BRANCH_HALF disp)
    ∙ ap (λ n. instr_if (branch_name op ++ 32 ∷ (register_text a ++ 44 ∷ signed_text BRANCH_HALF disp)) (Some (instr.Branch op n (signed_in BRANCH_HALF (signed_text BRANCH_HALF disp))))) (register_back a h.0)
    ∙ ap (λ d. instr_if (branch_name op ++ 32 ∷ (register_text a ++ 44 ∷ signed_text BRANCH_HALF disp)) (Some (instr.Branch op a d))) (signed_back BRANCH_HALF disp disp_fits (omega arith))
    ∙ text_back (instr.Branch op a disp) (branch_name op ++ 32 ∷ (register_text a ++ 44 ∷ signed_text BRANCH_HALF disp)) refl

pal_back : (op : PalOp) → item_of (instr_text (instr.Pal op)) ≡ Some (Instruction (instr.Pal op))
unfolding item_of instr_text
pal_back op =
    let found = pal_found op in
    ap (λ t. if t then directive_by (pal_name op) (cut_at 32 (pal_name op)) else plain_by (pal_name op) (cut_at 32 (pal_name op))) found.0
    ∙ ap (plain_by (pal_name op)) found.1
    ∙ ap (word_by (pal_name op)) found.2
    ∙ ap pal_by found.3

instr_back : (i : Instr) → FieldsFit i → is_written i ≡ true → item_of (instr_text i) ≡ Some (Instruction i)
instr_back (instr.Memory op a b disp) h w = memory_back op a b disp h
instr_back (instr.Branch op a disp) h w = branch_back op a disp h
instr_back (instr.Jump kind a b hint) h w = jump_back kind a b hint h
instr_back (instr.Operate op a b c) h w = operate_back op a b c h w
instr_back (instr.Misc op a b) h w = misc_back op a b h
instr_back (instr.Pal op) h w = pal_back op
instr_back (instr.Floating word) h w = cc
instr_back (instr.Reserved word) h w = cc

-- ---- labels

branch_to_back : (op : BranchOp) (a : ℕ) (label : List ℕ) → a < 2 ^ 5 → is_label label ≡ true → item_of (branch_text op a label) ≡ Some (BranchTo op a label)
unfolding branch_text
branch_to_back op a label small h =
    branch_line op a label
    ∙ ap (λ t. if t then branch_to op (register_text a) label else instr_if (branch_name op ++ 32 ∷ (register_text a ++ 44 ∷ label)) (Some (instr.Branch op (register_in (register_text a)) (signed_in BRANCH_HALF label)))) h
    ∙ ap (λ n. if bytes_eq (register_text a) (register_text n) then Some (BranchTo op n label) else None) (register_back a small)
    ∙ ap (λ t. if t then Some (BranchTo op a label) else None) (same_bytes (register_text a))

label_back : (name : List ℕ) → is_label name ≡ true → item_of (label_text name) ≡ Some (Label name)
unfolding item_of label_text
label_back name h =
    ap (λ t. if t then directive_by (name ++ 58 ∷ []) (cut_at 32 (name ++ 58 ∷ [])) else plain_by (name ++ 58 ∷ []) (cut_at 32 (name ++ 58 ∷ []))) (begins_other 46 58 name [] refl (other_label 46 name refl h))
    ∙ ap (plain_by (name ++ 58 ∷ [])) (sym (cut_by_parts 32 (name ++ 58 ∷ []) None (λ _. free) tt tt))
    ∙ ap (word_by (name ++ 58 ∷ [])) (cut_at-begin 58 name [] (other_label 58 name refl h))
    ∙ ap (λ t. if t then Some (Label name) else None) h
  where
    free : All (λ b. b ≢ 32) (name ++ 58 ∷ [])
    free = All-append (λ b. b ≢ 32) name (58 ∷ []) (other_label 32 name refl h) (All-cons (λ b. b ≢ 32) 58 [] (λ e. absurd (omega arith)) (All-nil (λ b. b ≢ 32)))

-- ---- any statement

pub item_back : (s : Item) → Fits s → item_of (item_text s) ≡ Some s
item_back (Directs d) h = directive_back d h
item_back (Label name) h = label_back name h
item_back (Instruction i) h = instr_back i h.0 h.1
item_back (BranchTo op a label) h = branch_to_back op a label h.0 h.1
