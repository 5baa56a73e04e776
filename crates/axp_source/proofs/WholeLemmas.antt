-- No line of a statement has a line feed in it.
use Rattle.std.proofs.Common.{◌≡◌, ◌≢◌, ℕ, ◌<◌, ◌≤◌, true, List, [], ◌∷◌, ◌++◌, codes, decimal, refl, arith}
use Rattle.std.specs.List.{All}
use Rattle.std.proofs.lemmas.List.Elements.{All-append, All-cons, All-nil, All-weaker}
use Rattle.axp_trace.specs.Digits.{hex}
use Rattle.axp_trace.specs.declared.files.TheConstants.{LINE_FEED}
use Rattle.axp_trace.proofs.LineLemmas.{high_hex}
use Rattle.axp_decode.specs.declared.instructions.Instr.{Instr}
use Rattle.axp_decode.specs.declared.instructions.Instr.TheVariants as instr
use Rattle.axp_source.specs.Names.{memory_name, branch_name, operate_name, misc_name, pal_name, jump_name}
use Rattle.axp_source.specs.Items.{Item, Directs, Label, Instruction, BranchTo, Fits}
use Rattle.axp_source.specs.Texts.{register_text, signed_text, operand_text, instr_text, directive_text, branch_text, label_text, item_text}
use Rattle.axp_source.specs.declared.numbers.TheConstants.{MEMORY_HALF, BRANCH_HALF}
use Rattle.axp_source.specs.declared.statements.Directive.{Directive}
use Rattle.axp_source.specs.declared.statements.Directive.TheVariants as directive
use Rattle.axp_source.proofs.NameLemmas.{is_above, other_above, high_memory, high_branch, high_operate, high_misc, high_pal, high_jump}
use Rattle.axp_source.proofs.FieldLemmas.{other_decimal, other_register, other_signed, other_operand, other_bracketed, other_label}

abbrev IsWhole : List ℕ → Type 0
IsWhole xs = All (λ b. b ≢ LINE_FEED) xs

-- written out, and something behind it
behind : (front back : List ℕ) → is_above 10 front ≡ true → IsWhole back → IsWhole (front ++ back)
behind front back high h = All-append (λ b. b ≢ LINE_FEED) front back (other_above 10 10 front (omega arith) high) h

-- both parts, and a byte between them
around : (xs : List ℕ) (c : ℕ) (ys : List ℕ) → 10 < c → IsWhole xs → IsWhole ys → IsWhole (xs ++ c ∷ ys)
around xs c ys high h k = All-append (λ b. b ≢ LINE_FEED) xs (c ∷ ys) h (All-cons (λ b. b ≢ LINE_FEED) c ys (λ e. absurd (omega arith)) k)

whole_hex : (k n : ℕ) → IsWhole (hex k n)
whole_hex k n = All-weaker (λ d. 48 ≤ d) (λ d. d ≢ LINE_FEED) (λ d h e. absurd (omega arith)) (hex k n) (high_hex k n)

-- ---- statements

whole_directive : (d : Directive) → IsWhole (directive_text d)
unfolding directive_text
whole_directive (directive.Memory m) = behind (codes ".memory ") (decimal m) refl (other_decimal 10 m (omega arith))
whole_directive (directive.Entry x) = behind (codes ".entry ") (hex 16 x) refl (whole_hex 16 x)
whole_directive (directive.Stack x) = behind (codes ".stack ") (hex 16 x) refl (whole_hex 16 x)
whole_directive (directive.Table t) = behind (codes ".table ") (decimal t) refl (other_decimal 10 t (omega arith))
whole_directive (directive.At x) = behind (codes ".at ") (hex 8 x) refl (whole_hex 8 x)
whole_directive (directive.Byte x) = behind (codes ".byte ") (hex 2 x) refl (whole_hex 2 x)
whole_directive (directive.Word x) = behind (codes ".word ") (hex 8 x) refl (whole_hex 8 x)

whole_register : (n : ℕ) → IsWhole (register_text n)
whole_register n = other_register 10 n (omega arith)

-- a name, register Ra, and what stands behind the comma
whole_line : (name : List ℕ) (a : ℕ) (rest : List ℕ) → is_above 46 name ≡ true → IsWhole rest → IsWhole (name ++ 32 ∷ (register_text a ++ 44 ∷ rest))
whole_line name a rest high h = around name 32 (register_text a ++ 44 ∷ rest) (omega arith) (other_above 10 46 name (omega arith) high) (around (register_text a) 44 rest (omega arith) (whole_register a) h)

whole_instr : (i : Instr) → IsWhole (instr_text i)
unfolding instr_text
whole_instr (instr.Memory op a b disp) =
    let closed = around (register_text b) 41 [] (omega arith) (whole_register b) (All-nil (λ b. b ≢ LINE_FEED)) in
    whole_line (memory_name op) a (signed_text MEMORY_HALF disp ++ 40 ∷ (register_text b ++ 41 ∷ [])) (high_memory op) (around (signed_text MEMORY_HALF disp) 40 (register_text b ++ 41 ∷ []) (omega arith) (other_signed 10 MEMORY_HALF disp (omega arith)) closed)
whole_instr (instr.Branch op a disp) = whole_line (branch_name op) a (signed_text BRANCH_HALF disp) (high_branch op) (other_signed 10 BRANCH_HALF disp (omega arith))
whole_instr (instr.Jump kind a b hint) =
    let bracketed = other_bracketed 10 b (λ e. absurd (omega arith)) (λ e. absurd (omega arith)) (omega arith) in
    whole_line (jump_name kind) a (40 ∷ (register_text b ++ 41 ∷ []) ++ 44 ∷ decimal hint) (high_jump kind) (around (40 ∷ (register_text b ++ 41 ∷ [])) 44 (decimal hint) (omega arith) bracketed (other_decimal 10 hint (omega arith)))
whole_instr (instr.Operate op a b c) = whole_line (operate_name op) a (operand_text b ++ 44 ∷ register_text c) (high_operate op) (around (operand_text b) 44 (register_text c) (omega arith) (other_operand 10 b (λ e. absurd (omega arith)) (omega arith)) (whole_register c))
whole_instr (instr.Misc op a b) = whole_line (misc_name op) a (register_text b) (high_misc op) (whole_register b)
whole_instr (instr.Pal op) = other_above 10 46 (pal_name op) (omega arith) (high_pal op)
whole_instr (instr.Floating word) = All-nil (λ b. b ≢ LINE_FEED)
whole_instr (instr.Reserved word) = All-nil (λ b. b ≢ LINE_FEED)

pub whole_item : (s : Item) → Fits s → IsWhole (item_text s)
unfolding branch_text label_text
whole_item (Directs d) h = whole_directive d
whole_item (Label name) h = around name 58 [] (omega arith) (other_label 10 name refl h) (All-nil (λ b. b ≢ LINE_FEED))
whole_item (Instruction i) h = whole_instr i
whole_item (BranchTo op a label) h = whole_line (branch_name op) a label (high_branch op) (other_label 10 label refl h.1)
