-- What is read is written: a line that means a statement is its text, and its fields fit.
use Rattle.std.proofs.Common.{◌≡◌, ℕ, ◌-◌, ◌*◌, ◌%◌, ◌^◌, ◌<◌, ◌==◌, Bool, true, false, if◌then◌else◌, List, [], ◌∷◌, ◌++◌, codes, Option, Some, None, IfSome, refl, sym, ap, ◌∙◌, arith}
use Rattle.std.specs.Str.{bytes_eq}
use Rattle.std.proofs.lemmas.Bool.{eqb-true}
use Rattle.std.proofs.lemmas.Nat.{mod_below}
use Rattle.std.proofs.lemmas.Slice.Eq.{bytes_eq-Decides}
use Rattle.axp_trace.specs.Digits.{hex_value}
use Rattle.axp_trace.specs.Fields.{with_front, cut_at}
use Rattle.axp_trace.proofs.ActNameLemmas.{either}
use Rattle.axp_decode.specs.Format.{FieldsFit, OperandFits}
use Rattle.axp_decode.specs.declared.instructions.Instr.{Instr}
use Rattle.axp_decode.specs.declared.instructions.Instr.TheVariants as instr
use Rattle.axp_decode.specs.declared.instructions.Operand.TheVariants.{Reg, Literal}
use Rattle.axp_decode.specs.declared.names.MemOp.{MemOp}
use Rattle.axp_decode.specs.declared.names.BranchOp.{BranchOp}
use Rattle.axp_decode.specs.declared.names.MiscOp.{MiscOp}
use Rattle.axp_decode.specs.declared.names.PalOp.{PalOp}
use Rattle.axp_decode.specs.declared.names.Op.{Op}
use Rattle.axp_source.specs.Names.{memory_named, branch_name, branch_named, operate_named, misc_named, pal_name, pal_named, jump_named}
use Rattle.axp_source.specs.Items.{Item, Directs, Label, Instruction, BranchTo, is_label, is_written, is_written_operand, DirectiveFits, Fits}
use Rattle.axp_source.specs.Fields.{digits_behind, number_in, hex_in, begins, register_in, signed_in, operand_in}
use Rattle.axp_source.specs.Texts.{register_text, instr_text, directive_text, branch_text, label_text, item_text}
use Rattle.axp_source.specs.Reading.{directive_in, directive_if, directive_by, instr_if, memory_by, jump_by, three_by, three_in, misc_by, named_by, instr_in, branch_to, branch_in, operands_by, operands_in, pal_by, label_by, word_by, plain_by, item_of}
use Rattle.axp_source.specs.declared.numbers.TheConstants.{MEMORY_HALF, BRANCH_HALF}
use Rattle.axp_source.specs.declared.statements.Directive.{Directive}
use Rattle.axp_source.proofs.NameLemmas.{branch_is, pal_is, jump_is}

-- the line is the statement's
abbrev pub IsLineOf : List ℕ → Item → Type 0
IsLineOf line s = (line ≡ item_text s) × Fits s

-- a text that is cut is both parts with the byte between them
cut_parts : (byte : ℕ) (text : List ℕ) → IfSome (cut_at byte text) (λ p. text ≡ p.0 ++ byte ∷ p.1)
cut_parts byte [] = tt
cut_parts byte (b ∷ bs) = by (b == byte) (cut_at byte bs) refl (cut_parts byte bs)
  where
    by : (t : Bool) (o : Option (List ℕ × List ℕ)) → (b == byte) ≡ t → IfSome o (λ p. bs ≡ p.0 ++ byte ∷ p.1) → IfSome (if t then Some ([], bs) else with_front b o) (λ p. b ∷ bs ≡ p.0 ++ byte ∷ p.1)
    by true o e h = ap (λ x. x ∷ bs) (eqb-true b byte e)
    by false None e h = tt
    by false (Some p) e h = ap (λ xs. b ∷ xs) h

-- ---- fields

small_register : (word : List ℕ) → register_in word < 2 ^ 5
small_register word = mod_below (number_in word) (2 ^ 5) (omega arith)

small_signed : (half : ℕ) (word : List ℕ) → 0 < half → signed_in half word < 2 * half
small_signed half word some = by (begins 45 word)
  where
    by : (t : Bool) → (if t then (2 * half - number_in word % (2 * half)) % (2 * half) else number_in word % (2 * half)) < 2 * half
    by true = mod_below (2 * half - number_in word % (2 * half)) (2 * half) (omega arith)
    by false = mod_below (number_in word) (2 * half) (omega arith)

small_operand : (word : List ℕ) → OperandFits (operand_in word) × (is_written_operand (operand_in word) ≡ true)
small_operand word = by (begins 35 word)
  where
    by : (t : Bool) → OperandFits (if t then Literal (number_in word % 2 ^ 8) else Reg (register_in word) 0) × (is_written_operand (if t then Literal (number_in word % 2 ^ 8) else Reg (register_in word) 0) ≡ true)
    by true = (mod_below (number_in word) (2 ^ 8) (omega arith), refl)
    by false = ((small_register word, omega arith), refl)

small_number : (word : List ℕ) → number_in word < 2 ^ 64
unfolding number_in
small_number word = mod_below (digits_behind 0 word) (2 ^ 64) (omega arith)

small_hex : (word : List ℕ) → hex_in word < 2 ^ 64
unfolding hex_in
small_hex word = mod_below (hex_value word) (2 ^ 64) (omega arith)

-- ---- directives

directive_fits : (name word : List ℕ) → IfSome (directive_in name word) DirectiveFits
directive_fits name word =
    either DirectiveFits (bytes_eq name (codes ".memory")) _ _ (small_number word)
    (either DirectiveFits (bytes_eq name (codes ".entry")) _ _ (small_hex word)
    (either DirectiveFits (bytes_eq name (codes ".stack")) _ _ (small_hex word)
    (either DirectiveFits (bytes_eq name (codes ".table")) _ _ (small_number word)
    (either DirectiveFits (bytes_eq name (codes ".at")) _ _ (mod_below (hex_in word) (2 ^ 32) (omega arith))
    (either DirectiveFits (bytes_eq name (codes ".byte")) _ _ (mod_below (hex_in word) (2 ^ 8) (omega arith))
    (either DirectiveFits (bytes_eq name (codes ".word")) _ _ (mod_below (hex_in word) (2 ^ 32) (omega arith)) tt))))))

directive_spelled : (line : List ℕ) (d : Option Directive) → IfSome d DirectiveFits → IfSome (directive_if line d) (IsLineOf line)
directive_spelled line None h = tt
directive_spelled line (Some d) h = by (bytes_eq (directive_text d) line) refl
  where
    by : (t : Bool) → bytes_eq (directive_text d) line ≡ t → IfSome (if t then Some (Directs d) else None) (IsLineOf line)
    by true e = (sym ((bytes_eq-Decides (directive_text d) line).0 e), h)
    by false e = tt

directive_meant : (line : List ℕ) (p : Option (List ℕ × List ℕ)) → IfSome (directive_by line p) (IsLineOf line)
directive_meant line None = tt
directive_meant line (Some p) = directive_spelled line (directive_in p.0 p.1) (directive_fits p.0 p.1)

-- ---- instructions

abbrev IsFit : Instr → Type 0
IsFit i = FieldsFit i × (is_written i ≡ true)

instr_spelled : (line : List ℕ) (i : Option Instr) → IfSome i IsFit → IfSome (instr_if line i) (IsLineOf line)
instr_spelled line None h = tt
instr_spelled line (Some i) h = by (bytes_eq (instr_text i) line) refl
  where
    by : (t : Bool) → bytes_eq (instr_text i) line ≡ t → IfSome (if t then Some (Instruction i) else None) (IsLineOf line)
    by true e = (sym ((bytes_eq-Decides (instr_text i) line).0 e), h)
    by false e = tt

memory_fits : (op : MemOp) (a : ℕ) (p : Option (List ℕ × List ℕ)) → a < 2 ^ 5 → IfSome (memory_by op a p) IsFit
memory_fits op a None small = tt
memory_fits op a (Some p) small = ((small, small_register p.1, small_signed MEMORY_HALF p.0 (omega arith)), refl)

jump_fits : (kind : Option ℕ) (a : ℕ) (b hint : List ℕ) → a < 2 ^ 5 → IfSome kind (λ k. k < 4) → IfSome (jump_by kind a b hint) IsFit
jump_fits None a b hint small h = tt
jump_fits (Some kind) a b hint small h = ((h, small, small_register b, mod_below (number_in hint) (2 ^ 14) (omega arith)), refl)

three_fits : (op : Option Op) (name : List ℕ) (a : ℕ) (b c : List ℕ) → a < 2 ^ 5 → IfSome (three_by op name a b c) IsFit
three_fits None name a b c small = jump_fits (jump_named name) a b c small (jump_is name)
three_fits (Some op) name a b c small = let operand = small_operand b in ((small, operand.0, small_register c), operand.1)

three_in_fits : (name : List ℕ) (a : ℕ) (p : Option (List ℕ × List ℕ)) → a < 2 ^ 5 → IfSome (three_in name a p) IsFit
three_in_fits name a None small = tt
three_in_fits name a (Some p) small = three_fits (operate_named name) name a p.0 p.1 small

misc_fits : (op : Option MiscOp) (name : List ℕ) (a : ℕ) (rest : List ℕ) → a < 2 ^ 5 → IfSome (misc_by op name a rest) IsFit
misc_fits None name a rest small = three_in_fits name a (cut_at 44 rest) small
misc_fits (Some op) name a rest small = ((small, small_register rest), refl)

named_fits : (op : Option MemOp) (name : List ℕ) (a : ℕ) (rest : List ℕ) → a < 2 ^ 5 → IfSome (named_by op name a rest) IsFit
named_fits None name a rest small = misc_fits (misc_named name) name a rest small
named_fits (Some op) name a rest small = memory_fits op a (cut_at 40 rest) small

-- ---- branches

branch_to_meant : (line : List ℕ) (op : BranchOp) (first label : List ℕ) → line ≡ branch_name op ++ 32 ∷ (first ++ 44 ∷ label) → is_label label ≡ true → IfSome (branch_to op first label) (IsLineOf line)
unfolding branch_text
branch_to_meant line op first label parted h = by (bytes_eq first (register_text (register_in first))) refl
  where
    by : (t : Bool) → bytes_eq first (register_text (register_in first)) ≡ t → IfSome (if t then Some (BranchTo op (register_in first) label) else None) (IsLineOf line)
    by true e =
        let same : first ≡ register_text (register_in first) = (bytes_eq-Decides first (register_text (register_in first))).0 e in
        (parted ∙ ap (λ (xs : List ℕ). branch_name op ++ 32 ∷ (xs ++ 44 ∷ label)) same, (small_register first, h))
    by false e = tt

branch_meant : (line : List ℕ) (op : BranchOp) (first target : List ℕ) → line ≡ branch_name op ++ 32 ∷ (first ++ 44 ∷ target) → IfSome (branch_in line op first target) (IsLineOf line)
branch_meant line op first target parted = by (is_label target) refl
  where
    by : (t : Bool) → is_label target ≡ t → IfSome (if t then branch_to op first target else instr_if line (Some (instr.Branch op (register_in first) (signed_in BRANCH_HALF target)))) (IsLineOf line)
    by true e = branch_to_meant line op first target parted e
    by false e = instr_spelled line (Some (instr.Branch op (register_in first) (signed_in BRANCH_HALF target))) ((small_register first, small_signed BRANCH_HALF target (omega arith)), refl)

operands_meant : (line name first rest : List ℕ) (op : Option BranchOp) → IfSome op (λ op. name ≡ branch_name op) → line ≡ name ++ 32 ∷ (first ++ 44 ∷ rest) → IfSome (operands_by line op name first rest) (IsLineOf line)
operands_meant line name first rest None is parted = instr_spelled line (instr_in name first rest) (named_fits (memory_named name) name (register_in first) rest (small_register first))
operands_meant line name first rest (Some op) is parted = branch_meant line op first rest (parted ∙ ap (λ (xs : List ℕ). xs ++ 32 ∷ (first ++ 44 ∷ rest)) is)

operands_in_meant : (line name operands : List ℕ) (p : Option (List ℕ × List ℕ)) → line ≡ name ++ 32 ∷ operands → IfSome p (λ p. operands ≡ p.0 ++ 44 ∷ p.1) → IfSome (operands_in line name p) (IsLineOf line)
operands_in_meant line name operands None parted h = tt
operands_in_meant line name operands (Some p) parted h = operands_meant line name p.0 p.1 (branch_named name) (branch_is name) (parted ∙ ap (λ (xs : List ℕ). name ++ 32 ∷ xs) h)

-- ---- one word

pal_meant : (word : List ℕ) (op : Option PalOp) → IfSome op (λ op. word ≡ pal_name op) → IfSome (pal_by op) (IsLineOf word)
unfolding instr_text
pal_meant word None is = tt
pal_meant word (Some op) is = (is, (tt, refl))

label_meant : (line name behind : List ℕ) → line ≡ name ++ 58 ∷ behind → IfSome (label_by name behind) (IsLineOf line)
unfolding label_text
label_meant line name [] parted = by (is_label name) refl
  where
    by : (t : Bool) → is_label name ≡ t → IfSome (if t then Some (Label name) else None) (IsLineOf line)
    by true e = (parted, e)
    by false e = tt
label_meant line name (c ∷ cs) parted = tt

word_meant : (word : List ℕ) (p : Option (List ℕ × List ℕ)) → IfSome p (λ p. word ≡ p.0 ++ 58 ∷ p.1) → IfSome (word_by word p) (IsLineOf word)
word_meant word None h = pal_meant word (pal_named word) (pal_is word)
word_meant word (Some p) h = label_meant word p.0 p.1 h

-- ---- the whole line

plain_meant : (line : List ℕ) (p : Option (List ℕ × List ℕ)) → IfSome p (λ p. line ≡ p.0 ++ 32 ∷ p.1) → IfSome (plain_by line p) (IsLineOf line)
plain_meant line None h = word_meant line (cut_at 58 line) (cut_parts 58 line)
plain_meant line (Some p) h = operands_in_meant line p.0 p.1 (cut_at 44 p.1) h (cut_parts 44 p.1)

pub item_meant : (line : List ℕ) → IfSome (item_of line) (IsLineOf line)
unfolding item_of
item_meant line = either (IsLineOf line) (begins 46 line) _ _ (directive_meant line (cut_at 32 line)) (plain_meant line (cut_at 32 line) (cut_parts 32 line))
