-- In a source that gives an image no name is that of two labels, since each label is the first of its name.
use Rattle.std.proofs.Common.{◌≡◌, ◌≢◌, ℕ, suc, ◌+◌, ◌/◌, ◌<◌, ◌≤◌, Bool, true, false, ◌&&◌, cond, get_or, ltb, List, [], ◌∷◌, Option, Some, None, Ok, Err, refl, ap, arith}
use Rattle.std.specs.Prelude.{All}
use Rattle.std.proofs.lemmas.Bool.{eqb-true}
use Rattle.std.proofs.lemmas.List.Elements.{All-nil, All-cons, All-append, All-weaker}
use Rattle.std.proofs.lemmas.List.Kept.{AllPairs-cons}
use Rattle.axp_image.specs.Contents.{Contents, contents}
use Rattle.axp_image.specs.declared.limits.TheConstants.{PAGE_BYTES}
use Rattle.axp_image.specs.Grammar.{is_memory_size, is_entry}
use Rattle.axp_source.specs.Items.{Item, Directs, Label, Instruction, BranchTo}
use Rattle.axp_source.specs.declared.statements.Directive.{Directive}
use Rattle.axp_source.specs.declared.statements.Directive.TheVariants as directive
use Rattle.axp_asm.specs.declared.labels.Place.{Place}
use Rattle.axp_asm.specs.declared.layout.TheConstants.{BODY_LINE}
use Rattle.axp_asm.specs.Lines.{Lines, Split, directive_first, first_formless, said_in}
use Rattle.axp_asm.specs.Labels.{Named, address_behind, behind, found, label_on, labels_of, named}
use Rattle.axp_asm.specs.Drafts.{Draft, draft, is_on, with_item}
use Rattle.axp_asm.specs.Heads.{Head, entry_in, head_of, memory_in, of_entry, of_memory, of_stack, of_table, stack_in, table_in}
use Rattle.axp_asm.specs.Sources.{assembled, go_on, image_behind, of_head, of_lines}
use Rattle.axp_asm.specs.Laws.{AreNamedApart, labels_in}

-- a label is the first of its name
abbrev IsFirst : List Named → Named → Type 0
IsFirst labels label = is_on label.place.line (found label.name labels) ≡ true

-- ---- the lines behind the first four

first_by : (some on : Bool) (d e : Draft) → cond (some && on) (Some d) None ≡ Some e → on ≡ true
first_by true true d e is = refl
first_by true false d e is = absurd cc
first_by false on d e is = absurd cc

own_label : (labels : List Named) (line address : ℕ) (rest : Lines) (d e : Draft) (item : Item) → with_item labels line rest d item ≡ Some e → All (IsFirst labels) (label_on line address (Some item))
own_label labels line address rest d e (Directs said) is = All-nil (IsFirst labels)
own_label labels line address rest d e (Label name) is =
    All-cons (IsFirst labels) (named name line address) [] (first_by _ (is_on line (found name labels)) d e is) (All-nil (IsFirst labels))
own_label labels line address rest d e (Instruction i) is = All-nil (IsFirst labels)
own_label labels line address rest d e (BranchTo op a label) is = All-nil (IsFirst labels)

item_labels : (labels : List Named) (line address : ℕ) (d : Draft) (item : Item) (rest : Lines) (c : Contents) (next : Option Draft) → with_item labels line rest d item ≡ next
    → go_on next (λ e. image_behind labels (line + 1) e rest) line ≡ Ok c
    → ((e : Draft) (from : ℕ) → image_behind labels (line + 1) e rest ≡ Ok c → All (IsFirst labels) (labels_of (line + 1) from rest))
    → All (IsFirst labels) (labels_of line address (Some item ∷ rest))
item_labels labels line address d item rest c None stands is others = absurd cc
item_labels labels line address d item rest c (Some e) stands is others =
    All-append (IsFirst labels) (label_on line address (Some item)) (labels_of (line + 1) (address_behind address item) rest) (own_label labels line address rest d e item stands) (others e (address_behind address item) is)

body_labels : (labels : List Named) (line address : ℕ) (d : Draft) (lines : Lines) (c : Contents) → image_behind labels line d lines ≡ Ok c → All (IsFirst labels) (labels_of line address lines)
body_labels labels line address d [] c is = All-nil (IsFirst labels)
body_labels labels line address d (None ∷ rest) c is = absurd cc
body_labels labels line address d (Some item ∷ rest) c is =
    item_labels labels line address d item rest c (with_item labels line rest d item) refl is (λ e from more. body_labels labels (line + 1) from e rest c more)

-- ---- the first four lines, which are no labels

-- the lines behind the first are these
abbrev Behind : Split Directive → Lines → Type 0
Behind None rest = ⊥
Behind (Some p) rest = p.1 ≡ rest

behind_if : (test : Bool) (x : ℕ) (rest : Lines) (p : ℕ × Lines) → cond test (Some (x, rest)) None ≡ Some p → rest ≡ p.1
behind_if true x rest p is = cc
behind_if false x rest p is = absurd cc

memory_behind : (s : Split Directive) (p : ℕ × Lines) → memory_in s ≡ Some p → Behind s p.1
memory_behind None p is = absurd cc
memory_behind (Some (directive.Memory m, rest)) p is = behind_if (is_memory_size m) m rest p is
memory_behind (Some (directive.Entry x, rest)) p is = absurd cc
memory_behind (Some (directive.Stack x, rest)) p is = absurd cc
memory_behind (Some (directive.Table t, rest)) p is = absurd cc
memory_behind (Some (directive.At x, rest)) p is = absurd cc
memory_behind (Some (directive.Byte b, rest)) p is = absurd cc
memory_behind (Some (directive.Word w, rest)) p is = absurd cc

entry_behind : (size : ℕ) (s : Split Directive) (p : ℕ × Lines) → entry_in size s ≡ Some p → Behind s p.1
entry_behind size None p is = absurd cc
entry_behind size (Some (directive.Memory m, rest)) p is = absurd cc
entry_behind size (Some (directive.Entry x, rest)) p is = behind_if (is_entry size x) x rest p is
entry_behind size (Some (directive.Stack x, rest)) p is = absurd cc
entry_behind size (Some (directive.Table t, rest)) p is = absurd cc
entry_behind size (Some (directive.At x, rest)) p is = absurd cc
entry_behind size (Some (directive.Byte b, rest)) p is = absurd cc
entry_behind size (Some (directive.Word w, rest)) p is = absurd cc

stack_behind : (s : Split Directive) (p : ℕ × Lines) → stack_in s ≡ Some p → Behind s p.1
stack_behind None p is = absurd cc
stack_behind (Some (directive.Memory m, rest)) p is = absurd cc
stack_behind (Some (directive.Entry x, rest)) p is = absurd cc
stack_behind (Some (directive.Stack x, rest)) p is = cc
stack_behind (Some (directive.Table t, rest)) p is = absurd cc
stack_behind (Some (directive.At x, rest)) p is = absurd cc
stack_behind (Some (directive.Byte b, rest)) p is = absurd cc
stack_behind (Some (directive.Word w, rest)) p is = absurd cc

table_behind : (size : ℕ) (s : Split Directive) (p : ℕ × Lines) → table_in size s ≡ Some p → Behind s p.1
table_behind size None p is = absurd cc
table_behind size (Some (directive.Memory m, rest)) p is = absurd cc
table_behind size (Some (directive.Entry x, rest)) p is = absurd cc
table_behind size (Some (directive.Stack x, rest)) p is = absurd cc
table_behind size (Some (directive.Table t, rest)) p is = behind_if (ltb t (size / PAGE_BYTES)) t rest p is
table_behind size (Some (directive.At x, rest)) p is = absurd cc
table_behind size (Some (directive.Byte b, rest)) p is = absurd cc
table_behind size (Some (directive.Word w, rest)) p is = absurd cc

-- a property of all labels from a line on, wherever it stands
abbrev AllFrom : (Named → Type 0) → ℕ → Lines → Type 0
AllFrom P line lines = (from : ℕ) → All P (labels_of line from lines)

directive_labels : (P : Named → Type 0) (line : ℕ) (lines rest : Lines) → Behind (directive_first lines) rest → AllFrom P (line + 1) rest → AllFrom P line lines
directive_labels P line [] rest is others from = absurd is
directive_labels P line (None ∷ more) rest is others from = absurd is
directive_labels P line (Some (Directs said) ∷ more) rest is others from = rw is (others (address_behind from (Directs said)))
directive_labels P line (Some (Label name) ∷ more) rest is others from = absurd is
directive_labels P line (Some (Instruction i) ∷ more) rest is others from = absurd is
directive_labels P line (Some (BranchTo op a label) ∷ more) rest is others from = absurd is

table_labels : (P : Named → Type 0) (size entry stack : ℕ) (lines rest : Lines) (c : Contents) (s : Split ℕ) → table_in size (directive_first lines) ≡ s → of_table size entry stack s ≡ Ok (c, rest)
    → AllFrom P BODY_LINE rest → AllFrom P 4 lines
table_labels P size entry stack lines rest c None at is others = absurd cc
table_labels P size entry stack lines rest c (Some p) at is others =
    let pair : (contents size entry stack p.0 [], p.1) ≡ (c, rest) = cc in
    let same : p.1 ≡ rest = ap (λ (q : Contents × Lines). q.1) pair in
    directive_labels P 4 lines p.1 (table_behind size (directive_first lines) p at) (λ from. rw same (others from))

stack_labels : (P : Named → Type 0) (size entry : ℕ) (lines rest : Lines) (c : Contents) (s : Split ℕ) → stack_in (directive_first lines) ≡ s → of_stack size entry s ≡ Ok (c, rest)
    → AllFrom P BODY_LINE rest → AllFrom P 3 lines
stack_labels P size entry lines rest c None at is others = absurd cc
stack_labels P size entry lines rest c (Some p) at is others =
    directive_labels P 3 lines p.1 (stack_behind (directive_first lines) p at) (table_labels P size entry p.0 p.1 rest c (table_in size (directive_first p.1)) refl is others)

entry_labels : (P : Named → Type 0) (size : ℕ) (lines rest : Lines) (c : Contents) (s : Split ℕ) → entry_in size (directive_first lines) ≡ s → of_entry size s ≡ Ok (c, rest)
    → AllFrom P BODY_LINE rest → AllFrom P 2 lines
entry_labels P size lines rest c None at is others = absurd cc
entry_labels P size lines rest c (Some p) at is others =
    directive_labels P 2 lines p.1 (entry_behind size (directive_first lines) p at) (stack_labels P size p.0 p.1 rest c (stack_in (directive_first p.1)) refl is others)

memory_labels : (P : Named → Type 0) (lines rest : Lines) (c : Contents) (s : Split ℕ) → memory_in (directive_first lines) ≡ s → of_memory s ≡ Ok (c, rest)
    → AllFrom P BODY_LINE rest → AllFrom P 1 lines
memory_labels P lines rest c None at is others = absurd cc
memory_labels P lines rest c (Some p) at is others =
    directive_labels P 1 lines p.1 (memory_behind (directive_first lines) p at) (entry_labels P p.0 p.1 rest c (entry_in p.0 (directive_first p.1)) refl is others)

head_labels : (P : Named → Type 0) (lines rest : Lines) (c : Contents) → head_of lines ≡ Ok (c, rest) → AllFrom P BODY_LINE rest → AllFrom P 1 lines
unfolding head_of
head_labels P lines rest c is others = memory_labels P lines rest c (memory_in (directive_first lines)) refl is others

-- ---- the whole

head_by : (lines : Lines) (c : Contents) (head : Head) → head_of lines ≡ head → of_head (labels_of 1 0 lines) head ≡ Ok c → All (IsFirst (labels_of 1 0 lines)) (labels_of 1 0 lines)
head_by lines c (Err line) at is = absurd cc
head_by lines c (Ok p) at is =
    let labels = labels_of 1 0 lines in
    head_labels (IsFirst labels) lines p.1 p.0 at (λ from. body_labels labels BODY_LINE from (draft p.0 None) p.1 c is) 0

lines_by : (lines : Lines) (c : Contents) (first : Option ℕ) → of_lines first lines ≡ Ok c → All (IsFirst (labels_of 1 0 lines)) (labels_of 1 0 lines)
lines_by lines c (Some line) is = absurd cc
lines_by lines c None is = head_by lines c (head_of lines) refl is

-- the numbers of the lines of labels rise
own_rises : (line address : ℕ) (said : Option Item) → All (λ (l : Named). line ≤ l.place.line) (label_on line address said)
own_rises line address None = All-nil _
own_rises line address (Some (Directs said)) = All-nil _
own_rises line address (Some (Label name)) = All-cons (λ (l : Named). line ≤ l.place.line) (named name line address) [] (omega arith) (All-nil _)
own_rises line address (Some (Instruction i)) = All-nil _
own_rises line address (Some (BranchTo op a label)) = All-nil _

lines_rise : (line address : ℕ) (lines : Lines) → All (λ (l : Named). line ≤ l.place.line) (labels_of line address lines)
lines_rise line address [] = All-nil _
lines_rise line address (said ∷ rest) =
    All-append (λ (l : Named). line ≤ l.place.line) (label_on line address said) (labels_of (line + 1) (behind address said) rest) (own_rises line address said)
    (All-weaker (λ (l : Named). line + 1 ≤ l.place.line) (λ (l : Named). line ≤ l.place.line) (λ l more. omega (arith, more)) (labels_of (line + 1) (behind address said) rest) (lines_rise (line + 1) (behind address said) rest))

on_one_line : (place : Option Place) (m n : ℕ) → is_on m place ≡ true → is_on n place ≡ true → m ≡ n
on_one_line None m n first other = absurd cc
on_one_line (Some p) m n first other = omega (arith, eqb-true p.line m first, eqb-true p.line n other)

named_apart : (labels : List Named) (a b : Named) → IsFirst labels a → IsFirst labels b → a.place.line < b.place.line → a.name ≢ b.name
named_apart labels a b first other below same =
    let there : is_on b.place.line (found a.name labels) ≡ true = rw same other in
    absurd (omega (arith, below, on_one_line (found a.name labels) a.place.line b.place.line first there))

all_apart : (labels : List Named) (line address : ℕ) (lines : Lines) → All (IsFirst labels) (labels_of line address lines) → AreNamedApart (labels_of line address lines)
all_apart labels line address [] all = λ i j d lt within. absurd (omega (arith, lt, within))
all_apart labels line address (None ∷ rest) all = all_apart labels (line + 1) address rest all
all_apart labels line address (Some (Directs said) ∷ rest) all = all_apart labels (line + 1) (address_behind address (Directs said)) rest all
all_apart labels line address (Some (Instruction i) ∷ rest) all = all_apart labels (line + 1) (address_behind address (Instruction i)) rest all
all_apart labels line address (Some (BranchTo op a label) ∷ rest) all = all_apart labels (line + 1) (address_behind address (BranchTo op a label)) rest all
all_apart labels line address (Some (Label name) ∷ rest) all =
    let own = named name line address in
    let others = labels_of (line + 1) (address_behind address (Label name)) rest in
    let rise = lines_rise (line + 1) (address_behind address (Label name)) rest in
    let first : All (IsFirst labels) others = λ k d lt. all (suc k) d (omega (arith, lt)) in
    let mine : IsFirst labels own = all 0 own (omega arith) in
    AllPairs-cons (λ (a b : Named). a.name ≢ b.name) own others
    (λ k d lt. named_apart labels own (get_or others k d) mine (first k d lt) (omega (arith, rise k d lt)))
    (all_apart labels (line + 1) (address_behind address (Label name)) rest first)

pub labels_apart : (text : List ℕ) (c : Contents) → assembled text ≡ Ok c → AreNamedApart (labels_in text)
unfolding assembled
labels_apart text c is = all_apart (labels_in text) 1 0 (said_in text) (lines_by (said_in text) c (first_formless 1 (said_in text)) is)
