-- The label of each round, and how many rounds have it.
use Rattle.std.proofs.Common.{◌≡◌, ℕ, zero, suc, ◌+◌, ◌<◌, Bool, true, false, cond, List, [], ◌∷◌, ◌++◌, length, refl, sym, ap, ◌∙◌, arith}
use Rattle.std.proofs.lemmas.List.{length-append}
use Rattle.std.proofs.lemmas.List.Sums.{sum_by_push}
use Rattle.axp_gen.specs.declared.shapes.Shape.{Shape}
use Rattle.axp_gen.specs.declared.shapes.Shape.TheVariants.{Sb, Dl, Dm, Lock}
use Rattle.axp_gen.specs.Litmus.{litmus_image}
use Rattle.axp_gen.specs.Shapes.{shape_of}
use Rattle.axp_image.specs.Contents.{Contents}
use Rattle.axp_machine.specs.Runs.{Seen}
use Rattle.axp_summary.specs.declared.labels.Label.{Label}
use Rattle.axp_summary.specs.declared.labels.Label.TheVariants.{ZeroZero, ZeroOne, OneZero, OneOne, Old, New, Weak, Exact, Other}
use Rattle.axp_summary.specs.declared.labels.TheConstants.{COUNTER_AT}
use Rattle.axp_summary.specs.Labels.{label_of, labels_of}
use Rattle.axp_summary.specs.Summaries.{count_of, count_of_each, is_same, labels_of_first}

-- the memory of the spin lock has the counter
lock_memory : (litmus_image Lock).size ≡ 0x10000
unfolding litmus_image
lock_memory = refl

pub has_counter : (shape : Shape) (image : Contents) → shape ≡ Lock → image ≡ litmus_image shape → COUNTER_AT < image.size
has_counter shape image is over = let size : image.size ≡ 0x10000 = ap (λ (c : Contents). c.size) (over ∙ ap litmus_image is) ∙ lock_memory in omega (arith, size)

-- ---- one more round

count_more : (label given : Label) (labels : List Label) → count_of label (labels ++ given ∷ []) ≡ count_of label labels + cond (is_same label given) 1 0
count_more label given labels = sum_by_push (λ (x : Label). cond (is_same label x) 1 0) labels given

-- the counts of each of these labels rise by one together
abbrev IsCounted : List Label → Label → Type 0
IsCounted printed given = (labels : List Label) → count_of_each printed (labels ++ given ∷ []) ≡ count_of_each printed labels + 1

loads_counted : (first second : Bool) → IsCounted (labels_of Sb) (cond first (cond second ZeroZero ZeroOne) (cond second OneZero OneOne))
loads_counted true true labels = rw (count_more ZeroZero ZeroZero labels, count_more ZeroOne ZeroZero labels, count_more OneZero ZeroZero labels, count_more OneOne ZeroZero labels) (omega arith)
loads_counted true false labels = rw (count_more ZeroZero ZeroOne labels, count_more ZeroOne ZeroOne labels, count_more OneZero ZeroOne labels, count_more OneOne ZeroOne labels) (omega arith)
loads_counted false true labels = rw (count_more ZeroZero OneZero labels, count_more ZeroOne OneZero labels, count_more OneZero OneZero labels, count_more OneOne OneZero labels) (omega arith)
loads_counted false false labels = rw (count_more ZeroZero OneOne labels, count_more ZeroOne OneOne labels, count_more OneZero OneOne labels, count_more OneOne OneOne labels) (omega arith)

pointer_counted : (is_old is_one : Bool) → IsCounted (labels_of Dl) (cond is_old Old (cond is_one New Weak))
pointer_counted true is_one labels = rw (count_more Old Old labels, count_more New Old labels, count_more Weak Old labels) (omega arith)
pointer_counted false true labels = rw (count_more Old New labels, count_more New New labels, count_more Weak New labels) (omega arith)
pointer_counted false false labels = rw (count_more Old Weak labels, count_more New Weak labels, count_more Weak Weak labels) (omega arith)

counter_counted : (is_exact : Bool) → IsCounted (labels_of Lock) (cond is_exact Exact Other)
counter_counted true labels = rw (count_more Exact Exact labels, count_more Other Exact labels) (omega arith)
counter_counted false labels = rw (count_more Exact Other labels, count_more Other Other labels) (omega arith)

label_counted : (shape : Shape) (m : Seen) → IsCounted (labels_of shape) (label_of shape m)
label_counted Sb m = loads_counted _ _
label_counted Dl m = pointer_counted _ _
label_counted Dm m = pointer_counted _ _
label_counted Lock m = counter_counted _

-- ---- all rounds

none_counted : (printed : List Label) → count_of_each printed [] ≡ 0
none_counted [] = refl
none_counted (label ∷ more) = let rest = none_counted more in omega (arith, rest)

pub rounds_counted : (number n : ℕ) → length (labels_of_first number n) ≡ n
unfolding labels_of_first
rounds_counted number zero = refl
rounds_counted number (suc n) = length-append (labels_of_first number n) _ ∙ (let before = rounds_counted number n in omega (arith, before))

pub all_counted : (number n : ℕ) → count_of_each (labels_of (shape_of number)) (labels_of_first number n) ≡ length (labels_of_first number n)
unfolding labels_of_first
all_counted number zero = none_counted (labels_of (shape_of number))
all_counted number (suc n) =
    label_counted (shape_of number) _ (labels_of_first number n)
    ∙ ap (λ k. k + 1) (all_counted number n)
    ∙ sym (length-append (labels_of_first number n) _)
