-- From round to round.
use Rattle.std.proofs.Common.{◌≡◌, ℕ, suc, ◌+◌, ◌*◌, ◌^◌, ◌≤◌, ◌<◌, List, [], ◌∷◌, ◌++◌, length, refl, ap, ◌∙◌, arith}
use Rattle.axp_gen.specs.declared.shapes.Shape.{Shape}
use Rattle.axp_gen.specs.Shapes.{shape_of}
use Rattle.axp_machine.specs.Runs.{Seen}
use Rattle.axp_summary.specs.declared.labels.Label.{Label}
use Rattle.axp_summary.specs.Labels.{label_of}
use Rattle.axp_summary.specs.Rounds.{end_of_round}
use Rattle.axp_summary.specs.Summaries.{events_of_first, labels_of_first}

pub no_labels : (number : ℕ) → [] ≡ labels_of_first number 0
unfolding labels_of_first
no_labels number = refl

pub no_events : (number : ℕ) → 0 ≡ events_of_first number 0
unfolding events_of_first
no_events number = refl

pub labels_on : (number round : ℕ) (labels after : List Label) (label : Label) (shape : Shape) (m : Seen) → labels ≡ labels_of_first number round → after ≡ labels ++ label ∷ [] → label ≡ label_of shape m → shape ≡ shape_of number → m ≡ end_of_round number round → after ≡ labels_of_first number (round + 1)
unfolding labels_of_first
labels_on number round labels after label shape m before pushed label_is shape_is ends =
    let one : suc round ≡ round + 1 = omega arith in
    let more : labels ++ label ∷ [] ≡ labels_of_first number (suc round) = rw (before, label_is, shape_is, ends) refl in
    pushed ∙ more ∙ ap (labels_of_first number) one

pub events_on : (number round events more : ℕ) (m : Seen) → events ≡ events_of_first number round → more ≡ length m.records → m ≡ end_of_round number round → events + more ≡ events_of_first number (round + 1)
unfolding events_of_first
events_on number round events more m before more_is ends = let one : suc round ≡ round + 1 = omega arith in let sum : events + more ≡ events_of_first number (suc round) = rw (before, more_is, ends) refl in sum ∙ ap (events_of_first number) one

pub few_events : (round events more : ℕ) → events ≤ round * 2 ^ 31 → more < 2 ^ 31 → events + more ≤ (round + 1) * 2 ^ 31
few_events round events more before few = omega (arith, before, few)
