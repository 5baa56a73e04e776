-- A summary: what the rounds of a number showed.
use Rattle.std.specs.Prelude.{ℕ, zero, suc, ◌+◌, Bool, List, [], ◌∷◌, ◌++◌, length}
use Rattle.std.specs.List.{count_by}
use Rattle.std.specs.Str.{bytes_eq}
use Rattle.axp_gen.specs.declared.shapes.Shape.{Shape}
use Rattle.axp_gen.specs.Shapes.{shape_of}
use Rattle.axp_summary.specs.declared.labels.Label.{Label}
use Rattle.axp_summary.specs.Labels.{label_of, name_of}
use Rattle.axp_summary.specs.Rounds.{end_of_round, rounds_of}

-- the litmus test, the label of each round in order, and the number of all events
pub record Summary : Type 0 where
  pub shape : Shape
  pub labels : List Label
  pub events : ℕ

-- the label of a round
abbrev pub label_of_round : ℕ → ℕ → Label
label_of_round number round = label_of (shape_of number) (end_of_round number round)

-- those of the first n rounds, in order
unfoldable pub labels_of_first : ℕ → ℕ → List Label
labels_of_first number zero = []
labels_of_first number (suc n) = labels_of_first number n ++ label_of_round number n ∷ []

-- how many events they have together
unfoldable pub events_of_first : ℕ → ℕ → ℕ
events_of_first number zero = 0
events_of_first number (suc n) = events_of_first number n + length (end_of_round number n).records

-- the summary of all rounds of a number
abbrev pub summary_of : ℕ → Summary
summary_of number =
    let rounds = rounds_of (shape_of number) in
    record { shape = shape_of number; labels = labels_of_first number rounds; events = events_of_first number rounds }

-- two labels are one where they are printed by one word
abbrev pub is_same : Label → Label → Bool
is_same a b = bytes_eq (name_of a) (name_of b)

-- how many of these labels are this one
abbrev pub count_of : Label → List Label → ℕ
count_of label given = count_by (is_same label) given

-- how many of them are one of these, each counted once
abbrev pub count_of_each : List Label → List Label → ℕ
count_of_each [] given = 0
count_of_each (label ∷ more) given = count_of label given + count_of_each more given
