-- From label to label through a summary.
use Rattle.std.proofs.Common.{ℕ, ◌+◌, ◌<◌, List, [], ◌∷◌, length, map, take, drop, sym, ap, ◌∙◌, subst}
use Rattle.std.specs.Prelude.{get_or}
use Rattle.std.proofs.lemmas.List.{map-append, map_more, take-append-drop}
use Rattle.axp_summary.specs.declared.labels.Label.{Label}
use Rattle.axp_top.proofs.PrintingLemmas.{printed_then, stopped_longer, stopped_then}
use Rattle.axp_top.specs.Outside.{SinkState}
use Rattle.axp_top.specs.Printing.{Printed, Stopped}
use Rattle.axp_top.specs.SummaryTexts.{count_lines, count_text}
use Rattle.axp_top.specs.Texts.{Lines}
use Rattle.axp_top.specs.declared.printing.Stop.{Stop}

-- the line of label i
abbrev line_at : List Label → List Label → ℕ → Label → List ℕ
line_at labels given i other = count_text given (get_or labels i other)

pub counts_on : (b k n : SinkState) (labels given : List Label) (i : ℕ) (other : Label) → i < length labels → Printed b k (count_lines (take i labels) given) → Printed k n (line_at labels given i other ∷ []) → Printed b n (count_lines (take (i + 1) labels) given)
counts_on b k n labels given i other within before prints =
    subst (Printed b n) (sym (map_more (count_text given) labels i other within)) (printed_then b k n (count_lines (take i labels) given) (line_at labels given i other ∷ []) before prints)

pub counts_stop : (b k n : SinkState) (labels given : List Label) (i : ℕ) (other : Label) (x : Stop) → i < length labels → Printed b k (count_lines (take i labels) given) → Stopped k n (line_at labels given i other ∷ []) x → Stopped b n (count_lines labels given) x
counts_stop b k n labels given i other x within before stops =
    let front : Stopped b n (count_lines (take (i + 1) labels) given) x =
    subst (λ (t : Lines). Stopped b n t x) (sym (map_more (count_text given) labels i other within))
    (stopped_then b k n (count_lines (take i labels) given) (line_at labels given i other ∷ []) x before stops) in
    subst (λ (t : Lines). Stopped b n t x) (sym (map-append (count_text given) (take (i + 1) labels) (drop (i + 1) labels)) ∙ ap (map (count_text given)) (take-append-drop (i + 1) labels))
    (stopped_longer b n (count_lines (take (i + 1) labels) given) (count_lines (drop (i + 1) labels) given) x front)
