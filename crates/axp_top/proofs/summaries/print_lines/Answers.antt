use Rattle.std.proofs.Common.{[], ◌∷◌, ◌++◌, refl}
use Rattle.axp_top.proofs.PrintingLemmas.{hands_on, printed_then, stopped_longer, stopped_then}
use Rattle.axp_top.specs.SummaryTexts.{all_count_lines, events_text, title_text, whole_summary}
use Rattle.axp_top.specs.Walks.{PrintsAnswer}
use Rattle.axp_top.proofs.summaries.print_lines.Goals as goal

pub returns-in_err-print_title : goal.returns-in_err-print_title
returns-in_err-print_title g c =
    hands_on (PrintsAnswer _ _ (whole_summary c.args.number c.args.summary.now)) c.from_residual.result c.in_err-print_title.field-0.0 c.from_residual.ensures.1
    (stopped_longer _ _ (title_text c.args.number c.args.summary.now ∷ []) _ c.in_err-print_title.field-0.0 c.in_err-print_title.ensures)

pub returns-in_err-print_all_counts : goal.returns-in_err-print_all_counts
returns-in_err-print_all_counts g c =
    hands_on (PrintsAnswer _ _ (whole_summary c.args.number c.args.summary.now)) c.from_residual-in_err-print_all_counts.result c.in_err-print_all_counts.field-0.0 c.from_residual-in_err-print_all_counts.ensures.1
    (stopped_then _ _ _ (title_text c.args.number c.args.summary.now ∷ []) (all_count_lines c.args.summary.now ++ events_text c.args.summary.now ∷ []) c.in_err-print_all_counts.field-0.0 c.in_ok-print_title.ensures
    (stopped_longer _ _ (all_count_lines c.args.summary.now) (events_text c.args.summary.now ∷ []) c.in_err-print_all_counts.field-0.0 c.in_err-print_all_counts.ensures))

pub returns-in_err-print_events : goal.returns-in_err-print_events
returns-in_err-print_events g c =
    hands_on (PrintsAnswer _ _ (whole_summary c.args.number c.args.summary.now)) c.from_residual-in_err-print_events.result c.in_err-print_events.field-0.0 c.from_residual-in_err-print_events.ensures.1
    (stopped_then _ _ _ (title_text c.args.number c.args.summary.now ∷ []) (all_count_lines c.args.summary.now ++ events_text c.args.summary.now ∷ []) c.in_err-print_events.field-0.0 c.in_ok-print_title.ensures
    (stopped_then _ _ _ (all_count_lines c.args.summary.now) (events_text c.args.summary.now ∷ []) c.in_err-print_events.field-0.0 c.in_ok-print_all_counts.ensures c.in_err-print_events.ensures))

pub returns : goal.returns
returns g c = (
  printed_then _ _ _ (title_text c.args.number c.args.summary.now ∷ []) (all_count_lines c.args.summary.now ++ events_text c.args.summary.now ∷ []) c.in_ok-print_title.ensures
      (printed_then _ _ _ (all_count_lines c.args.summary.now) (events_text c.args.summary.now ∷ []) c.in_ok-print_all_counts.ensures c.in_ok-print_events.ensures),
  refl,
)
