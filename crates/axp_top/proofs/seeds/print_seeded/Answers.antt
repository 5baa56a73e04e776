use Rattle.std.proofs.Common.{ap, refl, ◌∙◌}
use Rattle.axp_top.proofs.PrintingLemmas.{hands_on}
use Rattle.axp_top.proofs.SeededLemmas.{all_printed, header_stops, records_stop, tail_stops}
use Rattle.axp_seed.specs.Seeds.{end_of}
use Rattle.axp_top.specs.SeededRuns.{whole_answer}
use Rattle.axp_top.specs.Texts.{right_header}
use Rattle.axp_top.specs.Walks.{PrintsAnswer}
use Rattle.axp_top.proofs.seeds.print_seeded.Goals as goal

pub returns-in_err-print_line : goal.returns-in_err-print_line
returns-in_err-print_line g c =
    hands_on (PrintsAnswer _ _ (whole_answer (end_of c.args.run.now))) c.from_residual.result c.in_err-print_line.field-0.0 c.from_residual.ensures.1
    (header_stops _ _ c.args.run.now c.right_header.result.items c.in_err-print_line.field-0.0 (c.right_header.ensures.text ∙ ap right_header c.machine.ensures) c.in_err-print_line.ensures)

pub returns-in_err-print_records : goal.returns-in_err-print_records
returns-in_err-print_records g c =
    hands_on (PrintsAnswer _ _ (whole_answer (end_of c.args.run.now))) c.from_residual-in_err-print_records.result c.in_err-print_records.field-0.0 c.from_residual-in_err-print_records.ensures.1
    (records_stop _ _ _ c.args.run.now c.right_header.result.items c.in_err-print_records.field-0.0 (c.right_header.ensures.text ∙ ap right_header c.machine.ensures) c.in_ok-print_line.ensures c.in_err-print_records.ensures.printed)

pub returns-in_err-print_tail : goal.returns-in_err-print_tail
returns-in_err-print_tail g c =
    hands_on (PrintsAnswer _ _ (whole_answer (end_of c.args.run.now))) c.from_residual-in_err-print_tail.result c.in_err-print_tail.field-0.0 c.from_residual-in_err-print_tail.ensures.1
    (tail_stops _ _ _ _ c.args.run.now c.right_header.result.items c.machine-2.result.now c.in_err-print_tail.field-0.0 (c.right_header.ensures.text ∙ ap right_header c.machine.ensures) c.in_ok-print_line.ensures c.in_ok-print_records.ensures.printed
    (c.machine-2.ensures ∙ c.in_ok-print_records.ensures.end) c.in_err-print_tail.ensures)

pub returns : goal.returns
returns g c = (
  all_printed _ _ _ _ c.args.run.now c.right_header.result.items c.machine-2.result.now (c.right_header.ensures.text ∙ ap right_header c.machine.ensures) c.in_ok-print_line.ensures c.in_ok-print_records.ensures.printed
      (c.machine-2.ensures ∙ c.in_ok-print_records.ensures.end) c.in_ok-print_tail.ensures,
  refl,
)
