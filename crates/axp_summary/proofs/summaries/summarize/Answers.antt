use Rattle.std.proofs.Common.{◌≡◌, ◌∙◌, length, ap, arith}
use Rattle.axp_summary.proofs.LabelLemmas.{rounds_counted}
use Rattle.axp_summary.proofs.SummaryLemmas.{events_on, few_events, labels_on, no_events, no_labels}
use Rattle.axp_summary.proofs.summaries.summarize.Goals as goal

pub loop-round-init : goal.loop-round-init
loop-round-init c = (c.new-labels.ensures.items ∙ no_labels c.args.number, no_events c.args.number, omega arith)

pub loop-round-preserved : goal.loop-round-preserved
loop-round-preserved c = (
  labels_on c.args.number c.loop-round.round c.loop-round.labels.items c.push.new.self.items c.label_of.result c.shape_of-shape.result c.machine.result.now c.loop-round.invariant.0 c.in_ok-push.ensures.items c.label_of.ensures c.shape_of-shape.ensures (c.machine.ensures ∙ c.in_ok-run.ensures.end),
  events_on c.args.number c.loop-round.round c.loop-round.events c.events.result c.machine-in-loop-round.result.now c.loop-round.invariant.1 c.events.ensures.value (c.machine-in-loop-round.ensures ∙ c.in_ok-run.ensures.end),
  few_events c.loop-round.round c.loop-round.events c.events.result c.loop-round.invariant.2 c.events.ensures.few,
)

pub invariant_of-result : goal.invariant_of-result
invariant_of-result c =
    let rounds : length c.loop-round.labels.items ≡ c.loop-round.round = ap length c.loop-round.invariant.0 ∙ rounds_counted c.args.number c.loop-round.round in
    omega (arith, rounds, c.loop-round.auto.round-end, c.rounds_of-round-end.ensures.most)
