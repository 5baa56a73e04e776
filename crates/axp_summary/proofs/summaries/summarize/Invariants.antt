use Rattle.std.proofs.Common.{◌≡◌, ◌*◌, ◌^◌, ◌≤◌}
use Rattle.axp_summary.specs.Summaries.{events_of_first, labels_of_first}
use Rattle.axp_summary.proofs.summaries.summarize.Given as goal

-- the rounds so far, whose events are few enough for their sum
abbrev pub invariant-loop-round : goal.invariant-loop-round
invariant-loop-round l =
    (l.labels.items ≡ labels_of_first l.number l.round) × (l.events ≡ events_of_first l.number l.round) × (l.events ≤ l.round * 2 ^ 31)
