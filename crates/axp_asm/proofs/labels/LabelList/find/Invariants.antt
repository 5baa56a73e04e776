use Rattle.std.proofs.Common.{◌≡◌, drop, map}
use Rattle.axp_asm.specs.Labels.{found}
use Rattle.axp_asm.specs.Seen.{named_by}
use Rattle.axp_asm.proofs.labels.LabelList.find.Given as goal

abbrev pub invariant-loop-label : goal.invariant-loop-label
invariant-loop-label l = found l.name (map named_by (drop l.label-index l.label-items)) ≡ found l.name l.self
