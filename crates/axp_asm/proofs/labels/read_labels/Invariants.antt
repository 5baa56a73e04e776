use Rattle.std.proofs.Common.{◌≡◌, ◌+◌, ◌*◌, ◌^◌, ◌++◌, ◌≤◌, length}
use Rattle.axp_asm.specs.Lines.{said_in}
use Rattle.axp_asm.specs.Labels.{labels_of}
use Rattle.axp_asm.proofs.labels.read_labels.Given as goal

abbrev pub invariant-loop-line : goal.invariant-loop-line
invariant-loop-line l =
    (l.labels ++ labels_of l.place.line l.place.address (said_in l.rest) ≡ labels_of 1 0 (said_in l.fn.text))
    × (l.place.line + length l.rest ≤ 1 + length l.fn.text)
    × (l.place.address + 2 ^ 32 * length l.rest ≤ 2 ^ 32 * length l.fn.text)

abbrev pub decreases-loop-line : goal.decreases-loop-line
decreases-loop-line l = length l.rest
