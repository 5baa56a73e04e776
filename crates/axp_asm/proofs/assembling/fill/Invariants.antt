use Rattle.std.proofs.Common.{◌≡◌, ◌+◌, ◌≤◌, length}
use Rattle.axp_asm.specs.Lines.{said_in}
use Rattle.axp_asm.specs.Sources.{image_behind}
use Rattle.axp_asm.specs.declared.layout.TheConstants.{BODY_LINE}
use Rattle.axp_asm.proofs.assembling.fill.Given as goal

abbrev pub invariant-loop-line : goal.invariant-loop-line
invariant-loop-line l =
    (image_behind l.labels l.number l.draft (said_in l.rest) ≡ image_behind l.labels BODY_LINE l.fn.start (said_in l.fn.body))
    × (l.number + length l.rest ≤ BODY_LINE + length l.fn.body)

abbrev pub decreases-loop-line : goal.decreases-loop-line
decreases-loop-line l = length l.rest
