use Rattle.std.proofs.Common.{◌≡◌, ◌+◌, ◌≤◌, length}
use Rattle.axp_asm.specs.Lines.{first_formless, said_in}
use Rattle.axp_asm.proofs.assembling.first_formless.Given as goal

abbrev pub invariant-loop-line : goal.invariant-loop-line
invariant-loop-line l = (first_formless l.number (said_in l.rest) ≡ first_formless 1 (said_in l.fn.text)) × (l.number + length l.rest ≤ 1 + length l.fn.text)

abbrev pub decreases-loop-line : goal.decreases-loop-line
decreases-loop-line l = length l.rest
