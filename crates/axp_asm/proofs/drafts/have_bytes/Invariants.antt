use Rattle.std.proofs.Common.{◌≡◌, length}
use Rattle.axp_asm.specs.Lines.{said_in}
use Rattle.axp_asm.specs.Drafts.{have_bytes}
use Rattle.axp_asm.proofs.drafts.have_bytes.Given as goal

abbrev pub invariant-loop-line : goal.invariant-loop-line
invariant-loop-line l = have_bytes (said_in l.rest) ≡ have_bytes (said_in l.fn.text)

abbrev pub decreases-loop-line : goal.decreases-loop-line
decreases-loop-line l = length l.rest
