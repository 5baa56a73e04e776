use Rattle.std.proofs.Common.{◌≡◌, take}
use Rattle.axp_ibank.specs.Code.{lines_beside}
use Rattle.axp_ibank.proofs.code.without_stamps.Given as goal

abbrev pub invariant-loop-copy : goal.invariant-loop-copy
invariant-loop-copy l = l.lines.items ≡ lines_beside (take l.copy-index l.held)
