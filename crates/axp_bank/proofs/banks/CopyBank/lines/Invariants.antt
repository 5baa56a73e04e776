use Rattle.std.proofs.Common.{◌≡◌, take}
use Rattle.axp_bank.specs.Copies.{held_lines}
use Rattle.axp_bank.proofs.banks.CopyBank.lines.Given as goal

abbrev pub invariant-loop-copy : goal.invariant-loop-copy
invariant-loop-copy l = l.lines.items ≡ held_lines (take l.copy-index l.copy-items)
