use Rattle.std.proofs.Common.{◌≡◌, ◌≤◌, length}
use Rattle.axp_seed.specs.Seeds.{working_below}
use Rattle.axp_seed.proofs.runs.working.Given as goal

abbrev pub invariant-loop-n : goal.invariant-loop-n
invariant-loop-n l = (l.numbers.items ≡ working_below l.machine l.n) × (length l.numbers.items ≤ l.n)
