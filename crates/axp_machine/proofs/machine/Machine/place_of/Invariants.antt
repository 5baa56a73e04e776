use Rattle.std.proofs.Common.{◌≡◌, drop}
use Rattle.axp_machine.specs.Tails.{items_from, tail_items}
use Rattle.axp_machine.proofs.machine.Machine.place_of.Given as goal

-- so many items are passed
abbrev pub invariant-loop-passed : goal.invariant-loop-passed
invariant-loop-passed l = items_from l.self l.at ≡ drop l._passed (tail_items l.self)
