use Rattle.std.proofs.Common.{◌≡◌}
use Rattle.axp_machine.specs.Tails.{from_register}
use Rattle.axp_machine.proofs.machine.Machine.register_place.Given as goal

-- those before this one are passed over
abbrev pub invariant-loop-k : goal.invariant-loop-k
invariant-loop-k l = from_register l.self l.p l.k ≡ from_register l.self l.p l.n
