use Rattle.std.proofs.Common.{◌≡◌}
use Rattle.axp_machine.specs.Tails.{from_quadword}
use Rattle.axp_machine.proofs.machine.Machine.quadword_place.Given as goal

-- those before this one are passed over
abbrev pub invariant-loop-k : goal.invariant-loop-k
invariant-loop-k l = from_quadword l.self l.k ≡ from_quadword l.self l.q
