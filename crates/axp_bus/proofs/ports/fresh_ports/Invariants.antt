use Rattle.std.proofs.Common.{◌≡◌, length}
use Rattle.axp_bus.specs.Ports.{AreFresh}
use Rattle.axp_bus.proofs.ports.fresh_ports.Given as goal

abbrev pub invariant-loop : goal.invariant-loop
invariant-loop l = AreFresh l.room l.ports.items × (length l.ports.items ≡ l.counter)
