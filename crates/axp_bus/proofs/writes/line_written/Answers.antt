use Rattle.std.proofs.Common.{Some, ap}
use Rattle.axp_bus.proofs.writes.line_written.Goals as goal

pub returns-in-Conditional : goal.returns-in-Conditional
returns-in-Conditional c = rw (c.in-Stored.is, c.in-Conditional.is) (ap Some c.of.ensures.line)
