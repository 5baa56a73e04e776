use Rattle.axp_ticket.specs.Counting.{HasCounted}
use Rattle.axp_ticket.proofs.tests.work.Given as goal

abbrev pub invariant-loop-i : goal.invariant-loop-i
invariant-loop-i g l = HasCounted l.lock l.fn.seat l.seat l.i
