use Rattle.axp_shared.specs.Asking.{HasAsked}
use Rattle.axp_shared.proofs.tests.fill_often.Given as goal

abbrev pub invariant-loop-n : goal.invariant-loop-n
invariant-loop-n g l = HasAsked l.bus l.fn.seat l.seat l._n
