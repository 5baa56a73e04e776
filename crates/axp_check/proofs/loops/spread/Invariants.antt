use Rattle.axp_check.proofs.Rounds.{IsRound}
use Rattle.axp_check.proofs.loops.spread.Given as goal

abbrev pub invariant-loop-n : goal.invariant-loop-n
invariant-loop-n l = IsRound l.list l.initial.reached l.reached l.changed l.n
