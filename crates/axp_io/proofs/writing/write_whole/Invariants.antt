use Rattle.axp_io.proofs.WriteLemmas.{Writing}
use Rattle.axp_io.proofs.writing.write_whole.Given as goal

abbrev pub invariant-loop-turn : goal.invariant-loop-turn
invariant-loop-turn g l = Writing (g.W.Writer.contents l.fn.to) (g.W.Writer.contents l.to) (g.W.Writer.course l.fn.to) (g.W.Writer.course l.to) l.piece l.rest l.turn
