use Rattle.axp_io.proofs.ReadLemmas.{Reading}
use Rattle.axp_io.proofs.reading.read_whole.Given as goal

abbrev pub invariant-loop-turn : goal.invariant-loop-turn
invariant-loop-turn g l = Reading (g.F.Reader.remaining l.fn.file) (g.F.Reader.remaining l.file) (g.F.Reader.course l.fn.file) (g.F.Reader.course l.file) l.bytes l.most l.left l.fn.given l.given l.turn
