use Rattle.std.proofs.Common.{arith}
use Rattle.axp_trace.proofs.DigitLemmas.{hex_turn, hex_none}
use Rattle.axp_trace.proofs.digits.push_hex.Goals as goal

pub loop-k-preserved : goal.loop-k-preserved
loop-k-preserved c = (rw c.push.ensures.items (hex_turn c.loop-k.out.items _ c.loop-k.k c.args.n c.digit.result c.loop-k-test.true c.digit.ensures c.loop-k.invariant.0), omega arith, omega arith, omega arith)

pub returns-clause-text : goal.returns-clause-text
returns-clause-text c = hex_none _ _ c.loop-k.k c.args.n (omega arith) c.loop-k.invariant.0
