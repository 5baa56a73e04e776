use Rattle.std.proofs.Common.{arith}
use Rattle.axp_source.specs.Fields.{hex_in}
use Rattle.axp_source.proofs.NumberLemmas.{hex_turn, hex_end}
use Rattle.axp_source.proofs.numbers.hex_in.Goals as goal

pub loop-byte-preserved : goal.loop-byte-preserved
loop-byte-preserved c = hex_turn c.args.word.now c.loop-byte.byte-index c.loop-byte.number c.with_hex_digit-number.result _ c.loop-byte-test.true c.with_hex_digit-number.ensures c.loop-byte.invariant.0

pub returns : goal.returns
unfolding hex_in
returns c = hex_end c.args.word.now c.loop-byte.byte-index c.loop-byte.number c.loop-byte.invariant.0 (omega arith) c.loop-byte.invariant.1
