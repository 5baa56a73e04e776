use Rattle.std.proofs.Common.{arith}
use Rattle.axp_source.specs.Fields.{number_in}
use Rattle.axp_source.proofs.NumberLemmas.{number_turn, number_end}
use Rattle.axp_source.proofs.numbers.number_in.Goals as goal

pub loop-byte-preserved : goal.loop-byte-preserved
loop-byte-preserved c = number_turn c.args.word.now c.loop-byte.byte-index c.loop-byte.number c.with_digit-number.result _ c.loop-byte-test.true c.with_digit-number.ensures c.loop-byte.invariant.0

pub returns : goal.returns
unfolding number_in
returns c = number_end c.args.word.now c.loop-byte.byte-index c.loop-byte.number c.loop-byte.invariant.0 (omega arith) c.loop-byte.invariant.1
